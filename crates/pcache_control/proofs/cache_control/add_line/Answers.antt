use Rattle.pcache_control.proofs.Words.{refl, ◌∙◌, entries_of}
use Rattle.pcache_control.proofs.Lines.{next_line, lies_within, held_more, held_all, added_more, added_all}
use Rattle.pcache_control.proofs.cache_control.add_line.Goals as goal

pub spans-init : goal.spans-init
spans-init c =
    let start = c.into_iter-span-iterator.ensures.into_iter_gives ∙ c.new-span-items.ensures in
    rw start (record { line = refl; held = λ rest are. are; added = λ named. refl; named = λ named. named })

pub add_directive-requires : goal.add_directive-requires
add_directive-requires c = lies_within c.args.line.now c.spans.span-iterator c.next.new.self c.in-Some.span c.spans.invariant.line c.in-Some.ensures.steps

pub spans-preserved : goal.spans-preserved
spans-preserved c =
    let step = c.in-Some.ensures.steps in
    record {
      line = next_line c.args.line.now c.spans.span-iterator c.next.new.self c.in-Some.span c.spans.invariant.line step;
      held = held_more c.args.line.now c.spans.span-iterator c.next.new.self c.spans.yielded c.in-Some.span c.spans.invariant.line step c.spans.invariant.held;
      added = λ named. added_more c.args.line.now c.spans.yielded c.in-Some.span
          (entries_of c.args.directives.now.entries) (entries_of c.spans.directives.entries) (entries_of c.add_directive.new.directives.entries)
          (c.spans.invariant.added named) (c.in_ok-add_directive.ensures.added (c.spans.invariant.named named));
      named = λ named. c.in_ok-add_directive.ensures.named (c.spans.invariant.named named);
    }

pub returns-clause-added : goal.returns-clause-added
returns-clause-added c = λ named spans are.
    let there = held_all c.args.line.now c.spans.span-iterator c.next.new.self c.spans.yielded c.spans.invariant.line c.in-None.ensures.steps c.spans.invariant.held in
    added_all c.args.line.now c.spans.yielded spans (entries_of c.args.directives.now.entries) (entries_of c.spans.directives.entries) there are (c.spans.invariant.added named)

pub returns-clause-there : goal.returns-clause-there
returns-clause-there c =
    (c.spans.yielded, held_all c.args.line.now c.spans.span-iterator c.next.new.self c.spans.yielded c.spans.invariant.line c.in-None.ensures.steps c.spans.invariant.held)
