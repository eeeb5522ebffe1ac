use Rattle.pcache_control.proofs.Lines.{next_line, lies_within, held_more, held_all}
use Rattle.pcache_http.proofs.Words.{refl, sym, ap, ◌∙◌, subst, append_assoc, append-nil, ◌++◌, ◌∷◌, [], directives_only, directives_in, directive_in}
use Rattle.pcache_http.proofs.HeardLines.{directives_in-more}
use Rattle.pcache_http.proofs.said.hear_line.Goals as goal

pub spans-init : goal.spans-init
spans-init g c =
    let start = c.into_iter-span-iterator.ensures.into_iter_gives ∙ c.new-span-items.ensures in
    rw start (record {
      line = refl;
      held = λ rest are. are;
      heard = λ start said is. subst (λ ds. g.L.Listens.Heard start ds c.args.listener.now) (sym (append-nil said)) is;
    })

pub hear_span-requires : goal.hear_span-requires
hear_span-requires g c = lies_within c.args.line.now c.spans.span-iterator c.next.new.self c.in-Some.span c.spans.invariant.line c.in-Some.ensures.steps

pub spans-preserved : goal.spans-preserved
spans-preserved g c =
    let step = c.in-Some.ensures.steps in
    let line = c.args.line.now in
    record {
      line = next_line line c.spans.span-iterator c.next.new.self c.in-Some.span c.spans.invariant.line step;
      held = held_more line c.spans.span-iterator c.next.new.self c.spans.yielded c.in-Some.span c.spans.invariant.line step c.spans.invariant.held;
      heard = λ start said is. subst (λ ds. g.L.Listens.Heard start ds c.hear_span.new.listener)
          (append_assoc said (directives_in line c.spans.yielded) (directive_in line c.in-Some.span ∷ [])
          ∙ ap (λ ds. said ++ ds) (sym (directives_in-more line c.spans.yielded c.in-Some.span)))
          (c.hear_span.ensures start (said ++ directives_in line c.spans.yielded) (c.spans.invariant.heard start said is));
    }

pub returns-clause-heard : goal.returns-clause-heard
returns-clause-heard g c = λ start said spans are is.
    let line = c.args.line.now in
    let there = held_all line c.spans.span-iterator c.next.new.self c.spans.yielded c.spans.invariant.line c.in-None.ensures.steps c.spans.invariant.held in
    subst (λ ss. g.L.Listens.Heard start (said ++ directives_in line ss) c.spans.listener) (directives_only line 0 c.spans.yielded spans there are) (c.spans.invariant.heard start said is)

pub returns-clause-there : goal.returns-clause-there
returns-clause-there g c =
    (c.spans.yielded, held_all c.args.line.now c.spans.span-iterator c.next.new.self c.spans.yielded c.spans.invariant.line c.in-None.ensures.steps c.spans.invariant.held)
