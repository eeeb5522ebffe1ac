use Rattle.pcache_control.proofs.AllLines.{begins, goes_on, ends, once}
use Rattle.pcache_control.proofs.cache_control.from_lines.Goals as goal

pub lines-init : goal.lines-init
lines-init c = rw (c.into_iter-line-iterator.ensures.into_iter_gives, c.with_hasher-directives.ensures.empty) (begins c.args.lines)

pub lines-preserved : goal.lines-preserved
lines-preserved c =
    goes_on c.args.lines c.lines.line-iterator c.next.new.self c.in-Some.line.now c.lines.directives.entries c.add_line.new.directives.entries
    c.in-Some.ensures.steps c.lines.invariant
    (rw c.as_bytes.ensures.value at c.in_ok-add_line.ensures.there)
    (rw c.as_bytes.ensures.value at (c.in_ok-add_line.ensures.added c.lines.invariant.named))
    (c.in_ok-add_line.ensures.named c.lines.invariant.named)

pub returns-clause-read : goal.returns-clause-read
returns-clause-read c = ends c.args.lines c.lines.line-iterator c.lines.directives.entries c.in-None.ensures.steps.0 c.lines.invariant

pub returns-clause-only : goal.returns-clause-only
returns-clause-only c =
    once _ c.lines.directives.entries (ends c.args.lines c.lines.line-iterator c.lines.directives.entries c.in-None.ensures.steps.0 c.lines.invariant)
