use Rattle.pcache_http.proofs.HeardLines.{begins, goes_on, ends, there}
use Rattle.pcache_http.proofs.said.hear_lines.Goals as goal

pub lines-init : goal.lines-init
lines-init g c = rw c.into_iter-line-iterator.ensures.into_iter_gives (begins g.L.Listens.Heard c.args.lines c.args.listener.now)

pub lines-preserved : goal.lines-preserved
lines-preserved g c =
    goes_on g.L.Listens.Heard c.args.lines c.lines.line-iterator c.next.new.self c.in-Some.line.now c.args.listener.now c.lines.listener c.hear_line.new.listener
    c.in-Some.ensures.steps c.lines.invariant
    (rw c.as_bytes.ensures.value at c.hear_line.ensures.there)
    (rw c.as_bytes.ensures.value at c.hear_line.ensures.heard)

pub returns-clause-heard : goal.returns-clause-heard
returns-clause-heard g c = ends g.L.Listens.Heard c.args.lines c.lines.line-iterator c.args.listener.now c.lines.listener c.in-None.ensures.steps.0 c.lines.invariant

pub returns-clause-there : goal.returns-clause-there
returns-clause-there g c = there g.L.Listens.Heard c.args.lines c.lines.line-iterator c.args.listener.now c.lines.listener c.in-None.ensures.steps.0 c.lines.invariant
