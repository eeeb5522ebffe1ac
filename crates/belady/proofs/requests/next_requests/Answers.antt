use Rattle.std.proofs.Common.{◌≡◌, ◌+◌, ◌-◌, ◌<◌, arith, subst, sym, length}
use Rattle.belady.proofs.Backwards.{Seen, one_more}
use Rattle.belady.proofs.requests.next_requests.Goals as goal

pub loop-done-preserved : goal.loop-done-preserved
loop-done-preserved c =
    let bodies = c.args.bodies.now in
    let i = length bodies - 1 - c.loop-done.done in
    let below : c.loop-done.done < length bodies = c.loop-done-test.true in
    let same : length bodies - (c.loop-done.done + 1) ≡ i = omega arith in
    let more : length bodies - c.loop-done.done ≡ i + 1 = omega arith in
    let lt : i < length bodies = omega arith in
    subst (λ n. Seen bodies n c.push.new.self.items c.insert.new.self.entries) (sym same)
    (one_more bodies i 0 c.loop-done.found.items c.push.new.self.items c.loop-done.last.entries c.insert.new.self.entries c.in_ok-insert.field-0 lt
    (subst (λ n. Seen bodies n c.loop-done.found.items c.loop-done.last.entries) more c.loop-done.invariant)
    c.in_ok-insert.ensures.old c.in_ok-insert.ensures.updates.0 c.in_ok-push.ensures.items)
