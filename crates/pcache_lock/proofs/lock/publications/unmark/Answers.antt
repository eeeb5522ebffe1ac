use Rattle.pcache_lock.proofs.Words.{◌≤◌, ◌∙◌, ◌&&◌, not, ap, arith, length, contains, nat_cmp}
use Rattle.pcache_lock.proofs.Published.{more_out, whole, all_yet}
use Rattle.pcache_lock.proofs.lock.publications.unmark.Goals as goal

pub loop-token-init : goal.loop-token-init
loop-token-init c = λ q. all_yet (contains nat_cmp c.args.index.now q)

pub loop-token-preserved : goal.loop-token-preserved
loop-token-preserved c = λ q. more_out c.args.index.now c.loop-token.index c.remove.new.self c.args.place c.args.tokens.now c.loop-token.token-index c.entry.result q c.loop-token-test.true c.entry.ensures (c.loop-token.invariant q) (c.remove.ensures.updates.0 q)

pub returns : goal.returns
returns c =
    let all : length c.args.tokens.now ≤ c.loop-token.token-index = omega arith in
    λ q. c.loop-token.invariant q ∙ ap (λ b. contains nat_cmp c.args.index.now q && not b) (whole c.args.place c.args.tokens.now c.loop-token.token-index q all)
