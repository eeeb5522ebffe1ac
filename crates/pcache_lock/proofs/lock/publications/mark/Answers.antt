use Rattle.pcache_lock.proofs.Words.{◌≤◌, ◌∙◌, ◌||◌, ◌&&◌, not, ap, arith, length, is_at, contains, list_any, nat_cmp, is_entry_for}
use Rattle.pcache_lock.proofs.Published.{more_in, as_before, whole, none_yet}
use Rattle.pcache_lock.proofs.lock.publications.mark.Goals as goal

pub loop-token-init : goal.loop-token-init
loop-token-init c = λ q. none_yet (contains nat_cmp c.args.index.now q)

pub returns-in_default-clause-err : goal.returns-in_default-clause-err
returns-in_default-clause-err c = λ q.
    as_before c.args.index.now c.loop-token.index c.unmark.new.index c.args.place c.args.tokens.now c.loop-token.token-index q (c.requires q) (c.loop-token.invariant q)
    (c.unmark.ensures q ∙ ap (λ ks. list_any (is_at (nat_cmp q)) ks && not (is_entry_for c.args.place c.args.tokens.now q)) c.in_default.ensures.err)

pub loop-token-preserved : goal.loop-token-preserved
loop-token-preserved c = λ q.
    more_in c.args.index.now c.loop-token.index c.insert.new.self c.args.place c.args.tokens.now c.loop-token.token-index c.entry.result q c.loop-token-test.true c.entry.ensures (c.loop-token.invariant q)
    (c.in-Ok.ensures.updates.0 q)

pub returns-clause-ok : goal.returns-clause-ok
returns-clause-ok c =
    let all : length c.args.tokens.now ≤ c.loop-token.token-index = omega arith in
    λ q. c.loop-token.invariant q ∙ ap (λ b. contains nat_cmp c.args.index.now q || b) (whole c.args.place c.args.tokens.now c.loop-token.token-index q all)
