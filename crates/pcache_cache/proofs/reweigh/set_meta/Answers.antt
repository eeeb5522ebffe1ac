use Rattle.pcache_cache.proofs.Words.{subst, sym, IsKept}
use Rattle.pcache_cache.proofs.Renewed.{kept_renewed}
use Rattle.pcache_cache.proofs.reweigh.set_meta.Goals as goal

pub returns-clause-kept : goal.returns-clause-kept
returns-clause-kept g c = λ kept.
    let tracked = g.M.EvictionManager.tracked in
    let evicted = g.M.EvictionManager.evicted in
    let limits = g.M.EvictionManager.limits c.args.manager.now in
    let new = c.set_of_body.new in
    subst (λ l. IsKept c.args.weighing l (tracked new.manager) new.store.state) (sym c.set_of_body.ensures.limits)
    (kept_renewed c.args.weighing limits c.args.meta.now c.args.key.now c.set_of_body.result
    (record { store = c.args.store.now.state; past = c.args.store.now.past; tracked = tracked c.args.manager.now; evicted = evicted c.args.manager.now })
    (record { store = new.store.state; past = new.store.past; tracked = tracked new.manager; evicted = evicted new.manager })
    c.set_of_body.ensures.renews kept)
