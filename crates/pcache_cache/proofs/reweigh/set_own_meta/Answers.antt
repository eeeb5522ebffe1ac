use Rattle.pcache_cache.proofs.Words.{◌≡◌, true, Some, Stock}
use Rattle.pcache_cache.specs.Renewing.{is_its_body}
use Rattle.pcache_cache.proofs.Adding.{renews_keeps}
use Rattle.pcache_cache.proofs.Naming.{names_kept, set_named}
use Rattle.pcache_cache.proofs.reweigh.set_own_meta.Goals as goal

pub returns-clause-named : goal.returns-clause-named
returns-clause-named g c =
    let manager = c.args.manager.now in
    let new = c.set_meta.new.manager in
    let meta = c.args.meta.now in
    let key = Some c.args.key.now in
    let a : Stock = record { store = c.args.store.now.state; past = c.args.store.now.past; tracked = g.M.EvictionManager.tracked manager; evicted = g.M.EvictionManager.evicted manager } in
    let b : Stock = record { store = c.set_meta.new.store.state; past = c.set_meta.new.store.past; tracked = g.M.EvictionManager.tracked new; evicted = g.M.EvictionManager.evicted new } in
    let own : is_its_body meta key a.store ≡ true = cc in
    λ named. renews_keeps names_kept c.args.weighing (g.M.EvictionManager.limits manager) meta key c.set_meta.result a b (set_named meta key a c.headline.ensures.bodies c.headline.ensures.kept own named) c.set_meta.ensures.renews named
