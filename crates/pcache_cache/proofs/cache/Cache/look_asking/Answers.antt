use Rattle.pcache_cache.proofs.Naming.{names_looked}
use Rattle.pcache_request.specs.Admissions.{decision_taken}
use Rattle.pcache_cache.proofs.Words.{Some, looked_with_deeds}
use Rattle.pcache_cache.proofs.Kept.{kept_looked_with}
use Rattle.pcache_cache.proofs.Adding.{looked_with_keeps}
use Rattle.pcache_cache.proofs.Unlocking.{if_done, none_kept}
use Rattle.pcache_cache.proofs.cache.Cache.look_asking.Goals as goal

pub invariant_of-self : goal.invariant_of-self
invariant_of-self g c =
    let limits = g.M.EvictionManager.limits c.self.inside.manager in
    let tracked = g.M.EvictionManager.tracked c.self.inside.manager in (
      kept_looked_with c.self.inside.weighing limits tracked c.self.inside.store.state c.cache_lookup.new.storage.state (Some c.self.inside.store.past) (Some c.cache_lookup.new.storage.past) c.args.request.now.cache (decision_taken c.self.inside.store.state c.args.request.now.cache c.cache_lookup.new.self) c.cache_lookup.result c.cache_lookup.ensures.looks.store c.cache_lookup.ensures.looks.left c.self.invariant.0,
      let d = decision_taken c.self.inside.store.state c.args.request.now.cache c.cache_lookup.new.self in
          if_done c.cache_lookup.result (looked_with_deeds d c.self.inside.store.state c.args.now c.self.inside.lock.table c.args.request.now.cache) (Some c.self.inside.lock.past) (Some c.cache_lookup.new.lock.past) (looked_with_keeps none_kept d c.self.inside.store.state c.args.now c.self.inside.lock.table c.args.request.now.cache) c.cache_lookup.ensures.looks.deeds c.cache_lookup.ensures.looks.same_deeds c.self.invariant.1,
      names_looked c.cache_lookup.result (decision_taken c.self.inside.store.state c.args.request.now.cache c.cache_lookup.new.self) c.self.inside.store.state c.cache_lookup.new.storage.state (Some c.self.inside.store.past) (Some c.cache_lookup.new.storage.past) c.args.request.now.cache c.cache_lookup.ensures.looks.past c.cache_lookup.ensures.looks.left c.self.invariant.2,
    )
