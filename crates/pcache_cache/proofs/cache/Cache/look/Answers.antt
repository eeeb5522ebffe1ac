use Rattle.pcache_cache.proofs.Words.{None}
use Rattle.pcache_cache.proofs.Naming.{names_looked}
use Rattle.pcache_cache.proofs.Kept.{kept_looked}
use Rattle.pcache_cache.proofs.Words.{Some, looked_deeds}
use Rattle.pcache_cache.proofs.Adding.{looked_keeps}
use Rattle.pcache_cache.proofs.Unlocking.{if_done, none_kept}
use Rattle.pcache_cache.proofs.cache.Cache.look.Goals as goal

pub invariant_of-self : goal.invariant_of-self
invariant_of-self g c =
    let limits = g.M.EvictionManager.limits c.self.inside.manager in
    let tracked = g.M.EvictionManager.tracked c.self.inside.manager in (
      kept_looked c.self.inside.weighing limits tracked c.self.inside.store.state c.cache_lookup_without_policy.new.storage.state (Some c.self.inside.store.past) (Some c.cache_lookup_without_policy.new.storage.past) c.args.request.now.cache c.cache_lookup_without_policy.result c.cache_lookup_without_policy.ensures.looks.store c.cache_lookup_without_policy.ensures.looks.left c.self.invariant.0,
      if_done c.cache_lookup_without_policy.result (looked_deeds c.self.inside.store.state c.args.now c.self.inside.lock.table c.args.request.now.cache) (Some c.self.inside.lock.past) (Some c.cache_lookup_without_policy.new.lock.past) (looked_keeps none_kept c.self.inside.store.state c.args.now c.self.inside.lock.table c.args.request.now.cache) c.cache_lookup_without_policy.ensures.looks.deeds c.cache_lookup_without_policy.ensures.looks.same_deeds c.self.invariant.1,
      names_looked c.cache_lookup_without_policy.result None c.self.inside.store.state c.cache_lookup_without_policy.new.storage.state (Some c.self.inside.store.past) (Some c.cache_lookup_without_policy.new.storage.past) c.args.request.now.cache c.cache_lookup_without_policy.ensures.looks.past c.cache_lookup_without_policy.ensures.looks.left c.self.invariant.2,
    )
