use Rattle.pcache_store.specs.Past.{Purged}
use Rattle.pcache_request.specs.StorePasts.{purged_past}
use Rattle.pcache_cache.proofs.Words.{Some, option_map, slot}
use Rattle.pcache_cache.proofs.Adding.{no_set_purged}
use Rattle.pcache_cache.proofs.Naming.{names_if, names_kept}
use Rattle.pcache_cache.proofs.Words.{subst, sym, rules, IsKept}
use Rattle.pcache_cache.proofs.Kept.{kept_removed}
use Rattle.pcache_cache.proofs.Only.{only_removed}
use Rattle.pcache_cache.proofs.cache.Cache.remove_key.Goals as goal

pub invariant_of-self : goal.invariant_of-self
invariant_of-self g c =
    let limits = g.M.EvictionManager.limits c.self.inside.manager in
    let tracked = g.M.EvictionManager.tracked c.self.inside.manager in (
      subst (λ l. IsKept c.self.inside.weighing l (g.M.EvictionManager.tracked c.spawn_async_purge.new.eviction) c.spawn_async_purge.new.storage.state) (sym c.spawn_async_purge.ensures.purges.limits)
          (kept_removed c.self.inside.weighing limits tracked (g.M.EvictionManager.tracked c.spawn_async_purge.new.eviction) c.self.inside.store.state c.spawn_async_purge.new.storage.state c.args.request.now.cache.uses.eviction c.args.request.now.cache.key c.spawn_async_purge.result c.spawn_async_purge.ensures.purges.store c.spawn_async_purge.ensures.purges.tracked c.spawn_async_purge.ensures.purges.same_store c.spawn_async_purge.ensures.purges.same_tracked c.self.invariant.0),
      c.self.invariant.1,
      names_if c.spawn_async_purge.result (purged_past c.args.request.now.cache.key) (Some c.self.inside.store.past) (Some c.spawn_async_purge.new.storage.past) (λ x is. names_kept (option_map (λ k. Purged (slot k)) c.args.request.now.cache.key) x (no_set_purged c.args.request.now.cache.key) is) c.spawn_async_purge.ensures.purges.past c.spawn_async_purge.ensures.purges.same_past c.self.invariant.2,
    )

pub returns : goal.returns
returns g c =
    let tracked = g.M.EvictionManager.tracked in
    let inside = c.self.inside in
    let call = c.spawn_async_purge in
    let e = call.ensures in
    let r = c.args.request.now.cache in
    rw (← c.self.view_is) (record {
      takes = record {
        request = e.same;
        there = e.there;
        takes = e.purges;
        only = λ uses of its only. only_removed of inside.weighing (tracked inside.manager) (tracked call.new.eviction) inside.store.state call.new.storage.state r.uses.eviction r.key call.result e.purges.store e.purges.tracked e.purges.same_store e.purges.same_tracked uses its only;
        same = search rules;
        rest = search rules;
      };
      fetch = search rules;
    })
