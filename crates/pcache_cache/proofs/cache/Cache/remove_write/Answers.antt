use Rattle.pcache_store.specs.OneResponse.{SetsNameTheirs}
use Rattle.pcache_store.specs.Store.{write_purged}
use Rattle.pcache_base.specs.CompactKey.{compact_slot}
use Rattle.pcache_cache.proofs.Kept.{kept_fewer}
use Rattle.pcache_cache.proofs.Standing.{fewer-write_purged}
use Rattle.pcache_cache.proofs.Words.{IsKept, refl, subst, sym}
use Rattle.pcache_cache.proofs.cache.Cache.remove_write.Goals as goal

pub invariant_of-self : goal.invariant_of-self
invariant_of-self g c =
    let inside = c.self.inside in
    let limits = g.M.EvictionManager.limits inside.manager in
    let tracked = g.M.EvictionManager.tracked inside.manager in
    let slot = compact_slot c.args.key in
    let number = c.number.result in (
      subst (IsKept inside.weighing limits tracked) (sym c.remove_one.ensures.state)
          (kept_fewer inside.weighing limits tracked inside.store.state (write_purged inside.store.state slot number) (fewer-write_purged inside.weighing inside.store.state slot number) refl c.self.invariant.0),
      c.self.invariant.1,
      subst SetsNameTheirs (sym c.remove_one.ensures.past) c.self.invariant.2,
    )
