use Rattle.pcache_store.specs.OneResponse.{SetsNameTheirs}
use Rattle.pcache_cache.proofs.Kept.{kept_none}
use Rattle.pcache_cache.proofs.Words.{subst, sym, refl, UnlocksNone}
use Rattle.pcache_cache.proofs.cache.Cache.with_weighing.Goals as goal

pub invariant_of-result : goal.invariant_of-result
invariant_of-result g c = (
  kept_none c.args.weighing (g.M.EvictionManager.limits c.args.manager) (g.M.EvictionManager.tracked c.args.manager) c.newest_first.result.state c.newest_first.ensures.state,
  subst UnlocksNone (sym c.new.ensures.past) refl,
  subst SetsNameTheirs (sym c.newest_first.ensures.past) tt,
)
