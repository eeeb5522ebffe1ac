use Rattle.pcache_evict.proofs.Words.{◌≡◌, Some, ap, subst, sym, refl, IsSome, lru_cache, weight_of}
use Rattle.pcache_evict.proofs.Recency.{written-put}
use Rattle.pcache_evict.proofs.eviction.recency.raise_in.Goals as goal

pub returns-clause-there : goal.returns-clause-there
returns-clause-there g c =
    let found : weight_of c.args.item.now c.args.cache.now.entries ≡ Some c.in-Some.weight.now = sym c.in-Some.ensures.value in (
      found,
      c.raised_weight-after.ensures,
      ap (λ l. lru_cache l c.args.cache.now.cap) (written-put c.args.cache.now c.args.item.now c.raised_weight-after.result (subst IsSome (sym found) refl)),
    )
