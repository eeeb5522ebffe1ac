-- What is evicted for want of room alone (own): where nothing is tracked beside what is stored, a body that has room beside the
-- others evicts none.
use Rattle.std.specs.Prelude.{ℕ, ◌≡◌, ◌+◌, ◌≤◌, false, Option, Some, None, List, [], IfSome, Result, Ok, Err, is_some}
use Rattle.std.specs.FinMap.{get}
use Rattle.pcache_base.specs.Key.{Key, slot}
use Rattle.pcache_base.specs.declared.error.ErrorType.{ErrorType}
use Rattle.pcache_evict.specs.Tracked.{Limits}
use Rattle.pcache_evict.specs.declared.eviction.entry_key.CacheEntryKey.{CacheEntryKey}
use Rattle.pcache_put.specs.declared.report.PutOutcome.{PutOutcome}
use Rattle.pcache_put.specs.declared.report.PutOutcome.TheVariants as put
use Rattle.pcache_meta.specs.Meta.{Meta}
use Rattle.pcache_request.specs.declared.cache.finish.FinishReport.{FinishReport}
use Rattle.pcache_store.specs.Store.{Store, complete_body, meta_set, purged}
use Rattle.pcache_store.specs.Totals.{slots}
use Rattle.pcache_cache.specs.Parts.{Parts}
use Rattle.pcache_cache.specs.Renewing.{weight_at}
use Rattle.pcache_cache.specs.Strays.{Account, IsItsKey, TracksOnly}
use Rattle.pcache_cache.specs.Weighing.{stored_weight}
use Rattle.pcache_cache.specs.declared.weighing.Weighing.{Weighing}

-- the store without what it has under a key: the bodies beside that of the key
abbrev pub beside : Option Key → Store → Store
beside None s = s
beside (Some k) s = purged s (slot k)

-- the complete bodies of a store, and one more of this weight, are within the limits
pub record HasRoom (how : Weighing) (limits : Limits) (s : Store) (n : ℕ) : Type 0 where
  pub weight : stored_weight how s + n ≤ limits.weight
  pub count : IfSome limits.watermark (λ most. slots s + 1 ≤ most)

-- where only what is stored is tracked, and a body of this weight has room beside those of the other keys, this holds
abbrev pub IfRoom : Option Key → ℕ → Parts → Type 0 → Type 0
IfRoom key n p Holds = (of : Account) → ((e : CacheEntryKey) → of.is_left_out e ≡ false) → IsItsKey of key → TracksOnly of p.weighing p.store p.tracked → HasRoom p.weighing p.limits (beside key p.store) n → Holds

-- what the end of a write evicted, by its result
abbrev pub evicted_in : Result (Option FinishReport) ErrorType → List CacheEntryKey
evicted_in (Ok None) = []
evicted_in (Ok (Some f)) = f.evicted.items
evicted_in (Err e) = []

-- what the end of a put evicted
abbrev pub evicted_by_put : Result PutOutcome ErrorType → List CacheEntryKey
evicted_by_put (Ok (put.Stored f)) = f.evicted.items
evicted_by_put (Ok (put.NotCached reason)) = []
evicted_by_put (Err e) = []

-- what the complete body of a key weighs once it has this meta
abbrev pub weight_with : Weighing → Meta → Option Key → Store → ℕ
weight_with how x None s = 0
weight_with how x (Some k) s = weight_at how (meta_set x s (slot k)) k

-- the same keys have a complete body
abbrev pub KeepsBodies : Store → Store → Type 0
KeepsBodies s t = (k : ℕ) → is_some (complete_body (get t.slots k)) ≡ is_some (complete_body (get s.slots k))
