-- The lists of a predictor as they are kept (own): LRU shards of a table.
use Rattle.std.specs.Prelude.{ℕ, ◌≡◌, List, Some, map, nat_eq, slice_get}
use Rattle.lru.specs.LruCache.{lru_cache, IsValid}
use Rattle.pcache_base.specs.declared.reason.NoCacheReason.{NoCacheReason}
use Rattle.pcache_table.specs.Sharding.{LruPart}
use Rattle.pcache_predict.specs.Remembered.{Shard}

-- a shard of the table as a plain list of marked keys
abbrev pub list_seen : LruPart NoCacheReason → Shard
list_seen p = record { capacity = p.cap; keys = p.entries }

abbrev pub seen : List (LruPart NoCacheReason) → List Shard
seen ps = map list_seen ps

-- no key occurs twice in a shard, and it has at most as many keys as its capacity, which is not zero
abbrev pub IsKept : LruPart NoCacheReason → Type 0
IsKept p = IsValid nat_eq (lru_cache p.entries p.cap)

abbrev pub AreKept : List (LruPart NoCacheReason) → Type 0
AreKept ps = (place : ℕ) (p : LruPart NoCacheReason) → slice_get ps place ≡ Some p → IsKept p
