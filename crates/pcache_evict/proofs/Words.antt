-- The names that several proofs of this crate cite, passed on from one place. Declares nothing.
pub use Rattle.lru.specs.LruCache.{LruCache, demoted, lru_cache}
pub use Rattle.pcache_evict.specs.Chain.{Walks, chain, span}
pub use Rattle.pcache_evict.specs.Entry.{entries_total, entry_cmp, entry_eq, entry_ties}
pub use Rattle.pcache_evict.specs.Listed.{IsEnough, IsKept, IsOnce, Listed, map_of}
pub use Rattle.pcache_evict.specs.Recency.{IsWithinAsList, Recency, accessed, incremented, moved, others, weight_of}
pub use Rattle.pcache_evict.specs.Shards.{AreKept, AreLengths, AreLonger, ArePlaced, IsShard, RunsOut, added_last_all, all, grown, in_shard, list_at, no_entries, reweighed, shard_of}
pub use Rattle.pcache_evict.specs.Tracked.{IsFair, IsWithin, Limits, Tracked, added, evicted_with, limits_of, raised, weight_in, without}
pub use Rattle.pcache_evict.specs.declared.eviction.entry_key.CacheEntryKey.{CacheEntryKey}
pub use Rattle.pcache_evict.specs.declared.eviction.policy.EvictionPolicy.TheVariants.{Lru, ShardedLru}
pub use Rattle.pcache_evict.specs.declared.eviction.recency.Walk.{Walk}
pub use Rattle.std.proofs.Common.{All, Bool, IfSome, IsTrue, List, None, Option, Some, [], ap, append_assoc, arith, cond, false, inl, inr, is_some, length, length-append, min, not, refl, reverse, subst, suc, sym, take, true, unwrap_or, zero, ℕ, ◌++◌, ◌+◌, ◌-◌, ◌<◌, ◌^◌, ◌∙◌, ◌∷◌, ◌≡◌, ◌≤◌}
pub use Rattle.std.proofs.lemmas.Bool.{both_ways, cases_eq, cases_lt, not-false, not-true}
pub use Rattle.std.proofs.lemmas.List.{get_or-set_other, get_or-set_same, get_or_default, length-set, reverse-append, take_all, take_at}
pub use Rattle.std.proofs.lemmas.List.Elements.{All-append, All-cons, All-filter, All-head, All-nil, All-push, All-tail, filter-append, recursion_from_All}
pub use Rattle.std.proofs.lemmas.List.Sums.{sum_by-append, sum_by-cons}
pub use Rattle.std.proofs.lemmas.Map.{length-set_value}
pub use Rattle.std.proofs.lemmas.Map.Keys.{IsDistinct-cons, IsDistinct-head, IsDistinct-tail}
pub use Rattle.std.specs.Cmp.{eq_by_cmp_equiv}
pub use Rattle.std.specs.List.{AllByRecursion, list_any}
pub use Rattle.std.specs.Map.{keys_of}
pub use Rattle.std.specs.Ordering.{eq_by_cmp}
pub use Rattle.std.specs.Prelude.{IsSome, slice_index_or, slice_set}
pub use Rattle.std.specs.Vec.{vec_capacity}
pub use Rattle.std.specs.declared.cmp.Ordering.{Ordering}
pub use Rattle.std.specs.declared.cmp.Ordering.TheVariants.{Equal, Greater, Less}
