-- The names that several proofs of this crate cite, passed on from one place. Declares nothing.
pub use Rattle.lru.specs.LruCache.{LruCache, last_entry}
pub use Rattle.pcache_evict.proofs.EntryOrder.{exact_entries}
pub use Rattle.pcache_evict.proofs.Maps.{get-map_of, inside, map-moved, map-others, weight-map_of}
pub use Rattle.pcache_evict.proofs.Recency.{distinct-others, laws, same_key}
pub use Rattle.pcache_evict.specs.Entry.{entries_total, entry_cmp, entry_eq}
pub use Rattle.pcache_evict.specs.Listed.{map_of}
pub use Rattle.pcache_evict.specs.Recency.{IsWithinAsList, Recency, others, weight, weight_of}
pub use Rattle.pcache_evict.specs.Tracked.{IsFair, IsWithin, Limits, Tracked, limits_of, weight_in, without}
pub use Rattle.pcache_evict.specs.declared.eviction.entry_key.CacheEntryKey.{CacheEntryKey}
pub use Rattle.pcache_evict.specs.declared.eviction.policy.EvictionPolicy.{EvictionPolicy}
pub use Rattle.pcache_evict.specs.declared.eviction.policy.EvictionPolicy.TheVariants.{S3Fifo}
pub use Rattle.pcache_policies.specs.Leaving.{Coming, HasRoom, Run}
pub use Rattle.pcache_policies.specs.Managed.{Admits, KeepsLimits, Lawful, Managed, entries_in}
pub use Rattle.pcache_policies.specs.OneQueue.{spares}
pub use Rattle.pcache_policies.specs.Queue.{IsKept, Queue, plain, reseen, rest_of, seen_of, spent, unused}
pub use Rattle.pcache_policies.specs.Ring.{IsRing, Ring, SameEntries, all, chosen, in_turn, ring}
pub use Rattle.pcache_policies.specs.S3Fifo.{Fifos, Ghosts, fifos, forgotten, ghosted, is_ghost}
pub use Rattle.pcache_policies.specs.Sieve.{sieve, turns}
pub use Rattle.pcache_policies.specs.TwoQueues.{queues, remembered}
pub use Rattle.pcache_policies.specs.declared.queue.Seen.{Seen}
pub use Rattle.std.proofs.Common.{Bool, List, None, Option, Some, [], ap, append-nil, append_assoc, arith, cond, false, inl, inr, is_some, length, length-append, min, nat_eq, not, option_map, refl, reverse, subst, suc, sym, take, true, unwrap_or, zero, ℕ, ◌*◌, ◌++◌, ◌+◌, ◌-◌, ◌<◌, ◌^◌, ◌∙◌, ◌∷◌, ◌≡◌, ◌≤◌}
pub use Rattle.std.proofs.lemmas.Bool.{both_ways}
pub use Rattle.std.proofs.lemmas.List.{reverse-append}
pub use Rattle.std.proofs.lemmas.List.Elements.{All-cons}
pub use Rattle.std.proofs.lemmas.List.Sums.{sum_by-append, sum_by-cons}
pub use Rattle.std.proofs.lemmas.Map.Keys.{IsDistinct-cons, IsDistinct-head, IsDistinct-tail}
pub use Rattle.std.proofs.lemmas.Result.{IfOk-weaker, on_err_weaker}
pub use Rattle.std.specs.List.{AllByRecursion, filter}
pub use Rattle.std.specs.Map.{keys_of}
pub use Rattle.std.specs.Ordering.{eq_by_cmp}
pub use Rattle.std.specs.Prelude.{IfSome, IsSome, IsTrue, ◌≢◌, ◌⊎◌}
