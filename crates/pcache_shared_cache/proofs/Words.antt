-- The names that several proofs of this crate cite, passed on from one place. Declares nothing.
pub use Rattle.pcache_base.specs.Key.{slot}
pub use Rattle.pcache_base.specs.declared.error.ErrorType.{ErrorType}
pub use Rattle.pcache_base.specs.declared.poll.Poll.{Poll}
pub use Rattle.pcache_base.specs.declared.poll.Poll.TheVariants.{Pending}
pub use Rattle.pcache_base.specs.declared.reason.NoCacheReason.{NoCacheReason}
pub use Rattle.pcache_cache.proofs.Adding.{dropped_keeps}
pub use Rattle.pcache_cache.proofs.Growing.{grew_by, grew_not, grew_same, kept_by_notes}
pub use Rattle.pcache_cache.specs.Ending.{Disables, EndsRequest}
pub use Rattle.pcache_cache.specs.Feeding.{DropsLeft}
pub use Rattle.pcache_cache.specs.Filling.{BeginsWrite, Writes}
pub use Rattle.pcache_cache.specs.Locking.{Publishes, Releases, TakesPermit, Waits}
pub use Rattle.pcache_cache.specs.Looking.{EndsHit, LooksUp, TakesFound}
pub use Rattle.pcache_cache.specs.Parts.{IsKept, Parts}
pub use Rattle.pcache_cache.specs.Removing.{Expires, Purges}
pub use Rattle.pcache_cache.specs.Revalidating.{Revalidates, ServesUncacheable, Varies}
pub use Rattle.pcache_evict.specs.Tracked.{Evicted, Limits, Tracked}
pub use Rattle.pcache_evict.specs.declared.eviction.policy.EvictionPolicy.TheVariants.{Lru}
pub use Rattle.pcache_lock.specs.declared.lock.outcome.LockWaitOutcome.{LockWaitOutcome}
pub use Rattle.pcache_lock.specs.declared.lock.status.LockStatus.{LockStatus}
pub use Rattle.pcache_lock.specs.declared.lock.status.LockStatus.TheVariants.{Done}
pub use Rattle.pcache_meta.specs.Meta.{Meta}
pub use Rattle.pcache_put.specs.Puts.{Piece}
pub use Rattle.pcache_put.specs.State.{Put}
pub use Rattle.pcache_request.specs.LockUse.{published_by, table_handed}
pub use Rattle.pcache_request.specs.LockWaits.{table_waited}
pub use Rattle.pcache_request.specs.Requests.{Request, found_for, let_go_by, settled, table_found}
pub use Rattle.pcache_request.specs.StorePasts.{dropped_past, searched_past}
pub use Rattle.pcache_request.specs.Variants.{is_hidden, is_unseen_for, table_key_locked, table_looked_for, table_varied}
pub use Rattle.pcache_request.specs.declared.cache.finish.WriteEnd.{WriteEnd}
pub use Rattle.pcache_request.specs.declared.phase.HitStatus.{HitStatus}
pub use Rattle.pcache_shared_cache.specs.Managed.{Managed, Portioned, Unmade, listed, managed_in, no_entries, opened, unmade_limits, unmade_managed, unmade_name, unmade_portion}
pub use Rattle.pcache_shared_cache.specs.Portions.{portion, portion_at, portions, whole_watermark, whole_weight}
pub use Rattle.pcache_shared_cache.specs.Seen.{Begins, Begun, EndsWith, Goes, Held, IsNamed, IsSound, Leads, Placed, StartsWith, begun_first, first_of, limits_in}
pub use Rattle.pcache_shared_cache.specs.Shared.{OfPart, Seated}
pub use Rattle.pcache_shared_cache.specs.SharedPuts.{SeatedPut}
pub use Rattle.pcache_shared_cache.specs.Turns.{AsksOfWait, ReadsBody, asked}
pub use Rattle.pcache_store.specs.Notes.{leave_noted, noted}
pub use Rattle.pcache_store.specs.Readers.{if_complete, in_memory, needs_no_store, reader_of}
pub use Rattle.pcache_store.specs.Store.{Reader, Store}
pub use Rattle.pcache_store.specs.Totals.{slots, stored_bytes}
pub use Rattle.pcache_store.specs.declared.memory.hit.MemHitHandler.{MemHitHandler}
pub use Rattle.std.proofs.Common.{Bool, Err, IfSome, IsSome, List, None, Ok, OnErr, OnOk, Option, Result, Some, [], ap, append_assoc, arith, cond, false, inl, inr, length, map, option_map, refl, rules, slice_get, subst, suc, sym, take, true, zero, ℕ, ⊎_elim, ◌*◌, ◌++◌, ◌+◌, ◌<◌, ◌∙◌, ◌∷◌, ◌≡◌, ◌≤◌}
pub use Rattle.std.proofs.lemmas.List.{map-append, nil_from_length, take_all}
pub use Rattle.std.proofs.lemmas.List.Elements.{All-push}
pub use Rattle.std.proofs.lemmas.List.Sums.{sum_by-cons}
pub use Rattle.std.proofs.lemmas.Simd.{map-map}
pub use Rattle.std.specs.Duration.{as_nanos}
pub use Rattle.std.specs.List.{All, range_with_len}
pub use Rattle.std.specs.Prelude.{IfOk, slice_index_or, sum, sum_by, vec_capacity, vec_len}
