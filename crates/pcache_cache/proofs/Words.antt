-- The names that several proofs of this crate cite, passed on from one place. Declares nothing.
pub use Rattle.pcache_base.proofs.Totals.{len-total, total-empty, total-remove}
pub use Rattle.pcache_base.specs.CompactKey.{compact_of}
pub use Rattle.pcache_base.specs.Key.{Key, slot}
pub use Rattle.pcache_base.specs.Totals.{share, total}
pub use Rattle.pcache_base.specs.declared.error.ErrorType.{ErrorType}
pub use Rattle.pcache_base.specs.declared.reason.NoCacheReason.{NoCacheReason}
pub use Rattle.pcache_cache.specs.OwnPut.{put_past}
pub use Rattle.pcache_cache.specs.Parts.{Adds, IsBounded, IsKept, MayEnd, Parts, TracksExactly, is_own_write, replaced_in}
pub use Rattle.pcache_cache.specs.Renewing.{IsNotSet, IsSet, Renews, Stock, entry_at, meta_given, reweighs, weight_at}
pub use Rattle.pcache_cache.specs.Room.{HasRoom, IfRoom, KeepsBodies, beside, weight_with}
pub use Rattle.pcache_cache.specs.Strays.{Account, IsBody, IsItsKey, TracksOnly}
pub use Rattle.pcache_cache.specs.Weighing.{body_weight, ending_weight, entered, slot_weight, stored_weight, weight_of, write_weight}
pub use Rattle.pcache_cache.specs.declared.weighing.Weighing.{Weighing}
pub use Rattle.pcache_evict.proofs.EntryOrder.{exact_entries}
pub use Rattle.pcache_evict.specs.Entry.{entries_total, entry_cmp, id_of}
pub use Rattle.pcache_evict.specs.Tracked.{IsFair, IsWithin, Limits, Tracked, weight, without}
pub use Rattle.pcache_evict.specs.declared.eviction.entry_key.CacheEntryKey.{CacheEntryKey}
pub use Rattle.pcache_evict.specs.declared.eviction.entry_key.CacheEntryKey.TheVariants.{Identified}
pub use Rattle.pcache_lock.specs.Deeds.{Deed}
pub use Rattle.pcache_lock.specs.Locks.{Locks}
pub use Rattle.pcache_lock.specs.PastLaws.{UnlocksNone, is_unlocking}
pub use Rattle.pcache_lock.specs.declared.lock.permit.Locked.{Locked}
pub use Rattle.pcache_lock.specs.declared.lock.status.LockStatus.{LockStatus}
pub use Rattle.pcache_lock.specs.declared.lock.status.LockStatus.TheVariants.{Done, GiveUp}
pub use Rattle.pcache_meta.specs.HeaderText.{header_written}
pub use Rattle.pcache_meta.specs.Meta.{Meta, expired_at}
pub use Rattle.pcache_predict.specs.declared.admission.Decision.{Decision}
pub use Rattle.pcache_put.specs.State.{HasDeclined, InBody, InHead, IsOver, Put, Stage, entry_in, write_in}
pub use Rattle.pcache_put.specs.Steps.{EndsEarly, EndsPut, stage_begun, tracked_before_put, write_end}
pub use Rattle.pcache_put.specs.declared.report.PutEnd.{PutEnd}
pub use Rattle.pcache_put.specs.declared.report.PutOutcome.{PutOutcome}
pub use Rattle.pcache_request.specs.Admissions.{is_deferral}
pub use Rattle.pcache_request.specs.Failures.{FailsToBegin}
pub use Rattle.pcache_request.specs.Finishing.{PurgesAll, Stores, Withdraws, entry_slot}
pub use Rattle.pcache_request.specs.LockPasts.{Deeds, end_deeds, found_deeds, handed_deeds, let_go_deeds, looked_deeds, looked_with_deeds, published_deeds, settled_deeds, varied_deeds, waited_deeds}
pub use Rattle.pcache_request.specs.Phases.{is_treated_as_miss}
pub use Rattle.pcache_request.specs.Releasing.{status_for}
pub use Rattle.pcache_request.specs.Replacing.{tracked_before, tracked_before_end, without_entry}
pub use Rattle.pcache_request.specs.Requests.{Request, begun_for, dropped_by, entry_of, followed_for, found_for, left_by, settled, store_writing, tracked_gone, tracked_gone_for}
pub use Rattle.pcache_request.specs.StorePasts.{Past, dropped_past}
pub use Rattle.pcache_request.specs.Variants.{is_hidden, is_unseen_for}
pub use Rattle.pcache_request.specs.WriteEnds.{Ends, EndsBody, EndsIdle, HoldsNoLock}
pub use Rattle.pcache_request.specs.declared.cache.finish.FinishReport.{FinishReport}
pub use Rattle.pcache_request.specs.declared.cache.finish.WriteEnd.{WriteEnd}
pub use Rattle.pcache_request.specs.declared.phase.HitStatus.{HitStatus}
pub use Rattle.pcache_response.specs.Progress.{Parsed}
pub use Rattle.pcache_store.specs.Finishes.{body_number}
pub use Rattle.pcache_store.specs.Past.{Note}
pub use Rattle.pcache_store.specs.Purge.{entry_purged, expire_outcome, purge_outcome, purged_at, slot_outcome}
pub use Rattle.pcache_store.specs.Readers.{in_memory}
pub use Rattle.pcache_store.specs.Store.{Part, Reader, Slot, Store, Stored, Whole, begun, body_without, complete_body, dropped, dropped_on, finished, followed, followed_by, has_body_of, is_idle, is_untouched, is_write_under, left, meta_changed, meta_changed_in, meta_changed_on, meta_set, number_of_body, purged, shut, shut_on, with_meta, with_slot, write_purged}
pub use Rattle.pcache_store.specs.Totals.{body_count, body_size, one, slots}
pub use Rattle.pcache_store.specs.declared.storage.MissFinishType.TheVariants.{Created}
pub use Rattle.pcache_store.specs.declared.storage.PurgeOutcome.TheVariants.{Expired, NotFound}
pub use Rattle.std.proofs.Common.{Bool, Err, IfErr, IfSome, List, None, Ok, OnErr, OnOk, Option, Result, Some, [], ap, arith, cond, false, inl, inr, is_some, length, nat_eq, option_map, refl, rules, subst, suc, sym, true, zero, ℕ, ◌+◌, ◌-◌, ◌==◌, ◌∙◌, ◌∷◌, ◌≡◌, ◌≢◌, ◌≤◌, ◌⊎◌}
pub use Rattle.std.proofs.lemmas.Bool.{both_ways, eq-eqb, eqb-true}
pub use Rattle.std.specs.Cmp.{nat_cmp_total, tied_itself}
pub use Rattle.std.specs.FinMap.{FinMap, empty_of_len, entries, find, get, get-entries, get-insert, get-remove, insert, len, len-entries, len-remove, nat_cmp-IsAntisymmetric, remove}
pub use Rattle.std.specs.Option.{option_and_then, option_eq}
pub use Rattle.std.specs.Ordering.{eq_by_cmp, is_eq, nat_cmp}
