-- The names that several proofs of this crate cite, passed on from one place. Declares nothing.
pub use Rattle.pcache_base.specs.Key.{Key, slot}
pub use Rattle.pcache_base.specs.Totals.{share, total}
pub use Rattle.pcache_base.specs.declared.error.ErrorType.TheVariants.{OutOfMemory}
pub use Rattle.pcache_base.specs.declared.poll.Poll.{Poll}
pub use Rattle.pcache_base.specs.declared.poll.Poll.TheVariants.{Pending, Ready}
pub use Rattle.pcache_base.specs.declared.reason.NoCacheReason.TheVariants.{Deferred}
pub use Rattle.pcache_evict.proofs.EntryOrder.{exact_entries}
pub use Rattle.pcache_evict.specs.Entry.{entries_total, entry_cmp, id_of}
pub use Rattle.pcache_evict.specs.Tracked.{Limits, Tracked}
pub use Rattle.pcache_evict.specs.declared.eviction.entry_key.CacheEntryKey.{CacheEntryKey}
pub use Rattle.pcache_history.specs.Deeds.{Deed, deeds_of}
pub use Rattle.pcache_history.specs.Due.{AreDue, IsNext, IsOfWorldIn, Owed, makes, makes_of, owes, slot_of}
pub use Rattle.pcache_history.specs.Events.{altered_by, begin_of, begun, body_of, complete, goes_with_any, has_ended, in_flight, is_of, is_open, is_removed, is_told, last_finished, meta_kept, names_slot, option_any, stored_size, stores, tracked, until, was_stored}
pub use Rattle.pcache_history.specs.Facts.{Facts, request_in}
pub use Rattle.pcache_history.specs.Files.{IsEarly}
pub use Rattle.pcache_history.specs.Headline.{HasUntouched}
pub use Rattle.pcache_history.specs.History.{Finds, events_of, reads}
pub use Rattle.pcache_history.specs.Kept.{IsBounded, IsExact, IsTidy, standing_entry}
pub use Rattle.pcache_history.specs.Legal.{Gives, IsLegal}
pub use Rattle.pcache_history.specs.Log.{HasLegal, Log}
pub use Rattle.pcache_history.specs.Ongoing.{Change, Ongoing, ReplyKind, after_look, asked, began, begins, carrying, change_of, changed, closes, decides, ended, fed_in, feeds, goes, handed_by, has_read, is_done, is_taken, is_wrong, kind_of_reply, looked_by, looks, on_request, ongoing_put, opened, opens, pair_of, permit_held, placed_by, pushes, read_past, reads_no_more, reads_on, renews, request_of, row, row_by, seeks, shut_by, shuts, sought_in, stays, taken_by, taken_over, taker_in, takes, turned_by, turns, turns_by, waits, was_done, was_wrong, with_sought, without_pair}
pub use Rattle.pcache_history.specs.PutHistory.{filled_after, pieces_on}
pub use Rattle.pcache_history.specs.ReadSoFar.{read_by}
pub use Rattle.pcache_history.specs.Rules.{FindsKind, FollowsRule, HandsOn, IsCopy, IsIdle, IsOther, LooksOn, MayBe, MayTake, Misses, Replies, drop_of, release_of}
pub use Rattle.pcache_history.specs.Taking.{Taking, new_put}
pub use Rattle.pcache_history.specs.declared.call.Act.{Act}
pub use Rattle.pcache_history.specs.declared.call.LockKind.{LockKind}
pub use Rattle.pcache_history.specs.declared.call.Reply.{Reply}
pub use Rattle.pcache_history.specs.declared.entry.Answer.{Answer}
pub use Rattle.pcache_history.specs.declared.entry.Entry.{Entry}
pub use Rattle.pcache_history.specs.declared.entry.Event.{Event}
pub use Rattle.pcache_history.specs.declared.entry.Event.TheVariants.{Access, Admit, Aged, Ask, Begin, Dropped, Expire, Finish, LetGo, Look, Purge, Release, Renew, Untrack, Wrote}
pub use Rattle.pcache_lock.specs.Permits.{Permit}
pub use Rattle.pcache_lock.specs.declared.lock.permit.Locked.{Locked}
pub use Rattle.pcache_lock.specs.declared.lock.permit.Locked.TheVariants.{Write}
pub use Rattle.pcache_meta.specs.Meta.{Meta, expired_at, in_place_of, numbered}
pub use Rattle.pcache_predict.specs.declared.admission.Decision.{Decision}
pub use Rattle.pcache_put.specs.Puts.{Piece}
pub use Rattle.pcache_put.specs.State.{Filled}
pub use Rattle.pcache_request.specs.Admissions.{is_deferral, with_decision}
pub use Rattle.pcache_request.specs.Phases.{is_treated_as_miss}
pub use Rattle.pcache_request.specs.Releasing.{disabled_for, disabled_in}
pub use Rattle.pcache_request.specs.Renewals.{renewed}
pub use Rattle.pcache_request.specs.Requests.{Request, entry_of, without_reader}
pub use Rattle.pcache_request.specs.Variants.{is_hidden, is_unseen, visible}
pub use Rattle.pcache_request.specs.declared.phase.CachePhase.{CachePhase}
pub use Rattle.pcache_request.specs.declared.phase.HitStatus.{HitStatus}
pub use Rattle.pcache_store.specs.Store.{Part, Stored, Whole, end_or, is_forward, read_part}
pub use Rattle.std.proofs.Common.{Bool, IfSome, IsSome, List, None, Option, Some, [], ap, arith, cond, drop, false, if◌then◌else◌, inl, inr, is_some, length, length-append, nat_lt, not, refl, reverse, subst, sym, take, take_all, true, ℕ, ◌&&◌, ◌++◌, ◌+◌, ◌<◌, ◌==◌, ◌||◌, ◌↔◌, ◌∙◌, ◌∷◌, ◌≡◌, ◌≢◌, ◌≤◌, ◌⊎◌}
pub use Rattle.std.proofs.lemmas.Bool.{and_from, and_parts, both_ways, eq-eqb, eqb-false, eqb-true, ne_eqb, not-true, or_left, or_parts, or_right}
pub use Rattle.std.proofs.lemmas.Bool.Decides.{nat_tests}
pub use Rattle.std.specs.Cmp.{tied_itself}
pub use Rattle.std.specs.List.{list_any}
pub use Rattle.std.specs.Option.{option_and_then}
pub use Rattle.std.specs.Ordering.{eq_by_cmp, is_eq, nat_cmp}
