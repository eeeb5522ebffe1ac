-- The names that several proofs of this crate cite, passed on from one place. Declares nothing.
pub use Rattle.pcache_base.proofs.Totals.{total-empty, total-insert, total-remove}
pub use Rattle.pcache_base.specs.Key.{Key, slot}
pub use Rattle.pcache_base.specs.Totals.{share, total}
pub use Rattle.pcache_base.specs.declared.error.ErrorType.{ErrorType}
pub use Rattle.pcache_base.specs.declared.error.ErrorType.TheVariants.{IncompleteHttpBody, Io, NumbersExhausted, OutOfMemory, Superseded, WriteRemoved}
pub use Rattle.pcache_base.specs.declared.fills.UnusableFill.{UnusableFill}
pub use Rattle.pcache_base.specs.declared.poll.Poll.{Poll}
pub use Rattle.pcache_base.specs.declared.poll.Poll.TheVariants.{Pending}
pub use Rattle.pcache_base.specs.declared.reason.NoCacheReason.{NoCacheReason}
pub use Rattle.pcache_evict.specs.Tracked.{Evicted, Limits, Tracked}
pub use Rattle.pcache_evict.specs.declared.eviction.entry_key.CacheEntryKey.{CacheEntryKey}
pub use Rattle.pcache_history.proofs.Copied.{kind-copied, row-copied}
pub use Rattle.pcache_history.proofs.Promised.{stays_within}
pub use Rattle.pcache_history.proofs.Sums.{cmp_same, same-number, total-zero}
pub use Rattle.pcache_history.specs.Deeds.{Deed, Handed, Polled, deed_of, deeds_by, deeds_in, deeds_of, done, held_in, moment_of, publication, published_on, said_by, shown, shown_first, shown_more, status_left, who_holds}
pub use Rattle.pcache_history.specs.Due.{AreDue, IsNext, IsOfWorld, IsOfWorldIn, KeepsIn, KeepsKey, MaySettle, Owed, makes, makes_of, owes, slot_of}
pub use Rattle.pcache_history.specs.Events.{begin_of, body_of, complete, evicted_by, has_ended, in_flight, is_of, is_open, is_removed, is_replaced, last_finished, option_any, removes, since, slots, stored, tracked}
pub use Rattle.pcache_history.specs.Facts.{Facts, request_in}
pub use Rattle.pcache_history.specs.Files.{IsEarly, files_in, is_load, only_loads}
pub use Rattle.pcache_history.specs.History.{HasAny, events_of}
pub use Rattle.pcache_history.specs.Kept.{IsTidy}
pub use Rattle.pcache_history.specs.Legal.{Gives, IsLegal}
pub use Rattle.pcache_history.specs.Log.{AddsAll, HasLegal, Log, events_in, started}
pub use Rattle.pcache_history.specs.Ongoing.{IsOfOne, Ongoing, ReplyKind, after_look, began, carrying, decides, has_read, is_wrong, kind_of_reply, looked_by, on_request, ongoing_put, pair_of, pair_reader, read_past, request_of, row, taken_over, taker_in, turned_by, waited_by, was_done, was_waited, was_wrong, with_given, with_sought}
pub use Rattle.pcache_history.specs.PutHistory.{AreWhole, BeginsBy, BeginsOf, ClosesBy, EndsBy, IgnoresAt, IgnoresBy, IgnoresIn, IgnoresOf, SayBegins, WasAtStage, filled_after, filled_of, pieces_of, pieces_on}
pub use Rattle.pcache_history.specs.Rules.{AsksIf, Closes, Feeds, FindsKind, FollowsRule, HandsOn, IsCopy, IsFilesReply, IsIdle, IsLockRefusal, IsOfKind, IsOther, Looks, LooksOn, MayBe, Misses, Renews, Replies, Takes, accesses, drop_of, each, number_read, permit_of, untrack_of, wait_reply}
pub use Rattle.pcache_history.specs.Taking.{Taking, new_put, taking}
pub use Rattle.pcache_history.specs.Waiting.{AreGiven, AreOfNoLock, IsOfNoLock, Waiting, waiting_in}
pub use Rattle.pcache_history.specs.Waits.{finds_too_old, wait_of}
pub use Rattle.pcache_history.specs.declared.call.Act.TheVariants.{Feed}
pub use Rattle.pcache_history.specs.declared.call.Call.{Call}
pub use Rattle.pcache_history.specs.declared.call.LockKind.{LockKind}
pub use Rattle.pcache_history.specs.declared.call.Reply.{Reply}
pub use Rattle.pcache_history.specs.declared.call.RequestAct.{RequestAct}
pub use Rattle.pcache_history.specs.declared.entry.Answer.{Answer}
pub use Rattle.pcache_history.specs.declared.entry.Answer.TheVariants.{Nothing}
pub use Rattle.pcache_history.specs.declared.entry.Entry.{Entry}
pub use Rattle.pcache_history.specs.declared.entry.Event.{Event}
pub use Rattle.pcache_history.specs.declared.entry.Event.TheVariants.{Access, Admit, Ask, Begin, Dropped, Expire, Finish, Look, Purge, Release, Renew, Untrack, Wrote}
pub use Rattle.pcache_lock.proofs.Ends.{kept-if}
pub use Rattle.pcache_lock.proofs.Kept.{next-then, next_by}
pub use Rattle.pcache_lock.proofs.Past.{begins, grows}
pub use Rattle.pcache_lock.proofs.PastWaits.{Knows}
pub use Rattle.pcache_lock.specs.Deeds.{Granted, Joined, Published, Released}
pub use Rattle.pcache_lock.specs.Locks.{Locks, MayFailLock, after_request, holder, is_permit, let_go, lock_given, no_locks, number_of_lock, released}
pub use Rattle.pcache_lock.specs.PastWaits.{given_at, is_held, status_said}
pub use Rattle.pcache_lock.specs.Permits.{Core, Permit, Watch, publications_at, readers_at}
pub use Rattle.pcache_lock.specs.Statuses.{IsReason}
pub use Rattle.pcache_lock.specs.Waiting.{after_poll, answer_at, is_old, permit_state, polled, publications_with, published, reader_at, reader_polled, says_nothing, status_seen, told_or_pending, watch_at, watched}
pub use Rattle.pcache_lock.specs.Waits.{is_old_at}
pub use Rattle.pcache_lock.specs.declared.lock.outcome.LockWaitOutcome.{LockWaitOutcome}
pub use Rattle.pcache_lock.specs.declared.lock.outcome.PermitState.{PermitState}
pub use Rattle.pcache_lock.specs.declared.lock.permit.Locked.{Locked}
pub use Rattle.pcache_lock.specs.declared.lock.permit.Locked.TheVariants.{Write}
pub use Rattle.pcache_lock.specs.declared.lock.status.LockStatus.{LockStatus}
pub use Rattle.pcache_lock.specs.declared.lock.status.LockStatus.TheVariants.{GiveUp, TransientError}
pub use Rattle.pcache_meta.specs.Meta.{Meta, in_place_of, numbered}
pub use Rattle.pcache_predict.specs.declared.admission.Decision.{Decision}
pub use Rattle.pcache_put.specs.Puts.{IsResult, Piece}
pub use Rattle.pcache_put.specs.State.{Filled, HasDeclined, InBody, InHead, IsOver, Stage, TakenBy, limit_of, write_in}
pub use Rattle.pcache_put.specs.Steps.{EndsPut, entry_reported}
pub use Rattle.pcache_put.specs.declared.report.PutEnd.{PutEnd}
pub use Rattle.pcache_request.specs.Admissions.{decided, decision_taken, is_deferral, with_decision}
pub use Rattle.pcache_request.specs.Finishing.{PurgesAll, after_finish}
pub use Rattle.pcache_request.specs.LockUse.{published_by, read_in, unheld}
pub use Rattle.pcache_request.specs.LockWaits.{is_old_result, result_by, too_old_for, unusable_in, wait_result, waited}
pub use Rattle.pcache_request.specs.Phases.{IsDisabled, IsFilling, IsOn, MayLookUp}
pub use Rattle.pcache_request.specs.Releasing.{disabled_for, disabled_in, status_for}
pub use Rattle.pcache_request.specs.Renewals.{has_body, renewed_by}
pub use Rattle.pcache_request.specs.Reports.{asked_by_found, asked_with, name_of}
pub use Rattle.pcache_request.specs.Requests.{asks_as_stale, asks_for_hit, begun_for, counts_found, dropped_by, entry_of, followed_for, found_for, found_row, left_by, let_go_by, locked_found, phase_found, placed, reader_in, settled, store_found, table_found, with_lock, writing}
pub use Rattle.pcache_request.specs.Variants.{asked_for_key, is_unseen, leaves_variant, table_key_locked, visible, with_key_lock}
pub use Rattle.pcache_request.specs.WriteEnds.{finishes_of}
pub use Rattle.pcache_request.specs.declared.cache.finish.FinishReport.{FinishReport}
pub use Rattle.pcache_request.specs.declared.cache.finish.WriteEnd.{WriteEnd}
pub use Rattle.pcache_request.specs.declared.cache.lock_use.CacheOptionOverrides.{CacheOptionOverrides}
pub use Rattle.pcache_request.specs.declared.cache.report.AskedLock.{AskedLock}
pub use Rattle.pcache_request.specs.declared.cache.report.LockName.{LockName}
pub use Rattle.pcache_request.specs.declared.cache.report.LookUp.{LookUp}
pub use Rattle.pcache_request.specs.declared.phase.CachePhase.{CachePhase}
pub use Rattle.pcache_request.specs.declared.phase.HitStatus.{HitStatus}
pub use Rattle.pcache_response.specs.Counted.{Counted}
pub use Rattle.pcache_response.specs.Progress.{AtHead, Parsed}
pub use Rattle.pcache_store.specs.Finishes.{created}
pub use Rattle.pcache_store.specs.Purge.{entry_purged}
pub use Rattle.pcache_store.specs.Readers.{in_memory, reader_of}
pub use Rattle.pcache_store.specs.Refusals.{MayFailFinish}
pub use Rattle.pcache_store.specs.Store.{Part, Slot, Store, Whole, complete_body, dropped, find_write, finished, followed, found_flying, is_idle, is_untouched, is_untouched_in, left, meta_changed, meta_set, new_write, number_of_body, purged, read_of, reader_after, reader_weight, write_read, written_size, wrote}
pub use Rattle.pcache_store.specs.declared.memory.hit.MemHitHandler.{MemHitHandler}
pub use Rattle.pcache_world.specs.Evicting.{AddsEvicted}
pub use Rattle.pcache_world.specs.FilesCalls.{AnswersFiles, HasCause, HasSaved}
pub use Rattle.pcache_world.specs.Handing.{of_one, of_two, open_at, taker_at}
pub use Rattle.pcache_world.specs.LockMoves.{LockMove, MayMoveLock, MovesLocks, ages, asks, deeds_moved, each_deed, lets_go, polls, publishes, rests, settles, table_moved, table_polled}
pub use Rattle.pcache_world.specs.LockTable.{Holds, IsTable, IsWatch, last_of, locks_read, read_locks}
pub use Rattle.pcache_world.specs.Moved.{At, IsNextAt, IsSame, IsThereFor, Joins, Leaves, Moves, MovesBy, MovesRequest, MovesStore, after_event, after_join, after_leave, at_call, evicted_from, reads_of}
pub use Rattle.pcache_world.specs.Opens.{held_with, open_with}
pub use Rattle.pcache_world.specs.PartFacts.{complete_for, facts_for, facts_in, no_facts, number_for, there_for}
pub use Rattle.pcache_world.specs.PutSteps.{end_noted}
pub use Rattle.pcache_world.specs.PutsSound.{EndsWhole, HasSome, PutTurn, PutsSound, TakenIn}
pub use Rattle.pcache_world.specs.Sound.{AllHold, AreOngoing, AreOpen, IsSound, IsState, follows, readers, readers_in, record_of, writers, writers_in}
pub use Rattle.pcache_world.specs.State.{State}
pub use Rattle.pcache_world.specs.Step.{Answers, AnswersOf, IsAnswered, IsMoved, IsRow, IsRowed, Turn, asking, noted_look, noting, permit_released, refused_end, renewing, untracking}
pub use Rattle.pcache_world.specs.TableWaiting.{IsLocked}
pub use Rattle.pcache_world.specs.Untold.{uncounted, untold, untold_lock, untold_put, untold_read_lock, untold_request}
pub use Rattle.pcache_world.specs.declared.world.look.LookNote.{LookNote}
pub use Rattle.std.proofs.Common.{Bool, Err, IfErr, IfOk, IfSome, IsSome, List, None, Ok, OnErr, OnOk, Option, Result, Some, [], ap, arith, cond, drop, false, if◌then◌else◌, inl, inr, is_none, is_some, length, length-append, nat_eq, nat_lt, not, refl, reverse, rules, subst, sym, true, vec_len, ℕ, ◌&&◌, ◌++◌, ◌+◌, ◌-◌, ◌<◌, ◌==◌, ◌^◌, ◌||◌, ◌∙◌, ◌∷◌, ◌≡◌, ◌≢◌, ◌≤◌, ◌⊎◌}
pub use Rattle.std.proofs.lemmas.Bool.{and_parts, both_ways, eq-eqb, eqb-true, or_right}
pub use Rattle.std.proofs.lemmas.Bool.Decides.{nat_tests}
pub use Rattle.std.proofs.lemmas.List.{reverse-append}
pub use Rattle.std.specs.BTreeMap.{is_at}
pub use Rattle.std.specs.Cmp.{nat_cmp_total}
pub use Rattle.std.specs.FinMap.{FinMap, contains_key, empty, from_entries, get, get-empty, get-remove, insert, len, nat_cmp-IsAntisymmetric, remove, same_map}
pub use Rattle.std.specs.List.{list_any}
pub use Rattle.std.specs.Map.{lookup}
pub use Rattle.std.specs.Option.{option_and_then, option_eq}
pub use Rattle.std.specs.Ordering.{eq_by_cmp, nat_cmp}
pub use Rattle.std.specs.Prelude.{slice_get, unwrap_or}
pub use Rattle.std.specs.Vec.Iter.{into_iter_items}
