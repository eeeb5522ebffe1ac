-- The names that several proofs of this crate cite, passed on from one place. Declares nothing.
pub use Rattle.pcache_base.specs.Fills.{first_match}
pub use Rattle.pcache_base.specs.declared.fills.UnusableFill.{UnusableFill}
pub use Rattle.pcache_lock.specs.Deeds.{Aged, Deed, Granted, Joined, Left, LetGo, Made, Polled, Published, ReadLocked, Released, Unlocked}
pub use Rattle.pcache_lock.specs.Locks.{Locks, changed, ended, holder, kept, left, lock_given, no_locks_from, permit_dropped, reader_dropped, released_on, with_read_lock, without_entry}
pub use Rattle.pcache_lock.specs.Past.{Does, IsPastOf, PastLeads}
pub use Rattle.pcache_lock.specs.PastLaws.{is_unlocking}
pub use Rattle.pcache_lock.specs.PastWaits.{number_of}
pub use Rattle.pcache_lock.specs.Permits.{Core, Watch, dropped_status, is_named, new_core, released_status, spent, with_reader, without_reader}
pub use Rattle.pcache_lock.specs.Published.{IsIndex, is_entry_for}
pub use Rattle.pcache_lock.specs.Statuses.{IsReason, is_aged, is_free, is_waiting}
pub use Rattle.pcache_lock.specs.Waiting.{after_poll, aged, answer_at, first_told, is_old, permit_state, polled, table_at, told_or_pending, watch_at, watched, with_publication}
pub use Rattle.pcache_lock.specs.Waits.{is_old_at, waiting_slot, waits_under}
pub use Rattle.pcache_lock.specs.declared.lock.outcome.PermitState.{PermitState}
pub use Rattle.pcache_lock.specs.declared.lock.status.LockStatus.{LockStatus}
pub use Rattle.pcache_table.proofs.Sharded.{by_test, get-insert-at, get-insert-off}
pub use Rattle.std.proofs.Common.{Bool, List, None, Option, Some, [], ap, arith, cond, false, length, min, nat_lt, not, refl, subst, sym, take, true, ℕ, ◌&&◌, ◌++◌, ◌+◌, ◌-◌, ◌<◌, ◌==◌, ◌^◌, ◌||◌, ◌∙◌, ◌∷◌, ◌≡◌, ◌≤◌}
pub use Rattle.std.proofs.lemmas.Bool.Decides.{nat_tests}
pub use Rattle.std.proofs.lemmas.List.{take_all}
pub use Rattle.std.specs.BTreeMap.{is_at}
pub use Rattle.std.specs.BTreeSet.{contains}
pub use Rattle.std.specs.Cmp.{nat_cmp_total, unsigned_tied}
pub use Rattle.std.specs.Duration.{as_nanos}
pub use Rattle.std.specs.FinMap.{FinMap, get, get-empty, get-insert, get-remove, insert, remove}
pub use Rattle.std.specs.List.{list_any}
pub use Rattle.std.specs.Option.{option_or}
pub use Rattle.std.specs.Ordering.{eq_by_cmp, nat_cmp}
pub use base.Logic.{SProp, ent}
pub use contract.Monad.{Fun}
pub use contract.Running.{tables}
pub use denote.RattleType.{owns}
pub use denote.Signature.{types_at}
pub use denote.Steps.{nothing}
pub use denote.Triple.Clauses.{Clauses, Ended, closing}
pub use denote.Triple.Entry.{alive}
pub use denote.Triple.Spec.{Meets, triple_of}
pub use denote.Triple.Table.{entered}
pub use denote.Triple.Walked.{Stays, ends_at, says, walk_Meets, walk_of}
pub use mir.Syntax.{Fn}
pub use mir.Val.{Val}
pub use prog.Memory.{Memory}
pub use prog.Routine.{Routine}
pub use prog.Wp.{Calls, Loops, Tables, WpFn}
pub use seplogic.Ra.Ura.{Ura}
pub use sound.WpLaws.{WpFn-mono}
pub use types.ByLocal.{alloc_all, free_all, look_at, pass_all, sets}
pub use types.Kit.{ !, done, fjoin, keep, move, qed, raw, split, suffices, ‵, ◌$◌, ◌∵◌, ◌⊛◌}
pub use types.Logic.{Logic}
pub use types.Part.{agg}
pub use types.Run.{enter, no_more, returns}
