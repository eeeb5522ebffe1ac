-- The names that several proofs of this crate cite, passed on from one place. Declares nothing.
pub use Rattle.pcache_base.specs.Key.{slot}
pub use Rattle.pcache_base.specs.Totals.{share}
pub use Rattle.pcache_meta.specs.Meta.{Meta, in_place_of, numbered}
pub use Rattle.pcache_store.specs.Drafts.{AreBefore, IsBodyOf, closed_on, ended_on, next_number}
pub use Rattle.pcache_store.specs.Notes.{expiry_noted, purge_noted}
pub use Rattle.pcache_store.specs.Past.{Began, Dropped, Expired, Finished, IsWhatPastSays, Joined, Leads, Left, MetaSet, Note, PastLeads, Purged, WritePurged, Wrote, empty_from}
pub use Rattle.pcache_store.specs.PastSays.{after, altered_by, before, begins, body_stored, closed_write, complete, ended, finishes, in_flight, is_of, is_open, is_removed, last_finished, longer, option_any, removes, write_finished, write_of}
pub use Rattle.pcache_store.specs.Shards.{AreRecords, AreShards, one_if_some, parts, table_at}
pub use Rattle.pcache_store.specs.Store.{Reader, Slot, Store, Stored, Whole, Written, begun, body_with, body_without, complete_body, dropped_on, finished_on, followed_on, grounded, grounded_on, is_idle, is_named, is_untouched, is_untouched_in, is_untouched_on, kept, left, left_on, meta_changed_in, meta_changed_on, new_write, opened, opened_in, shut, shut_on, slot_or_new, slot_without, stored_on, with_meta, with_slot, write_gone_on, wrote_on}
pub use Rattle.pcache_store.specs.Totals.{IsCounted, body_len, one}
pub use Rattle.pcache_store.specs.Untouched.{numbers_in, with_one}
pub use Rattle.pcache_table.proofs.Least.{least_none, least_there}
pub use Rattle.pcache_table.proofs.Sharded.{by_test, get-insert-at, get-remove-at, off_not}
pub use Rattle.pcache_table.proofs.TableMaps.{entries_of}
pub use Rattle.pcache_table.specs.Numbers.{least}
pub use Rattle.pcache_table.specs.Sharding.{part_of}
pub use Rattle.std.proofs.Common.{Bool, Err, IsSome, List, None, Ok, OnErr, Option, Result, Some, [], ap, arith, cond, false, get_or, if◌then◌else◌, inl, inr, is_none, is_ok, length, length-append, not, refl, subst, suc, sym, take, true, zero, ℕ, ◌%◌, ◌&&◌, ◌++◌, ◌+◌, ◌-◌, ◌<◌, ◌==◌, ◌^◌, ◌||◌, ◌↔◌, ◌∙◌, ◌∷◌, ◌≡◌, ◌≤◌}
pub use Rattle.std.proofs.lemmas.Bool.{and_parts, cases_lt, eqb-true}
pub use Rattle.std.proofs.lemmas.Bool.Decides.{nat_tests}
pub use Rattle.std.proofs.lemmas.List.{append-nil, length-set, set-get_or, take-append-drop}
pub use Rattle.std.proofs.lemmas.Map.Lookups.{exact_unsigned}
pub use Rattle.std.proofs.lemmas.Map.Views.{tells_apart}
pub use Rattle.std.proofs.lemmas.Result.{IfOk-weaker, on_err_weaker, on_ok_weaker}
pub use Rattle.std.specs.Cmp.{nat_cmp_total, tied_itself}
pub use Rattle.std.specs.FinMap.{FinMap, contains_key, empty, empty_of_len, get, get-empty, get-entries, get-insert, get-remove, insert, len, len-empty, len-remove, remove, same_map}
pub use Rattle.std.specs.Int.{from_be_bytes, w64}
pub use Rattle.std.specs.List.{concat, list_any}
pub use Rattle.std.specs.Option.{option_and_then}
pub use Rattle.std.specs.Ordering.{eq_by_cmp, is_eq, nat_cmp}
pub use Rattle.std.specs.Prelude.{nat_lt, slice_index_or, slice_set}
pub use base.Logic.{SProp, ent}
pub use contract.Monad.{Fun}
pub use contract.Running.{tables}
pub use denote.Builtin.{RefOf}
pub use denote.Exit.{yes}
pub use denote.RattleType.{owns}
pub use denote.Signature.{named_lft, plain, types_at}
pub use denote.Steps.{nothing}
pub use denote.Triple.Clauses.{Clauses, Ended, closing}
pub use denote.Triple.Entry.{alive}
pub use denote.Triple.Spec.{Meets, triple_of}
pub use denote.Triple.Table.{entered}
pub use denote.Triple.Walked.{Goes-dropped, Stays, ends_at, says, stay_dropped, walk_Meets, walk_of}
pub use mir.Syntax.{Fn}
pub use mir.Val.{Val, vptr}
pub use prog.Memory.{Memory}
pub use prog.Routine.{Routine}
pub use prog.Wp.{Calls, Loops, Tables, WpFn}
pub use seplogic.Ra.Ura.{Ura}
pub use sound.WpLaws.{WpFn-mono}
pub use types.ByLocal.{alloc_all, free_all, look_at, pass_all, sets}
pub use types.Kit.{ !, done, feq_l, fjoin, fsplit, keep, move, prop, qed, raw, regoal, split, suffices, ‵, ◌$◌, ◌∵◌, ◌⊛◌}
pub use types.Logic.{Logic}
pub use types.Part.{agg}
pub use types.Run.{enter, no_more, returns}
