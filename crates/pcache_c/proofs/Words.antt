-- The names that several proofs of this crate cite, passed on from one place. Declares nothing.
pub use Rattle.core.proofs.alloc.Calls.{Al, Goes-blank, handle_tells}
pub use Rattle.core.proofs.atomic.Steps.{fm}
pub use Rattle.core.proofs.cell.Inside.{Good}
pub use Rattle.http_header.specs.HeaderMap.{get_all, pairs}
pub use Rattle.http_header.specs.Token.{lowercase}
pub use Rattle.httparse.specs.Spans.{header_bytes}
pub use Rattle.pcache_base.specs.declared.error.ErrorType.{ErrorType}
pub use Rattle.pcache_c.specs.AnyManagers.{limits_in, named_by, rules_by, shown_in}
pub use Rattle.pcache_c.specs.Caches.{CopiesMeta}
pub use Rattle.pcache_c.specs.Codes.{OnGood, Outcome, code_of, no_memory, ok, watermark_at}
pub use Rattle.pcache_c.specs.Handle.{object_at}
pub use Rattle.pcache_c.specs.Handles.{ChangesOf, Fills, IsSame, OnKind, Turns}
pub use Rattle.pcache_c.specs.Managers.{as_manager, managing_list, managing_shards}
pub use Rattle.pcache_c.specs.Objects.{as_cache}
pub use Rattle.pcache_c.specs.Reached.{Does, OnNumber}
pub use Rattle.pcache_c.specs.Requests.{CopyOf}
pub use Rattle.pcache_c.specs.Seats.{IsSet, request_at}
pub use Rattle.pcache_c.specs.Values.{SavesMeta}
pub use Rattle.pcache_c.specs.declared.any_manager.AnyManager.{AnyManager}
pub use Rattle.pcache_c.specs.declared.handle.PcacheHandle.{PcacheHandle}
pub use Rattle.pcache_c.specs.declared.managers.Managed.{Managed}
pub use Rattle.pcache_c.specs.declared.object.Object.{Object}
pub use Rattle.pcache_c.specs.declared.served.Open.{Open}
pub use Rattle.pcache_cache.specs.Parts.{Parts}
pub use Rattle.pcache_control.specs.Responses.{IsDecision}
pub use Rattle.pcache_control.specs.declared.cache_control.CacheControl.{CacheControl}
pub use Rattle.pcache_evict.specs.declared.eviction.entry_key.CacheEntryKey.{CacheEntryKey}
pub use Rattle.pcache_meta.specs.Meta.{Meta}
pub use Rattle.pcache_meta.specs.declared.header.ResponseHeader.{ResponseHeader}
pub use Rattle.pcache_response.specs.Fields.{IsPair, IsShort, fields_after}
pub use Rattle.std.proofs.Common.{All, Err, List, None, Ok, Option, Result, Some, [], ap, cond, false, inl, inr, is_some, length, map, refl, rules, slice_get, subst, suc, sym, take, zero, ℕ, ◌%◌, ◌*◌, ◌++◌, ◌+◌, ◌==◌, ◌^◌, ◌∙◌, ◌∷◌, ◌≡◌, ◌≢◌, ◌⊎◌}
pub use Rattle.std.proofs.Math.Nat.{suc-ne-zero}
pub use Rattle.std.proofs.lemmas.Bool.{false≢true}
pub use Rattle.std.proofs.lemmas.Option.{none-some, slice_get-get_or}
pub use Rattle.std.proofs.raw_atomic.Walks.{leaves, proved_at}
pub use Rattle.std.specs.Borrow.{MutBor}
pub use Rattle.std.specs.Box.Ownership.{box_owns}
pub use Rattle.std.specs.Prelude.{IfOk, IsTrue, OnSome, option_map, ⊤}
pub use Rattle.std.specs.contracts.impls.GlobalAllocator.TheImpl.{ghosts}
pub use Rattle.std.specs.declared.time.Duration.{Duration}
pub use Rattle.std_alloc.proofs.BoxSteps.Steps.{box_in, box_out}
pub use base.Fml.{flft, ftrue}
pub use base.Logic.{SProp, emp, ent, fst∗, id⊢, never}
pub use contract.Monad.{fact, fact_i}
pub use contract.Running.{tables}
pub use denote.Builtin.{RawPtr}
pub use denote.Exit.{no, yes}
pub use denote.Memory.{lone}
pub use denote.Param.{bounded, layout, param}
pub use denote.Param.Laws.{param_laws}
pub use denote.RattleType.{RattleType, Valss, owns}
pub use denote.RawPtr.{Ptr, block_ptr, in_a_block, null_ptr, ptr_val}
pub use denote.Signature.{plain, types_at}
pub use denote.Steps.{heard, only}
pub use denote.Struct.Owning.{shape}
pub use denote.Struct.Struct.{within}
pub use denote.Triple.Entry.{alive}
pub use denote.Triple.Spec.{triple_of}
pub use denote.Triple.Walked.{Goes-dropped, Stays, stay_dropped, walk_of}
pub use lib.Dec.{T}
pub use mir.MapTy.{inst_fn}
pub use mir.Syntax.{a_type, dcons, dnil, impl, tnil}
pub use mir.Val.{Val, of_list, vcons, vnil, vptr, vstruct}
pub use prog.Wp.{WpFn}
pub use seplogic.Ra.Ura.{Ura}
pub use types.ByLocal.{alloc_all, free_all, get, get_in, look_at, pass_all, sets}
pub use types.Kit.{ !, Goal, Item, Seq, Step, await, by, drop, feq_i, feq_l, fjoin, fpack, fpick, fsplit, join, keep, later, move, pick, qed, raw, rewrite, some, split, split3, step, suffices, use0, use1, ‵, ◌$◌, ◌∵◌, ◌⊛◌}
pub use types.Logic.{Logic, sem}
pub use types.Part.{agg, sub, whole}
pub use types.Run.{and_then, enter, fld, no_more, of_opd, returns, stop}
