-- The names that several proofs of this crate cite, passed on from one place. Declares nothing.
pub use Rattle.atomic_table.proofs.Walks.{proved}
pub use Rattle.logbook.proofs.Fields.{Token, ends, token, token_made}
pub use Rattle.logbook.proofs.Roster.{prefix_out}
pub use Rattle.logbook.specs.Kept.{logs}
pub use Rattle.pcache_keeper.specs.Kept.{had, top}
pub use Rattle.std.proofs.Common.{List, [], inl, map, refl, sym, ℕ, ◌++◌, ◌∷◌, ◌≡◌, ◌⊎◌}
pub use Rattle.std.proofs.lemmas.List.{append-nil}
pub use base.Fml.{Fml, fhide, flft, fsep, ftrue}
pub use base.Fraction.{full_share}
pub use base.Logic.{SProp, emp, ent, ex, guard, sep, via}
pub use base.Stored.{Coded, Gv}
pub use contract.Monad.{fact_i}
pub use contract.Running.{tables}
pub use denote.Builtin.{RefOf}
pub use denote.Exit.{yes}
pub use denote.Memory.{hidden_shr}
pub use denote.Opens.{unhide}
pub use denote.Param.{bounded, param}
pub use denote.Param.Send.{IsSend}
pub use denote.RattleType.{RattleType, owns}
pub use denote.Ref.{mut_Tells, mut_vals, shr_Tells, shr_vals}
pub use denote.Signature.{plain, types_at}
pub use denote.Steps.{closes, nothing, opens}
pub use denote.Struct.Lending.{lent_out}
pub use denote.Triple.Walked.{Goes-dropped, Goes-ref, Stays, stay_dropped, stay_ref, walk_of}
pub use mathlib.Core.List.{IsPrefix}
pub use mir.MapTy.{inst_fn}
pub use mir.Syntax.{a_type, dnil, named}
pub use mir.Val.{Val, vptr, vunit}
pub use seplogic.Ra.Ura.{Ura}
pub use types.ByLocal.{alloc_all, free_all, get, look_at, pass_all, sets}
pub use types.Kit.{ !, await, by, check, done, drop, feq_i, fjoin, fjoin3, fsplit, fsplit3, given, keep, later, learn, move, pick, qed, raw, show, some, split, use0, use1, use2, ‵, ◌$◌, ◌∵◌, ◌⊛◌}
pub use types.Logic.{Logic, sem}
pub use types.Owned.{basic}
pub use types.Part.{agg}
pub use types.Run.{and_then, enter, no_more, of_opd, returns, unit_lit}
