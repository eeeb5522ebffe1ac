-- The names that several proofs of this crate cite, passed on from one place. Declares nothing.
pub use Rattle.http_header.specs.FieldValue.{FieldValue}
pub use Rattle.http_header.specs.HeaderMap.{Entries}
pub use Rattle.httparse.specs.Grammar.{ResponseHead, status_code}
pub use Rattle.httparse.specs.Spans.{header_bytes, name_and_value}
pub use Rattle.pcache_meta.specs.declared.header.ResponseHeader.{ResponseHeader}
pub use Rattle.pcache_response.specs.Fields.{IsPair, IsShort, append_pair, fields_after}
pub use Rattle.pcache_response.specs.Head.{ReadsHeader, header_of, version_of}
pub use Rattle.pcache_response.specs.HeadEnd.{EndsAt, IsUnfinished}
pub use Rattle.pcache_response.specs.HeadStates.{CutsAt, NeverCuts, next, state_after}
pub use Rattle.pcache_response.specs.Parts.{Given, add_all, body_of, body_parts, given_in_all, left_behind, nothing}
pub use Rattle.pcache_response.specs.Progress.{AtBody, TakenIn, parsed_of}
pub use Rattle.pcache_response.specs.Response.{HasSize, IsResponse, IsUnreadable, Response}
pub use Rattle.pcache_response.specs.declared.head_end.HeadState.{HeadState}
pub use Rattle.pcache_response.specs.declared.head_end.HeadState.TheVariants.{Blank, Ended, Inside}
pub use Rattle.pcache_response.specs.declared.response_parse.Progress.{Progress}
pub use Rattle.std.proofs.Common.{All, Bool, List, None, Option, Some, [], ap, arith, cond, drop, false, get_or, inl, inr, length, length-append, length-take, map, refl, subst, suc, sym, take, true, ℕ, ◌++◌, ◌+◌, ◌-◌, ◌<◌, ◌∙◌, ◌∷◌, ◌≡◌, ◌≢◌, ◌≤◌, ◌⊎◌}
pub use Rattle.std.proofs.Math.Seq.{take-append-add}
pub use Rattle.std.proofs.lemmas.Bool.{eqb-true}
pub use Rattle.std.proofs.lemmas.List.{length-map, nil_from_length, take-append-le, take_all, take_more}
pub use Rattle.std.proofs.lemmas.List.Elements.{All-get_or, All-push}
pub use Rattle.std.proofs.lemmas.List.Sums.{fold-append}
pub use Rattle.std.proofs.lemmas.Result.{err_from_is_err_and}
pub use Rattle.std.specs.Prelude.{nat_le, ◌==◌}
