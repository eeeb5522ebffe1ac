-- The names that several proofs of this crate cite, passed on from one place. Declares nothing.
pub use Rattle.pcache_base.specs.Key.{Key}
pub use Rattle.pcache_base.specs.declared.error.ErrorType.{ErrorType}
pub use Rattle.pcache_base.specs.declared.error.ErrorType.TheVariants.{IncompleteHttpBody, InternalError, InvalidHttpHeader, Io, NumbersExhausted, OutOfMemory, ResponseTooLarge, Superseded, WriteRemoved}
pub use Rattle.pcache_base.specs.declared.reason.NoCacheReason.{NoCacheReason}
pub use Rattle.pcache_control.specs.Filters.{FreshBy}
pub use Rattle.pcache_control.specs.declared.response.RespCacheable.{RespCacheable}
pub use Rattle.pcache_control.specs.declared.response.RespCacheable.TheVariants.{Cacheable, Uncacheable}
pub use Rattle.pcache_evict.specs.Tracked.{Tracked}
pub use Rattle.pcache_meta.specs.Meta.{Meta}
pub use Rattle.pcache_meta.specs.declared.header.ResponseHeader.{ResponseHeader}
pub use Rattle.pcache_put.specs.Brought.{brought}
pub use Rattle.pcache_put.specs.Openings.{HasOpened, IsBegun, IsVerdict}
pub use Rattle.pcache_put.specs.Policies.{DeclaresBy, SaysByDefault}
pub use Rattle.pcache_put.specs.Puts.{IsJudged, Piece, Says, counted, is_over, joined}
pub use Rattle.pcache_put.specs.Readings.{BodyDue}
pub use Rattle.pcache_put.specs.Stages.{stage_of}
pub use Rattle.pcache_put.specs.State.{BodyRead, BodyTaken, Counts, Filled, HasDeclined, InBody, InHead, IsOver, IsWhyOver, Overrun, Put, Stage, TakenBy, limit_of}
pub use Rattle.pcache_put.specs.Steps.{EndsPut, IfWithdrawn, IsBegunBefore, MayFailFill, MayFailPiece, filled_wrote, is_done, part_bytes}
pub use Rattle.pcache_put.specs.declared.brought.Brought.{Brought}
pub use Rattle.pcache_put.specs.declared.reading.BodyPart.{BodyPart}
pub use Rattle.pcache_put.specs.declared.reading.ReadPiece.{ReadPiece}
pub use Rattle.pcache_request.specs.NoBody.{HasNoBody}
pub use Rattle.pcache_response.proofs.PartLemmas.{response_more}
pub use Rattle.pcache_response.proofs.Unique.{one_outcome, unreadable_is_none}
pub use Rattle.pcache_response.specs.Counted.{Counted}
pub use Rattle.pcache_response.specs.HeadEnd.{IsUnfinished}
pub use Rattle.pcache_response.specs.Parts.{Given, add_all, given_in_all, left_behind, parts_of}
pub use Rattle.pcache_response.specs.Progress.{AtBody, AtHead, GivesParts, HasFailed, Parsed, TakenIn}
pub use Rattle.pcache_response.specs.Response.{IsResponse, IsUnreadable, Response, declared_body, is_whole}
pub use Rattle.pcache_response.specs.declared.response_parse.ParsePart.{ParsePart}
pub use Rattle.pcache_store.specs.Store.{Store}
pub use Rattle.std.proofs.Common.{Bool, Err, IfOk, List, None, Ok, Option, Result, Some, [], ap, append-nil, arith, cond, false, inl, inr, length, length-append, min, refl, subst, sym, true, ℕ, ◌++◌, ◌-◌, ◌^◌, ◌∙◌, ◌∷◌, ◌≡◌, ◌≤◌, ◌⊎◌}
pub use Rattle.std.proofs.lemmas.Bool.Decides.{nat_tests}
pub use Rattle.std.proofs.lemmas.Result.{err_from_is_err_and}
pub use Rattle.std.specs.Bool.{MatchBool}
pub use Rattle.std.specs.Prelude.{IfSome, bytes_eq, if◌then◌else◌, nat_lt, ◌==◌}
pub use Rattle.std.specs.declared.time.Duration.{Duration}
