-- What each call of a put adds to the past of its storage (own): a note for each thing that it does there, in order.
use Rattle.std.specs.Prelude.{◌≡◌, ℕ, Bool, Option, Some, None, Result, Ok, Err}
use Rattle.pcache_base.specs.Key.{Key, slot}
use Rattle.pcache_base.specs.declared.error.ErrorType.{ErrorType}
use Rattle.pcache_base.specs.declared.reason.NoCacheReason.{NoCacheReason}
use Rattle.pcache_meta.specs.Meta.{Meta}
use Rattle.pcache_request.specs.StorePasts.{EndsPast, Past, dropped_past}
use Rattle.pcache_store.specs.Notes.{noted}
use Rattle.pcache_store.specs.Past.{Began, Wrote}
use Rattle.pcache_store.specs.Purge.{entry_given}
use Rattle.pcache_store.specs.Store.{Guarantees, Store}
use Rattle.pcache_put.specs.State.{Stage, InHead, InBody, HasDeclined, IsOver, write_in}
use Rattle.pcache_put.specs.Steps.{stage_begun, write_end}
use Rattle.pcache_put.specs.declared.report.PutEnd.{PutEnd}
use Rattle.pcache_put.specs.declared.report.Written.{Written}

-- a write of a key's slot began with the next number, if one did
abbrev pub past_begun : ℕ → Option Meta → ℕ → Past → Past
past_begun k None next p = p
past_begun k (Some m) next p = noted (Some (Began k next m)) p

-- bytes were added to the write, if any were
abbrev pub past_wrote : Option ℕ → Option Written → Past → Past
past_wrote None b p = p
past_wrote (Some w) None p = p
past_wrote (Some w) (Some b) p = noted (Some (Wrote w b.bytes b.eof)) p

-- a piece was stored
abbrev pub past_after : Key → Stage → Option Meta → Option Written → Option ℕ → Store → Past → Past
past_after k stage began b entry s p = past_wrote (write_in (stage_begun stage began s.next entry)) b (past_begun (slot k) began s.next p)

-- the same in a store where entries may have numbers
abbrev pub past_at : Bool → Key → Stage → Option Meta → Option Written → Store → Past → Past
past_at numbers k stage began b s p = past_after k stage began b (entry_given numbers s.next) s p

-- the write was dropped, if the piece failed
abbrev pub past_left : Result (Option NoCacheReason) ErrorType → Stage → Past → Past
past_left (Ok answered) stage p = p
past_left (Err e) stage p = dropped_past (write_in stage) p

-- a put ended so: as its write did, if it had one
abbrev pub EndsPutPast : Guarantees → Key → Stage → PutEnd → Past → Past → Type 0
EndsPutPast g k InHead how p p' = p' ≡ p
EndsPutPast g k (HasDeclined reason) how p p' = p' ≡ p
EndsPutPast g k (IsOver kind) how p p' = p' ≡ p
EndsPutPast g k (InBody w id fresh_until) how p p' = EndsPast g k w (write_end how) p p'
