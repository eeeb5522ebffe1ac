-- The reply to a call on files, and what it leaves, over any manager and files (own).
use Rattle.std.specs.Prelude.{◌≡◌, ◌⊎◌, ℕ, Bool, true, false, List, Option, Some, None, Result, Ok, Err}
use Rattle.pcache_base.specs.declared.error.ErrorType.{ErrorType}
use Rattle.pcache_base.specs.declared.error.ErrorType.TheVariants.{InternalError, Io}
use Rattle.pcache_evict.specs.Recency.{Recency}
use Rattle.pcache_evict.specs.Tracked.{Tracked}
use Rattle.pcache_history.specs.declared.call.Act.TheVariants.{Files}
use Rattle.pcache_history.specs.declared.call.Call.{Call}
use Rattle.pcache_history.specs.declared.call.FilesAct.{FilesAct}
use Rattle.pcache_history.specs.declared.call.FilesAct.TheVariants.{Save, Load}
use Rattle.pcache_history.specs.declared.call.Reply.{Reply}
use Rattle.pcache_history.specs.declared.call.Reply.TheVariants as R
use Rattle.pcache_history.specs.Rules.{IsFilesReply}

-- a call on files; its number means nothing
abbrev pub files_call : FilesAct → Call
files_call act = record { request = 0; act = Files act }

-- its reply; `early` says whether only loads came before it
abbrev pub AnswersFiles : Bool → FilesAct → Reply → Type 0
AnswersFiles early Save reply = IsFilesReply Save reply
AnswersFiles true Load reply = IsFilesReply Load reply
AnswersFiles false Load reply = reply ≡ R.WrongCall

-- its reply, if it is a call on files, of a world without files: it fails as if the device failed, or comes too late
abbrev pub HasNoFiles : Option FilesAct → Reply → Type 0
HasNoFiles None reply = Unit {0}
HasNoFiles (Some Save) reply = reply ≡ R.Refused Io
HasNoFiles (Some Load) reply = (reply ≡ R.Refused Io) ⊎ (reply ≡ R.WrongCall)

-- what the history starts from after a load: if it is done, what it started from before with the entries put in that the
-- files gave (`loads`, by how many files were skipped); otherwise unchanged
abbrev pub IsLoaded : (ℕ → Recency → Type 0) → (Recency → Tracked → Tracked) → Tracked → Tracked → Reply → Type 0
IsLoaded loads put_in old new (R.Loaded skipped) = (entries : Recency) × loads skipped entries × (new ≡ put_in entries old)
IsLoaded loads put_in old new reply = new ≡ old

-- why a call on files failed, if its reply says so: as a device fails, or since a file spells no list
abbrev pub HasCause : Type 0 → Type 0 → Reply → Type 0
HasCause failed foreign (R.Refused Io) = failed
HasCause failed foreign (R.Refused InternalError) = foreign
HasCause failed foreign reply = Unit {0}

-- the reply to a save, by what the manager's save gave
abbrev pub save_reply : Result (Unit {0}) ErrorType → Reply
save_reply (Ok done) = R.Done
save_reply (Err e) = R.Refused e

-- a reply that all was saved says what was
abbrev pub HasSaved : Type 0 → Reply → Type 0
HasSaved saved R.Done = saved
HasSaved saved reply = Unit {0}

-- what a manager writes that tracks these entries was saved so
abbrev pub IsSavedOf : {M : Type 0} → (M → Tracked) → (M → List (List ℕ × List ℕ)) → (List (List ℕ × List ℕ) → Type 0) → Tracked → Type 0
IsSavedOf {M} tracked written saved now = (m : M) × (tracked m ≡ now) × saved (written m)
