-- Why calls of a store may fail (own).
use Rattle.std.specs.Prelude.{◌≡◌, ◌<◌, ◌≤◌, ◌^◌, false, true, ℕ}
use Rattle.pcache_base.specs.declared.error.ErrorType.{ErrorType}
use Rattle.pcache_base.specs.declared.error.ErrorType.TheVariants.{OutOfMemory, WriteRemoved, NumbersExhausted, Superseded}
use Rattle.pcache_store.specs.Store.{Store, is_superseded, is_untouched}

-- a new write: memory ran out, or, exactly if that is so, all numbers are used
abbrev pub MayFailWrite : Store → ErrorType → Type 0
MayFailWrite s OutOfMemory = s.next < 2 ^ 64
MayFailWrite s NumbersExhausted = 2 ^ 64 ≤ s.next
MayFailWrite s _ = ⊥

-- the end of a write: memory ran out; or, exactly if that is so, its key was removed since it began, or it was not and the
-- write is superseded
abbrev pub MayFailFinish : Store → ℕ → ErrorType → Type 0
MayFailFinish s n OutOfMemory = (is_untouched s n ≡ true) × (is_superseded s n ≡ false)
MayFailFinish s n WriteRemoved = is_untouched s n ≡ false
MayFailFinish s n Superseded = (is_untouched s n ≡ true) × (is_superseded s n ≡ true)
MayFailFinish s n _ = ⊥
