-- Readers and writers that count the calls that failed, and why a call gives up (own). How a call on a device may fail is a
-- relation of the device, `fails`: the device before, the error, and the device after. Nothing is known of it, so only a call
-- that was made and failed shows it.
use Rattle.std.specs.Prelude.{◌≡◌, ◌≢◌, ◌⊎◌, ℕ, zero, suc, ◌+◌, ◌-◌, ◌%◌, ◌^◌, List, ◌++◌, Option, Result, Err}
use Rattle.std.specs.Io.KnownBytes.{Appends, Consumes, IsAtEnd}
use Rattle.std_io.specs.declared.io.error.Error.{Error}
use Rattle.std_io.specs.IoError.{error_kind}
use Rattle.std_io.specs.declared.io.kind.ErrorKind.TheVariants as kinds
use Rattle.pcache_base.specs.declared.error.ErrorType.{ErrorType}
use Rattle.pcache_base.specs.declared.error.ErrorType.TheVariants.{Io}

-- one more call failed; calls are counted modulo 2 ^ 64
abbrev pub Rose : ℕ → ℕ → Type 0
Rose old new = new ≡ (old + 1) % 2 ^ 64

-- the number of failed calls rose by one if the result is that the device failed, and is unchanged otherwise
abbrev pub Counts : {T : Type 0} → ℕ → ℕ → Result T ErrorType → Type 0
Counts old new (Err Io) = Rose old new
Counts old new _ = new ≡ old

-- these bytes were read, and none are left
pub record Gave (old new : Option (List ℕ)) (bytes : List ℕ) : Type 0 where
  pub consumed : Consumes old new bytes
  pub ended : IsAtEnd new

-- a writer took a prefix of these bytes
abbrev pub TookBeginning : Option (List ℕ) → Option (List ℕ) → List ℕ → Type 0
TookBeginning old new bytes = (taken : List ℕ) × (rest : List ℕ) × (bytes ≡ taken ++ rest) × Appends old new taken

-- a signal interrupted so many calls, one after the other
abbrev pub Interrupted : {D : Type 0} → (D → Error → D → Type 0) → ℕ → D → D → Type 0
Interrupted fails zero old new = old ≡ new
Interrupted {D} fails (suc n) old new = (d : D) × (e : Error) × Interrupted fails n old d × fails d e new × (error_kind e ≡ kinds.Interrupted)

-- a call failed, and neither since a signal interrupted it nor for want of memory
abbrev pub HasFailed : {D : Type 0} → (D → Error → D → Type 0) → D → D → Type 0
HasFailed fails old new = (e : Error) × fails old e new × (error_kind e ≢ kinds.Interrupted) × (error_kind e ≢ kinds.OutOfMemory)

-- a call failed for want of memory
abbrev pub HasLackedMemory : {D : Type 0} → (D → Error → D → Type 0) → D → D → Type 0
HasLackedMemory fails old new = (e : Error) × fails old e new × (error_kind e ≡ kinds.OutOfMemory)

-- a call that is made again after each interruption gave up: after so many of them it failed, or they were 2 ^ 64 - 1
pub record GaveUp {D : Type 0} (fails : D → Error → D → Type 0) (old new : D) : Type 0 where
  pub times : ℕ
  pub last : D
  pub interrupted : Interrupted fails times old last
  pub ended : HasFailed fails last new ⊎ ((times ≡ 2 ^ 64 - 1) × (new ≡ last))

-- a call that is made again after each interruption failed for want of memory after so many of them
pub record LackedMemory {D : Type 0} (fails : D → Error → D → Type 0) (old new : D) : Type 0 where
  pub times : ℕ
  pub last : D
  pub interrupted : Interrupted fails times old last
  pub ended : HasLackedMemory fails last new
