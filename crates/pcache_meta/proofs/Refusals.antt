-- Refusals of readers, from one reading to another.
use Rattle.std.specs.Prelude.{IsErrOf}
use Rattle.pcache_meta.proofs.Words.{◌≡◌, Option, None, sym, ◌∙◌, Result, Err, ErrorType, OutOfMemory, InternalError, Fails, FailsOrWants}

-- the second reads nothing if the first does
pub Fails-along : {Y Z : Type 0} (e : ErrorType) (a : Option Y) (b : Option Z) → Fails e a → (a ≡ None → b ≡ None) → Fails e b
Fails-along InternalError a b h go = go h
Fails-along _ a b h go = h

pub FailsOrWants-along : {Y Z : Type 0} (e : ErrorType) (a : Option Y) (b : Option Z) → FailsOrWants e a → (a ≡ None → b ≡ None) → FailsOrWants e b
FailsOrWants-along InternalError a b h go = go h
FailsOrWants-along OutOfMemory a b h go = tt
FailsOrWants-along _ a b h go = h

pub FailsOrWants-from_fails : {Y Z : Type 0} (e : ErrorType) (a : Option Y) (b : Option Z) → Fails e a → (a ≡ None → b ≡ None) → FailsOrWants e b
FailsOrWants-from_fails InternalError a b h go = go h
FailsOrWants-from_fails _ a b h go = absurd h

-- an error that was passed on is the one that came
pub same_error : {T U E : Type 0} (r : Result T E) (e f g : E) → r ≡ Err e → e ≡ f → r ≡ Err g → IsErrOf {T = U} (Err f) g
same_error r e f g is passed refused = let both = sym is ∙ refused in cc (passed, both)

-- an error of a reader that takes no memory
pub Fails-none : {Y : Type 0} (e : ErrorType) (a : Option Y) → Fails e a → a ≡ None
Fails-none InternalError a h = h
Fails-none _ a h = absurd h
