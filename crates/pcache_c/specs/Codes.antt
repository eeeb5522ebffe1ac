-- What the exported functions return, and why: the numbers of the header (own).
use Rattle.std.specs.Prelude.{◌≡◌, ◌⊎◌, ◌↔◌, ◌+◌, ◌*◌, ◌==◌, ◌&&◌, ℕ, Bool, true, false, not, List, [], ◌∷◌, Option, None, Some, IsUtf8, Result, Ok, Err, cond, length, nat_lt, option_map}
use Rattle.pcache_base.specs.declared.error.ErrorType.{ErrorType}
use Rattle.pcache_base.specs.declared.error.ErrorType.TheVariants as error

abbrev pub ok : ℕ
ok = 0

abbrev pub no_memory : ℕ
no_memory = 1

abbrev pub bad_handle : ℕ
bad_handle = 2

abbrev pub wrong_kind : ℕ
wrong_kind = 3

abbrev pub bad_value : ℕ
bad_value = 4

abbrev pub unreadable : ℕ
unreadable = 5

abbrev pub nothing : ℕ
nothing = 6

abbrev pub wrong_call : ℕ
wrong_call = 7

-- the code of each kind of refusal
abbrev pub code_of : ErrorType → ℕ
code_of error.OutOfMemory = no_memory
code_of error.InternalError = unreadable
code_of error.InvalidHttpHeader = 8
code_of error.ResponseTooLarge = 9
code_of error.IncompleteHttpBody = 10
code_of error.WriteRemoved = 11
code_of error.NumbersExhausted = 12
code_of error.Io = 13
code_of error.Superseded = 14

-- the moment of these seconds and nanoseconds, if the nanoseconds are below a second
abbrev pub moment_at : ℕ → ℕ → Option ℕ
moment_at secs nanos = cond (nat_lt nanos 1000000000) (Some (secs * 1000000000 + nanos)) None

-- 16 bytes are a hash
abbrev pub hash_at : List ℕ → Option (List ℕ)
hash_at bytes = cond (length bytes == 16) (Some bytes) None

-- two buffers of 16 bytes
abbrev pub hashes_at : List ℕ → List ℕ → Option (List ℕ × List ℕ)
hashes_at first second = cond (length first == 16 && (length second == 16)) (Some (first, second)) None

-- no bytes are no variance, and 16 bytes are one
abbrev pub variance_at : List ℕ → Option (Option (List ℕ))
variance_at [] = Some None
variance_at (b ∷ bytes) = option_map (λ h. Some h) (hash_at (b ∷ bytes))

-- a watermark of 0 is none
abbrev pub watermark_at : ℕ → Option ℕ
watermark_at n = cond (n == 0) None (Some n)

-- a flag that is not 0 is set
abbrev pub is_flag : ℕ → Bool
is_flag n = not (n == 0)

-- a buffer with room for a byte at least
abbrev pub nonempty : List ℕ → Option (List ℕ)
nonempty [] = None
nonempty (b ∷ bytes) = Some (b ∷ bytes)

-- with a value that the call takes, what follows; else it is a bad one, and nothing changed
abbrev pub OnGood : {A : Type 0} → Option A → ℕ → Type 0 → (A → Type 0) → Type 0
OnGood None code same does = (code ≡ bad_value) × same
OnGood (Some a) code same does = does a

-- how a call on an object ended that may be made where `may` holds: it was done; it was the wrong call, exactly where it may
-- not be made, and nothing changed; there was nothing to hand over; or it was refused for a cause
pub record Outcome (may done none : Type 0) (refused : ErrorType → Type 0) (same : Type 0) (code : ℕ) : Type 0 where
  pub wrong : (code ≡ wrong_call) ↔ (¬ may)
  pub how : ((code ≡ ok) × done) ⊎ ((code ≡ wrong_call) × same) ⊎ ((code ≡ nothing) × none) ⊎ ((e : ErrorType) × (code ≡ code_of e) × refused e)

-- with bytes that are text, what follows, or there was no memory for a copy of them; else they are a bad value
pub record OnText (text : List ℕ) (code : ℕ) (same does : Type 0) : Type 0 where
  pub bad : (¬ IsUtf8 text) → (code ≡ bad_value) × same
  pub good : IsUtf8 text → ((code ≡ no_memory) × same) ⊎ does

-- the code of a result
abbrev pub code_in : {A : Type 0} → Result A ℕ → ℕ
code_in (Ok a) = ok
code_in (Err code) = code
