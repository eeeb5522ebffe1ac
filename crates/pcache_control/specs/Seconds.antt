-- A number of seconds in a directive's value: the delta seconds of RFC 9111 section 1.2.2, and a
-- reading that cuts a fraction off (own).
use Rattle.std.specs.Prelude.{◌≡◌, ℕ, Result, Ok, Err, ◌+◌, ◌^◌, Bool, ◌&&◌, not, ◌==◌, List, length, take, drop, position, Option, Some, None, nat_lt, min, if◌then◌else◌}
use Rattle.std.specs.Char.{is_ascii_digit}
use Rattle.std.specs.List.{list_all}
use Rattle.std.specs.Str.Parse.{digits_value, without_leading_plus}
use Rattle.pcache_base.specs.declared.error.ErrorType.{ErrorType}
use Rattle.pcache_base.specs.declared.error.ErrorType.TheVariants.{InternalError}

-- each byte is a decimal digit
abbrev pub all_digits : List ℕ → Bool
all_digits bytes = list_all is_ascii_digit bytes

-- the value that numbers of seconds past 32 bits count as (RFC 9111 section 1.2.2)
abbrev pub overflow_seconds : ℕ
overflow_seconds = 2147483647

-- a number past 32 bits counts as that value
abbrev pub capped : ℕ → ℕ
capped n = if nat_lt n (2 ^ 32) then n else overflow_seconds

-- delta seconds: an optional plus, and at least one digit
unfoldable pub delta_seconds_of : List ℕ → Option ℕ
delta_seconds_of bytes =
    let digits = without_leading_plus bytes in
    if not (length digits == 0) && all_digits digits then Some (capped (digits_value 10 digits)) else None

abbrev pub is_point : ℕ → Bool
is_point b = b == 0x2E

-- digits before and after the point at an index, and at least one digit: the number before the point
abbrev pub pointed_at : List ℕ → Option ℕ → Option ℕ
pointed_at bytes None = None
pointed_at bytes (Some at) =
    let whole = take at bytes in
    let fraction = drop (at + 1) bytes in
    if not (length whole == 0 && length fraction == 0) && all_digits whole && all_digits fraction
    then Some (min (digits_value 10 whole) overflow_seconds)
    else None

-- digits with one point among them: the first point, as a second one is no digit
unfoldable pub pointed_seconds_of : List ℕ → Option ℕ
pointed_seconds_of bytes = pointed_at bytes (position is_point bytes)

-- the floor reading: delta seconds if the bytes are that, else an optional plus and a pointed number
unfoldable pub floor_seconds_of : List ℕ → Option ℕ
floor_seconds_of bytes = or_else (delta_seconds_of bytes) (pointed_seconds_of (without_leading_plus bytes))
  where
    or_else : Option ℕ → Option ℕ → Option ℕ
    or_else (Some n) other = Some n
    or_else None other = other

-- what a call returns that reads a value: the value, or the error if there is none
abbrev pub Reads : {A : Type 0} → Option A → Result A ErrorType → Type 0
Reads (Some n) result = result ≡ Ok n
Reads None result = result ≡ Err InternalError
