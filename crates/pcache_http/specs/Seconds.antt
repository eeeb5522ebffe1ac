-- Numbers of seconds (RFC 9111 section 1.2.2), and what is given once, repeatedly or not at all (section 4.2.1).
use Rattle.std.specs.Prelude.{ℕ, ◌*◌, Bool, not, ◌&&◌, ◌==◌, List, [], ◌∷◌, length, min, Option, Some, None, if◌then◌else◌}
use Rattle.std.specs.Str.Parse.{digits_value}
use Rattle.pcache_control.specs.Seconds.{all_digits}
use Rattle.pcache_control.specs.Values.{unquoted}
use Rattle.pcache_http.specs.declared.seconds.Amount.{Amount}
use Rattle.pcache_http.specs.declared.seconds.Amount.TheVariants.{Bare, Invalid, Seconds}
use Rattle.pcache_http.specs.declared.seconds.Number.{Number}
use Rattle.pcache_http.specs.declared.seconds.Number.TheVariants.{Absent, Once, Repeated}
use Rattle.pcache_http.specs.declared.rules.Repeats.{Repeats}
use Rattle.pcache_http.specs.declared.rules.Repeats.TheVariants.{First, Stale}

-- RFC 9111 1.2.2, MUST: a number that is too large, or that a calculation makes so, counts as the greatest positive
-- integer that can be conveniently represented: here that of 32 bits
abbrev pub largest : ℕ
largest = 4294967295

abbrev pub at_most_largest : ℕ → ℕ
at_most_largest n = min n largest

-- RFC 9111 1.2.2: delta-seconds = 1*DIGIT, "a non-negative integer, representing time in seconds"
unfoldable pub delta_seconds : List ℕ → Option ℕ
delta_seconds bytes =
    if not (length bytes == 0) && all_digits bytes then Some (at_most_largest (digits_value 10 bytes)) else None

-- a number that was read, or none
abbrev pub amount_read : Option ℕ → Amount
amount_read (Some n) = Seconds n
amount_read None = Invalid

-- RFC 9111 5.2: an argument may stand as a token or as a quoted string, and recipients ought to accept both
abbrev pub amount_of : Option (List ℕ) → Amount
amount_of None = Bare
amount_of (Some value) = amount_read (delta_seconds (unquoted value))

-- RFC 9111 4.2.1: what is there once, or more than once
module _ {A : Type 0} where
  abbrev pub counted : (A → Amount) → List A → Number
  counted read [] = Absent
  counted read (x ∷ []) = Once (read x)
  counted read (x ∷ y ∷ more) = Repeated (read x)

-- the same with one more
abbrev pub count_next : Number → Amount → Number
count_next Absent amount = Once amount
count_next (Once first) amount = Repeated first
count_next (Repeated first) amount = Repeated first

-- RFC 9111 4.2.1 and 5.3, encouraged: what is invalid counts as stale, that is as no time at all
abbrev pub time_given : Amount → ℕ
time_given (Seconds n) = n
time_given Bare = 0
time_given Invalid = 0

-- RFC 9111 4.2.1, should: of several values "either the first occurrence should be used or the response should be
-- considered stale"
abbrev pub time_of : Repeats → Number → Option ℕ
time_of rule Absent = None
time_of rule (Once amount) = Some (time_given amount)
time_of First (Repeated amount) = Some (time_given amount)
time_of Stale (Repeated amount) = Some 0
