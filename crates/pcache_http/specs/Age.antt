-- How old a response is (RFC 9111 sections 4.2.3 and 5.1). Moments are in nanoseconds.
use Rattle.std.specs.Prelude.{◌≡◌, ℕ, ◌+◌, ◌-◌, ◌*◌, ◌/◌, List, [], ◌∷◌, max, Option, Some, None, codes, unwrap_or}
use Rattle.http_header.specs.FieldValue.{FieldValue}
use Rattle.http_header.specs.HeaderMap.{Entries}
use Rattle.pcache_http.specs.Control.{lines_at}
use Rattle.pcache_http.specs.Seconds.{at_most_largest, delta_seconds}
use Rattle.pcache_http.specs.Lifetime.{date_value}
use Rattle.pcache_http.specs.Vary.{members_of}

abbrev pub second : ℕ
second = 1000000000

-- 5.1, SHOULD: of a list the first member counts, and what is no number is ignored
abbrev pub number_in : List (List ℕ) → Option ℕ
number_in [] = None
number_in (item ∷ items) = delta_seconds item

-- 4.2.3, age_value: the value of Age, or 0 if it is not available
unfoldable pub age_value : Entries FieldValue → ℕ
age_value fields = unwrap_or (number_in (members_of (lines_at fields (codes "age")))) 0

-- 4.2.3: apparent_age = max(0, response_time - date_value)
unfoldable pub apparent_age : Entries FieldValue → ℕ → ℕ
apparent_age fields response_time = response_time - date_value fields (response_time / second) * second

-- 4.2.3: response_delay = response_time - request_time; corrected_age_value = age_value + response_delay
unfoldable pub corrected_age_value : Entries FieldValue → ℕ → ℕ → ℕ
corrected_age_value fields request_time response_time = age_value fields * second + (response_time - request_time)

-- 4.2.3: corrected_initial_age = max(apparent_age, corrected_age_value)
unfoldable pub corrected_initial_age : Entries FieldValue → ℕ → ℕ → ℕ
corrected_initial_age fields request_time response_time =
    max (apparent_age fields response_time) (corrected_age_value fields request_time response_time)

-- 4.2.3: resident_time = now - response_time; current_age = corrected_initial_age + resident_time. In whole seconds,
-- as Age has it (5.1)
abbrev pub current_age : ℕ → ℕ → ℕ → ℕ
current_age initial_age response_time now = at_most_largest ((initial_age + (now - response_time)) / second)
