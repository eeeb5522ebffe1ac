-- The fields of a head: names in lower case, each with the values of its lines (RFC 9110 sections 5.2 to 5.6).
use Rattle.std.specs.Prelude.{ℕ, Bool, List, [], ◌∷◌, Option, Some, None, is_some, option_and_then, option_map}
use Rattle.http_header.specs.FieldValue.{FieldValue}
use Rattle.http_header.specs.HeaderMap.{get, get_all}
use Rattle.httpdate.specs.Date.{parse_secs}
use Rattle.pcache_meta.specs.Header.{Fields}
use Rattle.pcache_validation.specs.Lists.{trim_ows}

-- the values of the lines of a name, in their order
abbrev pub lines : Fields → List ℕ → List (List ℕ)
lines fields name = get_all fields name

-- the value of the first line
abbrev pub first : Fields → List ℕ → Option (List ℕ)
first fields name = get fields name

-- the bytes of a value
abbrev pub bytes_of : Option FieldValue → Option (List ℕ)
bytes_of value = option_map (λ (v : FieldValue). v.bytes) value

-- there is such a field
abbrev pub has : Fields → List ℕ → Bool
has fields name = is_some (first fields name)

abbrev pub only_of : {X : Type 0} → List X → Option X
only_of [] = None
only_of (x ∷ []) = Some x
only_of (x ∷ y ∷ more) = None

-- the value of a field that may have one member: that of its line, if it has exactly one
abbrev pub only : Fields → List ℕ → Option (List ℕ)
only fields name = only_of (lines fields name)

-- RFC 9110, 5.6.7, MUST: the second of an HTTP-date, in any of its three formats; None if the value is none
unfoldable pub date_in : List ℕ → Option ℕ
date_in value = parse_secs (trim_ows value)

-- the second of a field that is a date
abbrev pub date_of : Fields → List ℕ → Option ℕ
date_of fields name = option_and_then date_in (only fields name)
