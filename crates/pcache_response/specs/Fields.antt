-- Fields as pairs of a name and a value, both as bytes (RFC 9110 section 5).
use Rattle.std.specs.Prelude.{ℕ, ◌≤◌, List, [], map, length}
use Rattle.http_header.specs.Token.{IsToken, lowercase}
use Rattle.http_header.specs.FieldValue.{FieldValue, IsFieldValue, plain_value}
use Rattle.http_header.specs.HeaderMap.{Entries, append, append_all}

-- the name is a token, and the value has no control byte but the tab
abbrev pub IsPair : List ℕ × List ℕ → Type 0
IsPair p = IsToken p.0 × IsFieldValue p.1

-- the name is not too long (in bytes) for `http_header`
abbrev pub IsShort : List ℕ × List ℕ → Type 0
IsShort p = length p.0 ≤ 65535

-- the field that is kept of a pair: its name in lower case
abbrev pub kept_pair : List ℕ × List ℕ → List ℕ × FieldValue
kept_pair p = (lowercase p.0, plain_value p.1)

abbrev pub append_pair : Entries FieldValue → List ℕ × List ℕ → Entries FieldValue
append_pair m p = append m (kept_pair p).0 (kept_pair p).1

-- the pairs appended in turn
abbrev pub fields_after : List (List ℕ × List ℕ) → Entries FieldValue
fields_after pairs = append_all [] (map kept_pair pairs)
