-- Reading the text of a head from left to right. Each `.._at` gives exactly what `HeaderText` says
-- (`proofs/HeaderExact.antt`).
use Rattle.std.specs.Prelude.{◌≡◌, ℕ, ◌+◌, ◌-◌, ◌*◌, ◌^◌, ◌&&◌, Bool, List, [], ◌∷◌, ◌++◌, length, Option, Some, None, nat_le, nat_lt, bytes_eq, codes, ◌==◌, if◌then◌else◌}
use Rattle.std.specs.List.{list_all}
use Rattle.http.specs.StatusCode.{code_digits}
use Rattle.http_header.specs.FieldName.{is_header_name}
use Rattle.http_header.specs.HeaderMap.{append, pairs, value_count}
use Rattle.http_header.specs.Token.{is_value_byte}
use Rattle.pcache_meta.specs.Header.{Fields, Header}
use Rattle.pcache_meta.specs.HeaderText.{Field, fields_text}
use Rattle.pcache_meta.specs.Reading.{◌>>=◌, when, bytes_at, mark_at}
use Rattle.pcache_meta.specs.declared.header.HttpVersion.{HttpVersion}
use Rattle.pcache_meta.specs.declared.header.HttpVersion.TheVariants.{Http09, Http10, Http11, Http2, Http3}

-- the bytes before the first CR LF, and those after it; front is what came before
abbrev pub line_from : List ℕ → List ℕ → Option (List ℕ × List ℕ)
line_from front [] = None
line_from front (a ∷ []) = None
line_from front (a ∷ b ∷ bytes) =
    if a == 0x0D && b == 0x0A then Some (front, bytes) else line_from (front ++ a ∷ []) (b ∷ bytes)

-- the bytes before the first colon, and those after it
abbrev pub name_from : List ℕ → List ℕ → Option (List ℕ × List ℕ)
name_from front [] = None
name_from front (a ∷ bytes) = if a == 0x3A then Some (front, bytes) else name_from (front ++ a ∷ []) bytes

-- the text begins with these bytes
abbrev pub BeginsWith : List ℕ → List ℕ → Type 0
BeginsWith text bytes = (more : List ℕ) × (text ≡ bytes ++ more)

-- the text ends with these bytes
abbrev pub EndsWith : List ℕ → List ℕ → Type 0
EndsWith text bytes = (front : List ℕ) × (text ≡ front ++ bytes)

-- a version and the space after it
unfoldable pub version_at : List ℕ → Option HttpVersion
version_at bytes =
    if bytes_eq bytes (codes "HTTP/0.9 ") then Some Http09
    else if bytes_eq bytes (codes "HTTP/1.0 ") then Some Http10
    else if bytes_eq bytes (codes "HTTP/1.1 ") then Some Http11
    else if bytes_eq bytes (codes "HTTP/2.0 ") then Some Http2
    else if bytes_eq bytes (codes "HTTP/3.0 ") then Some Http3
    else None

-- the bytes are the three digits of this status
abbrev pub are_digits : ℕ → List ℕ → Bool
are_digits n bytes = (nat_le 100 n && nat_lt n 1000) && bytes_eq (code_digits n) bytes

-- the status, if the bytes are its digits
abbrev pub when_digits : ℕ → List ℕ → Option ℕ
when_digits n bytes = if are_digits n bytes then Some n else None

-- the status that three bytes are
unfoldable pub status_at : List ℕ → Option ℕ
status_at (a ∷ b ∷ c ∷ []) = when_digits ((a - 48) * 100 + (b - 48) * 10 + (c - 48)) (a ∷ b ∷ c ∷ [])
status_at _ = None

-- the version and the status that a line is
unfoldable pub status_line_at : List ℕ → Option (HttpVersion × ℕ)
status_line_at text = do
  parts ← bytes_at 9 text
  version ← version_at parts.0
  status ← status_at parts.1
  Some (version, status)

-- a header's name, and its value
unfoldable pub name_at : List ℕ → Option (List ℕ)
name_at bytes = when (is_header_name bytes) bytes

unfoldable pub value_at : List ℕ → Option (List ℕ)
value_at bytes = when (list_all is_value_byte bytes) bytes

-- the field that a line is
unfoldable pub field_at : List ℕ → Option Field
field_at text = do
  parts ← name_from [] text
  behind ← mark_at 0x20 parts.1
  name ← name_at parts.0
  value ← value_at behind
  Some (name, value)

-- a map with one more value, unless that is more than a map can hold
abbrev pub fits_map : Fields → Bool
fits_map m = nat_le (length m) 24576 && nat_lt (value_count m) (2 ^ 64)

-- the map, if it can be held
abbrev pub when_fits : Fields → Option Fields
when_fits m = if fits_map m then Some m else None

-- the map with one more field, if there is room
unfoldable pub append_at : Fields → Field → Option Fields
append_at m f = when_fits (append m f.0 f.1)

-- the map that the lines make, added to m, up to the empty line, after which nothing follows; front is the line so
-- far
abbrev pub fields_from : List ℕ → Fields → List ℕ → Option Fields
fields_from front m [] = None
fields_from front m (a ∷ []) = None
fields_from front m (a ∷ b ∷ bytes) =
    if a == 0x0D && b == 0x0A then (
    if length front == 0 then (if length bytes == 0 then Some m else None)
    else (field_at front >>= λ f. append_at m f >>= λ n. fields_from [] n bytes)
    )
    else fields_from (front ++ a ∷ []) m (b ∷ bytes)

-- the same from the first line on
unfoldable pub fields_at : Fields → List ℕ → Option Fields
fields_at m bytes = fields_from [] m bytes

-- the map, if the lines that made it are grouped by name, in its order
unfoldable pub ordered_at : List ℕ → Fields → Option Fields
ordered_at bytes m = if bytes_eq bytes (fields_text (pairs m)) then Some m else None

-- all of the bytes
unfoldable pub header_at : List ℕ → Option Header
header_at bytes = do
  parts ← line_from [] bytes
  first ← status_line_at parts.0
  read ← fields_at [] parts.1
  fields ← ordered_at parts.1 read
  Some (record { version = first.0; status = first.1; fields = fields })

-- all of the bytes, in whatever order the lines are
unfoldable pub unordered_at : List ℕ → Option Header
unordered_at bytes = do
  parts ← line_from [] bytes
  first ← status_line_at parts.0
  fields ← fields_at [] parts.1
  Some (record { version = first.0; status = first.1; fields = fields })
