-- Lists in field values (RFC 9110 sections 5.6.1, 5.6.3 and 8.8.3).
use Rattle.std.specs.Prelude.{ℕ, Bool, false, not, ◌&&◌, ◌||◌, ◌==◌, List, [], ◌∷◌, map, reverse, Option, Some, None, if◌then◌else◌}
use Rattle.std.specs.List.{onto_first}

-- RFC 9110, 5.6.3: optional white space is spaces and tabs
abbrev pub is_ows : ℕ → Bool
is_ows b = b == 0x20 || b == 0x09

-- the bytes from the first that is no white space
abbrev pub skip_ows : List ℕ → List ℕ
skip_ows [] = []
skip_ows (b ∷ bytes) = if is_ows b then skip_ows bytes else b ∷ bytes

-- RFC 9110, 5.5, MUST: white space before and after a field value is no part of it
unfoldable pub trim_ows : List ℕ → List ℕ
trim_ows bytes = reverse (skip_ows (reverse (skip_ows bytes)))

abbrev pub comma : ℕ
comma = 0x2C

abbrev pub quote : ℕ
quote = 0x22

-- the state of being in quotes after a byte
abbrev pub quoted_after : Bool → ℕ → Bool
quoted_after quoted b = if b == quote then not quoted else quoted

-- a comma that is in no quotes separates two elements
abbrev pub separates : Bool → ℕ → Bool
separates quoted b = b == comma && not quoted

-- what stands between the commas that are in no quotes; `quoted` says whether the first byte is in quotes
abbrev pub parts : Bool → List ℕ → List (List ℕ)
parts quoted [] = [] ∷ []
parts quoted (b ∷ bytes) =
    if separates quoted b then [] ∷ parts quoted bytes
    else onto_first b (parts (quoted_after quoted b) bytes)

-- RFC 9110, 5.6.1, MUST: the elements of a list stand between its commas, with optional white space around each; a
-- recipient ignores empty ones, which no reader of an element takes. A comma in the quotes of an entity tag separates
-- nothing (8.8.3)
unfoldable pub elements : List ℕ → List (List ℕ)
elements value = map trim_ows (parts false value)

-- the remaining elements
abbrev pub elements_left : Option (List ℕ) → List (List ℕ)
elements_left (Some value) = elements value
elements_left None = []
