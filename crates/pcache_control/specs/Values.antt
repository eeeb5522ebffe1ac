-- The value of a directive: its quotes, and lists in it (RFC 9110 sections 5.6.1, 5.6.3 and 5.6.4).
use Rattle.std.specs.Prelude.{ℕ, ◌-◌, Bool, ◌&&◌, ◌||◌, ◌==◌, List, [], ◌∷◌, length, map, reverse, slice_index, slice_range, Option, Some, None, nat_le, if◌then◌else◌}
use Rattle.std.specs.List.{slice_split}

-- there is a quote at both ends
abbrev pub is_quoted : List ℕ → Bool
is_quoted bytes = nat_le 2 (length bytes) && slice_index bytes 0 == 0x22 && slice_index bytes (length bytes - 1) == 0x22

-- the value without one pair of outer quotes
abbrev pub unquoted : List ℕ → List ℕ
unquoted bytes = if is_quoted bytes then slice_range bytes 1 (length bytes - 1) else bytes

abbrev pub is_comma : ℕ → Bool
is_comma b = b == 0x2C

-- optional white space: a space or a tab
abbrev pub is_ows : ℕ → Bool
is_ows b = b == 0x20 || b == 0x09

-- the bytes from the first that is no white space
abbrev pub skip_ows : List ℕ → List ℕ
skip_ows [] = []
skip_ows (b ∷ bytes) = if is_ows b then skip_ows bytes else b ∷ bytes

-- the bytes without the white space at both ends
unfoldable pub trim_ows : List ℕ → List ℕ
trim_ows bytes = reverse (skip_ows (reverse (skip_ows bytes)))

-- the items of a list; an empty item counts too
unfoldable pub list_items : List ℕ → List (List ℕ)
list_items bytes = map trim_ows (slice_split is_comma bytes)

-- the remaining items
abbrev pub items_left : Option (List ℕ) → List (List ℕ)
items_left None = []
items_left (Some bytes) = list_items bytes
