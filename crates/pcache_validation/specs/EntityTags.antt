-- Entity tags: their grammar, what is read of it, and the two comparisons (RFC 9110 sections 8.8.3 and 8.8.3.2).
use Rattle.std.specs.Prelude.{◌≡◌, ℕ, ◌-◌, Bool, true, false, not, ◌&&◌, ◌||◌, ◌==◌, nat_le, List, [], ◌∷◌, ◌++◌, length, drop, slice_index, slice_range, bytes_eq, Option, Some, None, option_map, if◌then◌else◌}
use Rattle.std.specs.List.{list_all}

-- an entity tag: whether it is marked as weak, and the characters between its quotes
pub record Tag : Type 0 where
  pub weak : Bool
  pub opaque : List ℕ

-- ---- the grammar

-- etagc = %x21 / %x23-7E / obs-text, where obs-text = %x80-FF
abbrev pub is_etagc : ℕ → Bool
is_etagc b = b == 0x21 || (nat_le 0x23 b && nat_le b 0x7E) || nat_le 0x80 b

-- weak = %s"W/"
abbrev pub mark : Bool → List ℕ
mark true = 0x57 ∷ 0x2F ∷ []
mark false = []

-- opaque-tag = DQUOTE *etagc DQUOTE
abbrev pub quoted : List ℕ → List ℕ
quoted opaque = 0x22 ∷ (opaque ++ 0x22 ∷ [])

-- RFC 9110, 8.8.3: entity-tag = [ weak ] opaque-tag
pub record Spells (bytes : List ℕ) (tag : Tag) : Type 0 where
  pub spelled : bytes ≡ mark tag.weak ++ quoted tag.opaque
  pub characters : list_all is_etagc tag.opaque ≡ true

-- ---- what is read

-- there is a quote at both ends
abbrev pub is_quoted : List ℕ → Bool
is_quoted bytes = nat_le 2 (length bytes) && slice_index bytes 0 == 0x22 && slice_index bytes (length bytes - 1) == 0x22

-- what stands between the quotes at both ends, if it is of the characters of entity tags
abbrev pub characters_in : List ℕ → Option (List ℕ)
characters_in bytes = if list_all is_etagc bytes then Some bytes else None

abbrev pub opaque_in : List ℕ → Option (List ℕ)
opaque_in bytes = if is_quoted bytes then characters_in (slice_range bytes 1 (length bytes - 1)) else None

abbrev pub tagged : Bool → Option (List ℕ) → Option Tag
tagged weak opaque = option_map (λ o. record { weak = weak; opaque = o }) opaque

-- there is the mark of a weak tag in front
abbrev pub is_marked : List ℕ → Bool
is_marked bytes = nat_le 2 (length bytes) && slice_index bytes 0 == 0x57 && slice_index bytes 1 == 0x2F

-- what stands behind the mark
abbrev pub after_mark : List ℕ → Option (List ℕ)
after_mark bytes = if is_marked bytes then Some (drop 2 bytes) else None

abbrev pub read_by : Option (List ℕ) → List ℕ → Option Tag
read_by (Some rest) bytes = tagged true (opaque_in rest)
read_by None bytes = tagged false (opaque_in bytes)

-- the entity tag that the bytes spell, if they spell one: `tag_in bytes ≡ Some tag` exactly if `Spells bytes tag`
unfoldable pub tag_in : List ℕ → Option Tag
tag_in bytes = read_by (after_mark bytes) bytes

-- ---- the comparisons

-- RFC 9110, 8.8.3.2: by strong comparison two entity tags are equivalent if both are not weak and their opaque tags match
-- character by character
abbrev pub strongly_match : Tag → Tag → Bool
strongly_match a b = not a.weak && not b.weak && bytes_eq a.opaque b.opaque

-- RFC 9110, 8.8.3.2: by weak comparison two entity tags are equivalent if their opaque tags match character by
-- character, regardless of either or both being weak
abbrev pub weakly_match : Tag → Tag → Bool
weakly_match a b = bytes_eq a.opaque b.opaque
