-- Which requests a stored response answers by its Vary (RFC 9111 section 4.1), and lists in fields (RFC 9110 sections
-- 5.3 and 5.6.1).
use Rattle.std.specs.Prelude.{◌≡◌, ℕ, Bool, ◌==◌, List, [], ◌∷◌, All, codes, if◌then◌else◌}
use Rattle.std.specs.List.{flat_map, list_any}
use Rattle.http_header.specs.FieldValue.{FieldValue}
use Rattle.http_header.specs.HeaderMap.{Entries, get_all}
use Rattle.http_header.specs.Token.{lowercase}
use Rattle.pcache_control.specs.Values.{trim_ows, list_items}
use Rattle.pcache_http.specs.Control.{lines_at}
use Rattle.pcache_http.specs.Storing.{has_field}

abbrev pub is_quote : ℕ → Bool
is_quote b = b == 0x22

-- the members of a line: the parts between its commas, without white space round them. A line with a quoted text is one
-- member, since a comma or white space in the text means itself
unfoldable pub members_in : List ℕ → List (List ℕ)
members_in line = if list_any is_quote line then trim_ows line ∷ [] else list_items line

-- RFC 9110 5.3: several lines are one list
abbrev pub members_of : List (List ℕ) → List (List ℕ)
members_of lines = flat_map members_in lines

abbrev pub members_at : Entries FieldValue → List ℕ → List (List ℕ)
members_at fields name = members_of (lines_at fields (lowercase name))

abbrev pub SameMembers : Entries FieldValue → Entries FieldValue → List ℕ → Type 0
SameMembers a b name = members_at a name ≡ members_at b name

-- 4.1: fields match if one becomes the other by white space, where the syntax allows it, and by combining lines; one
-- that is absent matches only if it is absent in both
pub record IsMatched (a b : Entries FieldValue) (name : List ℕ) : Type 0 where
  pub present : has_field a (lowercase name) ≡ has_field b (lowercase name)
  pub members : SameMembers a b name

-- 4.1: a member "*" always fails to match
abbrev pub IsAny : List ℕ → Type 0
IsAny name = name ≡ codes "*"

-- a field that Vary nominates lets the stored response be used
pub record IsAnswered (original presented : Entries FieldValue) (name : List ℕ) : Type 0 where
  pub plain : ¬ (IsAny name)
  pub matched : IsMatched original presented name

-- 4.1, MUST NOT: a stored response is not used for a request unless all presented fields that its Vary nominates match
-- those of the original request
abbrev pub Selects : Entries FieldValue → Entries FieldValue → Entries FieldValue → Type 0
Selects stored original presented = All (IsAnswered original presented) (members_of (lines_at stored (codes "vary")))
