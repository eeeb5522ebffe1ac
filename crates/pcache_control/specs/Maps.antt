-- The directives of all lines of a field, by name (own where RFC 9111 section 4.2.1 leaves a choice: of a repeated
-- directive the last value counts).
use Rattle.std.specs.Prelude.{◌≡◌, ℕ, Bool, not, ◌&&◌, List, [], ◌∷◌, ◌++◌, map, All, Option, Some, None, if◌then◌else◌, slice_range, bytes_eq}
use Rattle.std.specs.List.{AllZip, filter_map}
use Rattle.std.specs.Option.{option_map}
use Rattle.std.specs.Str.{is_utf8, str_to_ascii_lowercase}
use Rattle.http_header.specs.FieldValue.{FieldValue}
use Rattle.indexmap.specs.IndexMap.{insert_all}
use Rattle.pcache_control.specs.declared.key.DirectiveKey.{DirectiveKey}
use Rattle.pcache_control.specs.declared.scan.Span.{Span}
use Rattle.pcache_control.specs.declared.value.DirectiveValue.{DirectiveValue}
use Rattle.pcache_control.specs.Directives.{AreDirectives}
use Rattle.pcache_control.specs.Names.{name_of, is_known, is_known_name}

-- two keys are equal: they have the same name, and either both or neither are known ones
abbrev pub same_key : DirectiveKey → DirectiveKey → Bool
same_key k j = (if is_known k then is_known j else not (is_known j)) && bytes_eq (name_of k) (name_of j)

-- the bytes of a value, if there is one
abbrev pub value_of : Option DirectiveValue → Option (List ℕ)
value_of v = option_map (λ (d : DirectiveValue). d.0.items) v

abbrev pub entry_of : DirectiveKey × Option DirectiveValue → List ℕ × Option (List ℕ)
entry_of e = (name_of e.0, value_of e.1)

-- names and values, as bytes
abbrev pub entries_of : List (DirectiveKey × Option DirectiveValue) → List (List ℕ × Option (List ℕ))
entries_of entries = map entry_of entries

-- a key is one of the fourteen known ones exactly if its name is
unfoldable pub AreNamed : List (DirectiveKey × Option DirectiveValue) → Type 0
AreNamed entries = All (λ e. is_known e.0 ≡ is_known_name (name_of e.0)) entries

-- the name in lower case and the value of a directive, if the name is text
abbrev pub directive_of : List ℕ → Span → Option (List ℕ × Option (List ℕ))
directive_of line p =
    let name = slice_range line p.start p.name_end in
    if is_utf8 name
    then Some (str_to_ascii_lowercase name, option_map (λ (v : ℕ × ℕ). slice_range line v.0 v.1) p.value)
    else None

-- the directives at these spans of a line
abbrev pub directives_at : List ℕ → List Span → List (List ℕ × Option (List ℕ))
directives_at line spans = filter_map (directive_of line) spans

-- the directives of lines, one line after another
abbrev pub all_directives : List (List ℕ) → List (List Span) → List (List ℕ × Option (List ℕ))
all_directives (line ∷ lines) (spans ∷ others) = directives_at line spans ++ all_directives lines others
all_directives lines others = []

-- the new entries are the old ones with these directives added in turn: a repeated name keeps its position and takes
-- the new value
abbrev pub Adds : List (DirectiveKey × Option DirectiveValue) → List (List ℕ × Option (List ℕ)) → List (DirectiveKey × Option DirectiveValue) → Type 0
Adds old directives new = entries_of new ≡ insert_all bytes_eq (entries_of old) directives

-- a repeated name keeps its first position and takes its last value
abbrev pub by_name : List (List ℕ × Option (List ℕ)) → List (List ℕ × Option (List ℕ))
by_name directives = insert_all bytes_eq [] directives

-- the lines of a field
abbrev pub lines_of : List FieldValue → List (List ℕ)
lines_of values = map (λ (v : FieldValue). v.bytes) values

-- entries that were read from lines: the directives of all lines by name
pub record AreRead (lines : List (List ℕ)) (entries : List (DirectiveKey × Option DirectiveValue)) : Type 0 where
  -- the spans of the directives, line by line
  pub spans : List (List Span)
  pub found : AllZip AreDirectives lines spans
  pub directives : entries_of entries ≡ by_name (all_directives lines spans)
  pub named : AreNamed entries

-- the entries are those of every list of spans of the directives, hence of the one list that exists
abbrev pub AreReadOnce : List (List ℕ) → List (DirectiveKey × Option DirectiveValue) → Type 0
AreReadOnce lines entries =
    (spans : List (List Span)) → AllZip AreDirectives lines spans → entries_of entries ≡ by_name (all_directives lines spans)
