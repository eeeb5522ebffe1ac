-- The directives that the lines of a field say, in their order (RFC 9111 section 5.2; how a line is read is
-- `pcache_control`'s).
use Rattle.std.specs.Prelude.{◌≡◌, ℕ, Bool, List, [], ◌∷◌, ◌++◌, map, Option, Some, None, slice_range, bytes_eq, is_some, if◌then◌else◌}
use Rattle.std.specs.List.{AllZip, filter_map, list_any}
use Rattle.std.specs.Option.{option_map}
use Rattle.http_header.specs.Token.{lowercase}
use Rattle.pcache_control.specs.declared.scan.Span.{Span}
use Rattle.pcache_control.specs.Directives.{AreDirectives}

-- a directive: its name and its value, if it has one, as they stand in the line
abbrev pub Directive : Type 0
Directive = List ℕ × Option (List ℕ)

abbrev pub directive_in : List ℕ → Span → Directive
directive_in line p = (slice_range line p.start p.name_end, option_map (λ (v : ℕ × ℕ). slice_range line v.0 v.1) p.value)

abbrev pub directives_in : List ℕ → List Span → List Directive
directives_in line spans = map (directive_in line) spans

-- those of all lines, one line after another
abbrev pub directives_of : List (List ℕ) → List (List Span) → List Directive
directives_of (line ∷ lines) (spans ∷ others) = directives_in line spans ++ directives_of lines others
directives_of lines others = []

-- the directives that these lines say
pub record AreSaid (lines : List (List ℕ)) (said : List Directive) : Type 0 where
  pub spans : List (List Span)
  pub found : AllZip AreDirectives lines spans
  pub are : said ≡ directives_of lines spans

-- what is read of lines: they say something, and what is read is the meaning of whatever they say
pub record IsMeaning {A : Type 0} (meaning : List Directive → A) (lines : List (List ℕ)) (read : A) : Type 0 where
  pub said : (said : List Directive) × AreSaid lines said
  pub means : (said : List Directive) → AreSaid lines said → read ≡ meaning said

-- RFC 9111 5.2: directives are "identified by a token, to be compared case-insensitively"
abbrev pub is_called : List ℕ → Directive → Bool
is_called name d = bytes_eq (lowercase d.0) name

-- a directive of this name is there, with or without a value
abbrev pub mentions : List ℕ → List Directive → Bool
mentions name said = list_any (is_called name) said

-- the values of a name, one for each time that it is there; None where it has no value
abbrev pub value_if : List ℕ → Directive → Option (Option (List ℕ))
value_if name d = if is_called name d then Some d.1 else None

abbrev pub values_of : List ℕ → List Directive → List (Option (List ℕ))
values_of name said = filter_map (value_if name) said
