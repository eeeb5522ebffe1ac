-- Which parts of a line are directives (RFC 9111 section 5.2; own where `scan` is more permissive).
use Rattle.std.specs.Prelude.{◌≡◌, ◌≢◌, ℕ, ◌+◌, ◌<◌, ◌≤◌, ◌⊎◌, true, false, List, [], ◌∷◌, ◌++◌, length, drop, slice_index, Option, Some, None, IfSome, All}
use Rattle.std.specs.List.{flat_map}
use Rattle.pcache_control.specs.Bytes.{is_token_byte, is_delimiter, is_white_space}
use Rattle.pcache_control.specs.declared.scan.Span.{Span}

-- the byte at i is a token byte
pub record IsTokenAt (line : List ℕ) (i : ℕ) : Type 0 where
  pub within : i < length line
  pub token : is_token_byte (slice_index line i) ≡ true

-- from i to j all are token bytes, and no further one follows
pub record IsLongestRun (line : List ℕ) (i j : ℕ) : Type 0 where
  pub order : i ≤ j
  pub within : j ≤ length line
  pub run : (k : ℕ) → i ≤ k → k < j → is_token_byte (slice_index line k) ≡ true
  pub longest : ¬ (IsTokenAt line j)

-- the delimiter at d leads to a start at s: only white space is between them
pub record Leads (line : List ℕ) (d s : ℕ) : Type 0 where
  pub order : d < s
  pub delimiter : is_delimiter (slice_index line d) ≡ true
  pub between : (k : ℕ) → d < k → k < s → is_white_space (slice_index line k) ≡ true
  pub start : IsTokenAt line s

-- from i to j all is white space, and no further byte of it follows
pub record IsWhiteSpaceRun (line : List ℕ) (i j : ℕ) : Type 0 where
  pub order : i ≤ j
  pub within : j ≤ length line
  pub run : (k : ℕ) → i ≤ k → k < j → is_white_space (slice_index line k) ≡ true
  pub longest : j < length line → is_white_space (slice_index line j) ≡ false

-- the first start to which a delimiter from `from` on leads
pub record IsFirstStart (line : List ℕ) (from s : ℕ) : Type 0 where
  pub delimiter : ℕ
  pub behind : from ≤ delimiter
  pub leads : Leads line delimiter s
  pub first : (d t : ℕ) → from ≤ d → Leads line d t → s ≤ t

-- a start is admitted after an index, the end of the directive before: a delimiter from there on leads to it; the
-- line's first byte needs no delimiter
abbrev pub IsAdmitted : List ℕ → ℕ → ℕ → Type 0
IsAdmitted line from s = ((s ≡ 0) × IsTokenAt line 0) ⊎ ((d : ℕ) × (from ≤ d) × Leads line d s)

-- a unit of a quoted text: a byte that is neither a quote nor a backslash, or a backslash and the next byte,
-- which is no line feed
abbrev pub IsUnit : List ℕ → Type 0
IsUnit u = ((b : ℕ) × (u ≡ b ∷ []) × (b ≢ 0x22) × (b ≢ 0x5C)) ⊎ ((b : ℕ) × (u ≡ 0x5C ∷ b ∷ []) × (b ≢ 0x0A))

abbrev pub AreUnits : List ℕ → Type 0
AreUnits text = (units : List (List ℕ)) × All IsUnit units × (text ≡ flat_map (λ u. u) units)

-- from an index on there are units and then a closing quote; the end is after that quote
pub record IsClosed (line : List ℕ) (at end : ℕ) : Type 0 where
  pub text : List ℕ
  pub behind : List ℕ
  pub units : AreUnits text
  pub whole : drop at line ≡ text ++ 0x22 ∷ behind
  pub ends : end ≡ at + length text + 1

-- the text from v.0 to v.1 is a value: a nonempty longest run of token bytes, or a quoted text
abbrev pub IsText : List ℕ → ℕ × ℕ → Type 0
IsText line v = ((v.0 < v.1) × IsLongestRun line v.0 v.1)
    ⊎ ((v.0 < length line) × (slice_index line v.0 ≡ 0x22) × IsClosed line (v.0 + 1) v.1)

-- the value v follows directly: an equals sign, and then the value
pub record HasValue (line : List ℕ) (name_end : ℕ) (v : ℕ × ℕ) : Type 0 where
  pub within : name_end < length line
  pub equals : slice_index line name_end ≡ 0x3D
  pub start : v.0 ≡ name_end + 1
  pub text : IsText line v

-- the value, or none; and the end of the directive
abbrev pub EndsWith : List ℕ → ℕ → Option (ℕ × ℕ) → ℕ → Type 0
EndsWith line name_end None end = (end ≡ name_end) × ((v : ℕ × ℕ) → ¬ (HasValue line name_end v))
EndsWith line name_end (Some v) end = (end ≡ v.1) × HasValue line name_end v

-- a directive: a name, and what follows it
pub record IsDirective (line : List ℕ) (p : Span) : Type 0 where
  pub name : IsLongestRun line p.start p.name_end
  pub value : EndsWith line p.name_end p.value p.end

-- the first start that is admitted after an index
pub record IsNextStart (line : List ℕ) (from s : ℕ) : Type 0 where
  pub behind : from ≤ s
  pub admitted : IsAdmitted line from s
  pub none_before : (t : ℕ) → from ≤ t → t < s → ¬ (IsAdmitted line from t)

-- the directive's name and value are parts of a line of this length
pub record LiesWithin (len : ℕ) (p : Span) : Type 0 where
  pub name : p.start ≤ p.name_end
  pub name_end : p.name_end ≤ len
  pub value : IfSome p.value (λ v. (v.0 ≤ v.1) × (v.1 ≤ len))

-- the directives from an index on, which is the end of the directive before
abbrev pub AreDirectivesFrom : List ℕ → ℕ → List Span → Type 0
AreDirectivesFrom line from [] = (s : ℕ) → from ≤ s → ¬ (IsAdmitted line from s)
AreDirectivesFrom line from (p ∷ ps) = IsNextStart line from p.start × IsDirective line p × AreDirectivesFrom line p.end ps

-- the directives of a line
abbrev pub AreDirectives : List ℕ → List Span → Type 0
AreDirectives line spans = AreDirectivesFrom line 0 spans

-- what one call of the scanner finds, in a line from an index on
abbrev pub FindsNext : List ℕ × ℕ → Option Span → List ℕ × ℕ → Type 0
FindsNext d None later = (later ≡ d) × ((s : ℕ) → d.1 ≤ s → ¬ (IsAdmitted d.0 d.1 s))
FindsNext d (Some p) later = (later ≡ (d.0, p.end)) × IsNextStart d.0 d.1 p.start × IsDirective d.0 p × LiesWithin (length d.0) p
