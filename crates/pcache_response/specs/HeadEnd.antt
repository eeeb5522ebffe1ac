-- Where the head of a response ends (own): after the first empty line that follows its first line. Empty lines
-- before the first line are skipped.
use Rattle.std.specs.Prelude.{◌≡◌, ◌≢◌, ℕ, ◌⊎◌, All, List, [], ◌∷◌, ◌++◌, length}
use Rattle.std.specs.List.{flat_map}

-- a line: bytes that are no line feeds, and a line feed
abbrev pub IsLine : List ℕ → Type 0
IsLine l = (text : List ℕ) × All (λ b. b ≢ 0x0A) text × (l ≡ text ++ 0x0A ∷ [])

-- an empty line is LF, or CR LF
abbrev pub IsEmpty : List ℕ → Type 0
IsEmpty l = (l ≡ 0x0A ∷ []) ⊎ (l ≡ 0x0D ∷ 0x0A ∷ [])

abbrev pub IsFull : List ℕ → Type 0
IsFull l = IsLine l × ¬ (IsEmpty l)

abbrev pub joined : List (List ℕ) → List ℕ
joined lines = flat_map (λ l. l) lines

-- a whole head: empty lines, a line that is not empty, further such lines, and an empty line
pub record IsWhole (head : List ℕ) : Type 0 where
  pub skipped : List (List ℕ)
  pub first : List ℕ
  pub lines : List (List ℕ)
  pub last : List ℕ
  pub empty : All IsEmpty skipped
  pub begins : IsFull first
  pub full : All IsFull lines
  pub ends : IsEmpty last
  pub whole : head ≡ joined skipped ++ (first ++ (joined lines ++ last))

-- the head ends after the first n bytes
pub record EndsAt (bytes : List ℕ) (n : ℕ) : Type 0 where
  pub head : List ℕ
  pub behind : List ℕ
  pub lines : IsWhole head
  pub whole : bytes ≡ head ++ behind
  pub size : n ≡ length head

-- the head does not end within these bytes
abbrev pub IsUnfinished : List ℕ → Type 0
IsUnfinished bytes = (n : ℕ) → ¬ (EndsAt bytes n)
