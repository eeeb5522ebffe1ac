-- What the seats of a shared log know, and the rule that connects them (own).
use Rattle.std.specs.Prelude.{◌≡◌, ℕ, zero, suc, ◌+◌, ◌-◌, ◌<◌, ◌^◌, ◌==◌, List, [], ◌∷◌, ◌++◌, map, length, Bool, true, false, Some, slice_get, ⊤}
use Rattle.std.specs.List.{All}
use mathlib.Core.Option.{Option, none, some}
use lib.ListN.{get_elem?}
use Rattle.atomic_table.specs.Table.{Me, Step}
use Rattle.pcache_shared_world.specs.declared.view.View.{View}

abbrev pub one_if : Bool → ℕ
one_if true = 1
one_if false = 0

-- how often p occurs in the list
abbrev pub times : ℕ → List ℕ → ℕ
times p [] = 0
times p (x ∷ xs) = one_if (x == p) + times p xs

-- the numbers below n, the greatest first
abbrev pub numbers : ℕ → List ℕ
numbers zero = []
numbers (suc n) = n ∷ numbers n

abbrev pub total : {X : Type 0} → (X → ℕ) → List X → ℕ
total f [] = 0
total f (x ∷ xs) = f x + total f xs

-- each number is greater than the one before it
abbrev pub Rises : List ℕ → Type 0
Rises [] = ⊤
Rises (x ∷ xs) = All (λ y. x < y) xs × Rises xs

-- the number of all parts
abbrev pub whole : ℕ
whole = 2 ^ 64

module _ {E : Type 0} where
  abbrev pub places : List (ℕ × E) → List ℕ
  places claims = map (λ (c : ℕ × E). c.0) claims

  -- what the seat under the lock knows: the whole log
  abbrev pub keeper : ℕ → List E → List (ℕ × E) → View E
  keeper parts all claims = record { keeps = true; all = all; parts = parts; claims = claims }

  -- what a share's seat knows: its entries, each with its index
  abbrev pub slip : List (ℕ × E) → View E
  slip claims = record { keeps = false; all = []; parts = 1; claims = claims }

  abbrev pub nobody : View E
  nobody = record { keeps = false; all = []; parts = 0; claims = [] }

  abbrev pub IsAt : List E → ℕ × E → Type 0
  IsAt log c = slice_get log c.0 ≡ Some c.1

  -- what the rule says of one view
  abbrev pub Fits : ℕ → List E → ℕ → View E → Type 0
  Fits seat log by v = (v.keeps ≡ true → (by ≡ seat) × (v.all ≡ log)) × All (IsAt log) v.claims × (v.parts ≡ 0 → v.claims ≡ [])

  -- at most one view keeps the log; each claim is in it, and each index of it is claimed once; a view with no part claims nothing
  abbrev pub Kept : List (View E) → Type 0
  Kept views =
      (seat : ℕ) × (log : List E)
      × ((by : ℕ) (v : View E) → get_elem? views by ≡ some v → Fits seat log by v)
      × (total (λ v. v.parts) views ≡ whole)
      × ((p : ℕ) → total (λ v. times p (places v.claims)) views ≡ times p (numbers (length log)))

  -- the entry is added, and claimed
  abbrev pub added : View E → Option E → View E
  added v none = v
  added v (some e) = record { keeps = v.keeps; all = v.all ++ e ∷ []; parts = v.parts; claims = v.claims ++ (length v.all, e) ∷ [] }

  abbrev pub Adds : Step E → Me E (View E) → ℕ → Me E (View E) → Type 0
  Adds s v found w = (w ≡ (added v.0 s.said, v.1)) × All (λ c. c.0 < length v.0.all) v.0.claims

  -- with all parts: the claims are in the log, one at each index
  abbrev pub Settles : Step E → Me E (View E) → ℕ → Me E (View E) → Type 0
  Settles s v found w = (w ≡ v) × (v.0.parts ≡ whole → All (IsAt v.0.all) v.0.claims × ((p : ℕ) → times p (places v.0.claims) ≡ times p (numbers (length v.0.all))))

  abbrev pub both : View E → View E → View E
  both v w = record { keeps = v.keeps; all = v.all; parts = v.parts + w.parts; claims = v.claims ++ w.claims }

  -- the keeper without a part, and without its claims
  abbrev pub relieved : View E → View E
  relieved v = record { keeps = v.keeps; all = v.all; parts = v.parts - 1; claims = [] }

  abbrev pub slip_of : View E → View E
  slip_of v = slip v.claims

  abbrev pub IsKeeper : Me E (View E) → Type 0
  IsKeeper me = me ≡ (keeper me.0.parts me.0.all me.0.claims, [])

  abbrev pub IsSlip : Me E (View E) → Type 0
  IsSlip me = me ≡ (slip me.0.claims, [])
