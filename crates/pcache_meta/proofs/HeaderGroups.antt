-- Lines that are grouped by name are those of a map, and no others are.
use Rattle.std.proofs.Common.{length-append}
use Rattle.std.proofs.lemmas.List.Elements.{All-append}
use Rattle.pcache_meta.proofs.Words.{◌≡◌, ℕ, zero, suc, ◌-◌, ◌<◌, ◌≤◌, Bool, true, false, cond, eqb, List, [], ◌∷◌, ◌++◌, length, map, refl, sym, ap, ◌∙◌, arith, inl, inr, All, ◌||◌, bytes_eq, All-nil, All-cons, All-head, All-tail, bytes_eq-Decides, Entry, entry_at, append, append_all, entry_pairs, pairs, IsUnique, Fields, Field, IsField, fields_of, has_name, starts_with_name, are_grouped}
use Rattle.pcache_meta.proofs.Exact.{chosen}
use Rattle.pcache_meta.proofs.HeaderNames.{not_true}
use Rattle.pcache_meta.proofs.RoundTrip.{append_all-pairs}

or_false : (a b : Bool) → (a || b) ≡ false → (a ≡ false) × (b ≡ false)
or_false true b e = absurd cc
or_false false b e = (refl, e)

or_twice : (a b : Bool) → (a || (a || b)) ≡ (a || b)
or_twice true b = refl
or_twice false b = refl

same_bytes : (xs : List ℕ) → bytes_eq xs xs ≡ true
same_bytes xs = (bytes_eq-Decides xs xs).1 refl

other_way : (xs ys : List ℕ) → bytes_eq xs ys ≡ false → bytes_eq ys xs ≡ false
other_way xs ys e = not_true (bytes_eq ys xs) (λ t. unlike (sym ((bytes_eq-Decides xs ys).1 (sym ((bytes_eq-Decides ys xs).0 t))) ∙ e)) where
  unlike : true ≡ false → ⊥
  unlike both = cc both

-- ---- maps in which no name occurs twice

-- an entry has the name
abbrev has_key : List ℕ → Fields → Bool
has_key name [] = false
has_key name (e ∷ m) = bytes_eq e.0 name || has_key name m

-- each entry has a value, and a name that none after it has
abbrev pub IsSet : Fields → Type 0
IsSet [] = Unit {0}
IsSet (e ∷ m) = (0 < length e.1) × (has_key e.0 m ≡ false) × IsSet m

has_key-append : (m : Fields) (name v other : List ℕ) → bytes_eq name other ≡ false → has_key other (append m name v) ≡ has_key other m
has_key-append [] name v other differ = rw differ refl
has_key-append (e ∷ m) name v other differ = elim (bytes_eq e.0 name)
    as (λ t. has_key other (cond t ((e.0, e.1 ++ v ∷ []) ∷ m) (e ∷ append m name v)) ≡ has_key other (e ∷ m)) [
      | true ↦ refl
      | false ↦ ap (λ (b : Bool). bytes_eq e.0 other || b) (has_key-append m name v other differ)
    ]

IsSet-append : (m : Fields) (name v : List ℕ) → IsSet m → IsSet (append m name v)
IsSet-append [] name v is = (omega arith, refl, tt)
IsSet-append (e ∷ m) name v is = go (IsSet-append m name v is.2) (bytes_eq e.0 name) refl where
  go : IsSet (append m name v) → (b : Bool) → bytes_eq e.0 name ≡ b → IsSet (cond b ((e.0, e.1 ++ v ∷ []) ∷ m) (e ∷ append m name v))
  go later true same = (omega (arith, length-append e.1 (v ∷ [])), is.1, is.2)
  go later false differ = (is.0, has_key-append m name v e.0 (other_way e.0 name differ) ∙ is.1, later)

IsSet-append_all : (m : Fields) (lines : List Field) → IsSet m → IsSet (append_all m lines)
IsSet-append_all m [] is = is
IsSet-append_all m (f ∷ lines) is = IsSet-append_all (append m f.0 f.1) lines (IsSet-append m f.0 f.1 is)

-- the map that lines make
pub IsSet-fields_of : (lines : List Field) → IsSet (fields_of lines)
IsSet-fields_of lines = IsSet-append_all [] lines tt

has_key-at : (m : Fields) (name : List ℕ) (i : ℕ) → i < length m → (entry_at m i).0 ≡ name → has_key name m ≡ true
has_key-at [] name i within is = absurd (omega (arith, within))
has_key-at (e ∷ m) name zero within is = rw ((bytes_eq-Decides e.0 name).1 is) refl
has_key-at (e ∷ m) name (suc i) within is = behind (bytes_eq e.0 name) (has_key-at m name i (omega (arith, within)) is) where
  behind : (b : Bool) → has_key name m ≡ true → (b || has_key name m) ≡ true
  behind true there = refl
  behind false there = there

never_both : (b : Bool) → b ≡ true → b ≡ false → ⊥
never_both b is other = let both : true ≡ false = sym is ∙ other in absurd (cc both)

IsUnique-of : (m : Fields) → IsSet m → IsUnique m
IsUnique-of [] is i j a b same = absurd (omega (arith, a))
IsUnique-of (e ∷ m) is zero zero a b same = refl
IsUnique-of (e ∷ m) is zero (suc j) a b same = absurd (never_both (has_key e.0 m) (has_key-at m e.0 j (omega (arith, b)) (sym same)) is.1)
IsUnique-of (e ∷ m) is (suc i) zero a b same = absurd (never_both (has_key e.0 m) (has_key-at m e.0 i (omega (arith, a)) same) is.1)
IsUnique-of (e ∷ m) is (suc i) (suc j) a b same = ap suc (IsUnique-of m is.2 i j (omega (arith, a)) (omega (arith, b)) same)

filled : (m : Fields) → IsSet m → All (λ (e : Entry (List ℕ)). 0 < length e.1) m
filled [] is = All-nil (λ (e : Entry (List ℕ)). 0 < length e.1)
filled (e ∷ m) is = All-cons (λ (x : Entry (List ℕ)). 0 < length x.1) e m is.0 (filled m is.2)

-- the lines of a map make that map
pub made_again : (m : Fields) → IsSet m → fields_of (pairs m) ≡ m
made_again m is = append_all-pairs m (IsUnique-of m is) (filled m is)

-- ---- the lines of a map are grouped by name

has_name-entry : (x name : List ℕ) (vs : List (List ℕ)) (lines : List Field) → 0 < length vs
    → has_name x (map (λ v. (name, v)) vs ++ lines) ≡ (bytes_eq name x || has_name x lines)
has_name-entry x name [] lines some = absurd (omega (arith, some))
has_name-entry x name (v ∷ []) lines some = refl
has_name-entry x name (v ∷ w ∷ vs) lines some =
    ap (λ (b : Bool). bytes_eq name x || b) (has_name-entry x name (w ∷ vs) lines (omega arith)) ∙ or_twice (bytes_eq name x) (has_name x lines)

has_name-pairs : (x : List ℕ) (m : Fields) → IsSet m → has_name x (pairs m) ≡ has_key x m
has_name-pairs x [] is = refl
has_name-pairs x (e ∷ m) is = has_name-entry x e.0 e.1 (pairs m) is.0 ∙ ap (λ (b : Bool). bytes_eq e.0 x || b) (has_name-pairs x m is.2)

not_first : (name : List ℕ) (lines : List Field) → has_name name lines ≡ false → starts_with_name name lines ≡ false
not_first name [] none = refl
not_first name (f ∷ lines) none = (or_false (bytes_eq f.0 name) (has_name name lines) none).0

grouped_entry : (room : ℕ) (name : List ℕ) (vs : List (List ℕ)) (lines : List Field) → 0 < length vs → has_name name lines ≡ false → eqb room 0 ≡ false
    → are_grouped (room - 1) lines ≡ true → are_grouped room (map (λ v. (name, v)) vs ++ lines) ≡ true
grouped_entry room name [] lines some none left later = absurd (omega (arith, some))
grouped_entry room name (v ∷ []) lines some none left later = rw (not_first name lines none, left, none) later
grouped_entry room name (v ∷ w ∷ vs) lines some none left later = rw (same_bytes name) (grouped_entry room name (w ∷ vs) lines (omega arith) none left later)

pub grouped-pairs : (room : ℕ) (m : Fields) → IsSet m → length m ≤ room → are_grouped room (pairs m) ≡ true
grouped-pairs room [] is few = refl
grouped-pairs room (e ∷ m) is few =
    grouped_entry room e.0 e.1 (pairs m) is.0 (has_name-pairs e.0 m is.2 ∙ is.1) (Prim.grind (arith, few)) (grouped-pairs (room - 1) m is.2 (omega (arith, few)))

-- ---- lines that are grouped by name are those of a map

pub record IsMapOf (room : ℕ) (lines : List Field) : Type 0 where
  pub fields : Fields
  pub is : IsSet fields
  pub made : pairs fields ≡ lines
  pub few : length fields ≤ room

-- one more value of the first name
one_more : (room : ℕ) (f : Field) (lines : List Field) → starts_with_name f.0 lines ≡ true → IsMapOf room lines → IsMapOf room (f ∷ lines)
one_more room f lines first made = go made.fields made.is made.made made.few where
  go : (m : Fields) → IsSet m → pairs m ≡ lines → length m ≤ room → IsMapOf room (f ∷ lines)
  go [] is same few = absurd (let none : starts_with_name f.0 lines ≡ false = ap (starts_with_name f.0) (sym same) in never_both (starts_with_name f.0 lines) first none)
  go ((name, []) ∷ m) is same few = absurd (omega (arith, is.0))
  go ((name, v ∷ vs) ∷ m) is same few =
      let named : name ≡ f.0 = (bytes_eq-Decides name f.0).0 (ap (starts_with_name f.0) same ∙ first) in
      record {
        fields = (name, f.1 ∷ v ∷ vs) ∷ m;
        is = (omega arith, is.1, is.2);
        made = ap (λ (ls : List Field). (name, f.1) ∷ ls) same ∙ ap (λ (n : List ℕ). let g : Field = (n, f.1) in g ∷ lines) named;
        few = few;
      }

-- a name that was not there
one_name : (room : ℕ) (f : Field) (lines : List Field) → has_name f.0 lines ≡ false → eqb room 0 ≡ false → IsMapOf (room - 1) lines → IsMapOf room (f ∷ lines)
one_name room f lines none left made = record {
  fields = (f.0, f.1 ∷ []) ∷ made.fields;
  is = (omega arith, sym (has_name-pairs f.0 made.fields made.is) ∙ ap (has_name f.0) made.made ∙ none, made.is);
  made = ap (λ (ls : List Field). f ∷ ls) made.made;
  few = Prim.grind (arith, made.few, left);
}

pub map_of : (room : ℕ) (lines : List Field) → are_grouped room lines ≡ true → IsMapOf room lines
map_of room [] e = record { fields = []; is = tt; made = refl; few = omega arith }
map_of room (f ∷ lines) e = elim (chosen (starts_with_name f.0 lines) _ _ _ e) [
  | inl p ↦ one_more room f lines p.0 (map_of room lines p.1)
  | inr p ↦ elim (chosen (eqb room 0) _ _ _ p.1) [
    | inl q ↦ absurd (cc q.1)
    | inr q ↦ elim (chosen (has_name f.0 lines) _ _ _ q.1) [
      | inl r ↦ absurd (cc r.1)
      | inr r ↦ one_name room f lines r.0 q.0 (map_of (room - 1) lines r.1)
    ]
  ]
]

-- ---- what is valid of lines is valid of those of their map

front_all : (xs ys : List Field) → All IsField (xs ++ ys) → All IsField xs
front_all [] ys all = All-nil IsField
front_all (x ∷ xs) ys all = All-cons IsField x xs (All-head IsField x (xs ++ ys) all) (front_all xs ys (All-tail IsField x (xs ++ ys) all))

behind_all : (xs ys : List Field) → All IsField (xs ++ ys) → All IsField ys
behind_all [] ys all = all
behind_all (x ∷ xs) ys all = behind_all xs ys (All-tail IsField x (xs ++ ys) all)

entry_more : (name : List ℕ) (vs : List (List ℕ)) (v : List ℕ) → All IsField (map (λ w. (name, w)) vs) → IsField (name, v) → All IsField (map (λ w. (name, w)) (vs ++ v ∷ []))
entry_more name [] v all field = All-cons IsField (name, v) [] field (All-nil IsField)
entry_more name (w ∷ vs) v all field =
    All-cons IsField (name, w) (map (λ x. (name, x)) (vs ++ v ∷ [])) (All-head IsField (name, w) (map (λ x. (name, x)) vs) all)
    (entry_more name vs v (All-tail IsField (name, w) (map (λ x. (name, x)) vs) all) field)

valid-append : (m : Fields) (f : Field) → All IsField (pairs m) → IsField f → All IsField (pairs (append m f.0 f.1))
valid-append [] f all field = All-cons IsField f [] field (All-nil IsField)
valid-append (e ∷ m) f all field = go (valid-append m f (behind_all (entry_pairs e) (pairs m) all) field) (bytes_eq e.0 f.0) refl where
  front : All IsField (entry_pairs e)
  front = front_all (entry_pairs e) (pairs m) all

  go : All IsField (pairs (append m f.0 f.1)) → (b : Bool) → bytes_eq e.0 f.0 ≡ b → All IsField (pairs (cond b ((e.0, e.1 ++ f.1 ∷ []) ∷ m) (e ∷ append m f.0 f.1)))
  go later true same =
      let named : e.0 ≡ f.0 = (bytes_eq-Decides e.0 f.0).0 same in
      All-append IsField (map (λ w. (e.0, w)) (e.1 ++ f.1 ∷ [])) (pairs m) (entry_more e.0 e.1 f.1 front (rw named field)) (behind_all (entry_pairs e) (pairs m) all)
  go later false differ = All-append IsField (entry_pairs e) (pairs (append m f.0 f.1)) front later

valid-append_all : (m : Fields) (lines : List Field) → All IsField (pairs m) → All IsField lines → All IsField (pairs (append_all m lines))
valid-append_all m [] all valid = all
valid-append_all m (f ∷ lines) all valid =
    valid-append_all (append m f.0 f.1) lines (valid-append m f all (All-head IsField f lines valid)) (All-tail IsField f lines valid)

pub valid-fields_of : (lines : List Field) → All IsField lines → All IsField (pairs (fields_of lines))
valid-fields_of lines valid = valid-append_all [] lines (All-nil IsField) valid
