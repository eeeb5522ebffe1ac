-- A map is made again from its pairs.
use Rattle.std.proofs.Common.{length-append}
use Rattle.std.proofs.lemmas.List.Sums.{fold-append}
use Rattle.std.proofs.lemmas.List.{get_or_append_left}
use Rattle.std.proofs.Math.Seq.{get_or-append_seam}
use Rattle.http_header.specs.HeaderMap.{update}
use Rattle.pcache_meta.proofs.Words.{◌≡◌, ℕ, suc, ◌<◌, Bool, true, false, List, [], ◌∷◌, ◌++◌, length, map, refl, sym, ap, ◌∙◌, append_assoc, arith, All, bytes_eq, All-head, All-tail, bytes_eq-Decides, append-nil, Entry, Entries, entry_at, append, append_all, entry_pairs, pairs, IsUnique}

same_bytes : (xs : List ℕ) → bytes_eq xs xs ≡ true
same_bytes xs = (bytes_eq-Decides xs xs).1 refl

not_true : (b : Bool) → (b ≡ true → ⊥) → b ≡ false
not_true true never = absurd (never refl)
not_true false never = refl

other_bytes : (xs ys : List ℕ) → (xs ≡ ys → ⊥) → bytes_eq xs ys ≡ false
other_bytes xs ys differ = not_true (bytes_eq xs ys) (λ e. differ ((bytes_eq-Decides xs ys).0 e))

module _ {X : Type 0} where
  -- no entry has the name
  abbrev IsFresh : Entries X → List ℕ → Type 0
  IsFresh m name = (i : ℕ) → i < length m → (entry_at m i).0 ≡ name → ⊥

  -- a name that is new goes last
  update_new : (m : Entries X) (name : List ℕ) (f : List X → List X) → IsFresh m name → update m name f ≡ m ++ (name, f []) ∷ []
  update_new [] name f fresh = refl
  update_new (e ∷ m) name f fresh =
      let differ : bytes_eq e.0 name ≡ false = other_bytes e.0 name (fresh 0 (omega arith)) in
      rw differ (ap (λ (n : Entries X). e ∷ n) (update_new m name f (λ i lt. fresh (suc i) (omega arith))))

  -- the last entry is changed in place
  update_last : (m : Entries X) (name : List ℕ) (values : List X) (f : List X → List X) → IsFresh m name
      → update (m ++ (name, values) ∷ []) name f ≡ m ++ (name, f values) ∷ []
  update_last [] name values f fresh = rw (same_bytes name) refl
  update_last (e ∷ m) name values f fresh =
      let differ : bytes_eq e.0 name ≡ false = other_bytes e.0 name (fresh 0 (omega arith)) in
      rw differ (ap (λ (n : Entries X). e ∷ n) (update_last m name values f (λ i lt. fresh (suc i) (omega arith))))

  -- the values after the first
  append_rest : (m : Entries X) (name : List ℕ) (values more : List X) → IsFresh m name
      → append_all (m ++ (name, values) ∷ []) (map (λ v. (name, v)) more) ≡ m ++ (name, values ++ more) ∷ []
  append_rest m name values [] fresh = ap (λ (vs : List X). m ++ (name, vs) ∷ []) (sym (append-nil values))
  append_rest m name values (v ∷ more) fresh =
      ap (λ (n : Entries X). append_all n (map (λ w. (name, w)) more)) (update_last m name values (λ vs. vs ++ v ∷ []) fresh)
      ∙ append_rest m name (values ++ v ∷ []) more fresh ∙ ap (λ (vs : List X). m ++ (name, vs) ∷ []) (append_assoc values (v ∷ []) more)

  -- all values of one entry
  append_entry : (m : Entries X) (e : Entry X) → IsFresh m e.0 → 0 < length e.1 → append_all m (entry_pairs e) ≡ m ++ e ∷ []
  append_entry m e fresh some = go e.1 some refl where
    go : (vs : List X) → 0 < length vs → vs ≡ e.1 → append_all m (map (λ v. (e.0, v)) vs) ≡ m ++ e ∷ []
    go [] none is = absurd (omega arith)
    go (v ∷ vs) some is =
        ap (λ (n : Entries X). append_all n (map (λ w. (e.0, w)) vs)) (update_new m e.0 (λ values. values ++ v ∷ []) fresh)
        ∙ append_rest m e.0 (v ∷ []) vs fresh ∙ ap (λ (x : List X). m ++ (e.0, x) ∷ []) is

  -- each entry has a value
  abbrev AreFilled : Entries X → Type 0
  AreFilled m = All (λ e. 0 < length e.1) m

  fresh_of : (front : Entries X) (e : Entry X) (m : Entries X) → IsUnique (front ++ e ∷ m) → IsFresh front e.0
  fresh_of front e m unique i lt same =
      let left : entry_at (front ++ e ∷ m) i ≡ entry_at front i = get_or_append_left front (e ∷ m) ([], []) i lt in
      let seam : entry_at (front ++ e ∷ m) (length front) ≡ e = get_or-append_seam front e m ([], []) in
      let names : (entry_at (front ++ e ∷ m) i).0 ≡ (entry_at (front ++ e ∷ m) (length front)).0 =
      ap (λ (x : Entry X). x.0) left ∙ same ∙ ap (λ (x : Entry X). x.0) (sym seam) in
      let size = length-append front (e ∷ m) in
      let at : i ≡ length front = unique i (length front) (omega (arith, size)) (omega (arith, size)) names in
      omega arith

  remade : (front m : Entries X) → IsUnique (front ++ m) → AreFilled m → append_all front (pairs m) ≡ front ++ m
  remade front [] unique filled = sym (append-nil front)
  remade front (e ∷ m) unique filled =
      let regrouped : (front ++ e ∷ []) ++ m ≡ front ++ e ∷ m = append_assoc front (e ∷ []) m in
      fold-append (λ n item. append n item.0 item.1) front (entry_pairs e) (pairs m)
      ∙ ap (λ (n : Entries X). append_all n (pairs m)) (append_entry front e (fresh_of front e m unique) (All-head (λ (x : Entry X). 0 < length x.1) e m filled))
      ∙ remade (front ++ e ∷ []) m (rw regrouped unique) (All-tail (λ (x : Entry X). 0 < length x.1) e m filled) ∙ regrouped

  -- the pairs of a map, appended in turn, are the map
  pub append_all-pairs : (m : Entries X) → IsUnique m → AreFilled m → append_all [] (pairs m) ≡ m
  append_all-pairs m unique filled = remade [] m unique filled
