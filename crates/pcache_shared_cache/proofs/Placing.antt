-- The parts of a cache as they are made, each at its place and with the name that the mark has for it.
use Rattle.std.proofs.Common.{◌⊎◌, append-nil}
use Rattle.std.proofs.lemmas.List.{length-append}
use Rattle.pcache_shared_cache.specs.Seen.{AreNamed, ArePlaced}
use Rattle.pcache_shared_cache.proofs.Words.{◌≡◌, ⊎_elim, inl, inr, ℕ, ◌+◌, zero, suc, ◌++◌, List, [], ◌∷◌, Option, None, Some, append_assoc, length, map, slice_get, refl, sym, ap, subst, ◌∙◌, map-append, map-map, IfOk, Result, Ok, Err, Parts, Evicted, Limits, Tracked, Portioned, Unmade, managed_in, no_entries, opened, unmade_managed, unmade_name, unmade_portion, Begun, IsNamed, begun_first, limits_in}

-- an element of a longer list is one of the list, or the last
got : {A : Type 0} (xs : List A) (b p : A) (i : ℕ) → slice_get (xs ++ b ∷ []) i ≡ Some p → (slice_get xs i ≡ Some p) ⊎ ((length xs ≡ i) × (Some b ≡ Some p))
got [] b p zero is = inr (refl, is)
got [] b p (suc i) is = inl is
got (x ∷ xs) b p zero is = inl is
got (x ∷ xs) b p (suc i) is = ⊎_elim inl (λ last. inr (ap suc last.0, last.1)) (got xs b p i is)

abbrev place_of : Option Begun → ℕ
place_of None = 0
place_of (Some p) = p.place

pub placed_more : (parts : List Begun) (b : Begun) → ArePlaced parts → b.place ≡ length parts → ArePlaced (parts ++ b ∷ [])
placed_more parts b placed here i p is = ⊎_elim (placed i p) (λ last. sym (ap place_of last.1) ∙ here ∙ last.0) (got parts b p i is)

pub placed_none : ArePlaced []
placed_none i p is = absurd (cc)

-- the name that comes after those that were taken
next_name : {M : Type 0} (taken rest : List (Unmade M)) (u : Unmade M) → slice_get (map unmade_name (taken ++ u ∷ rest)) (length taken) ≡ Some u.name
next_name {M} [] rest u = refl
next_name {M} (t ∷ taken) rest u = next_name taken rest u

-- Of the parts that are to be made these were taken, and the locks made of them stand at their places, each begun as it has to. This is
-- left.
abbrev pub Made : {M : Type 0} → (Unmade M → Parts) → List (Unmade M) → List (Unmade M) → List Begun → Type 0
Made {M} begins all rest parts = (taken : List (Unmade M)) × (taken ++ rest ≡ all) × (length taken ≡ length parts) × (map begun_first parts ≡ map begins taken) × ArePlaced parts

pub made_none : {M : Type 0} (begins : Unmade M → Parts) (all : List (Unmade M)) → Made begins all all []
made_none begins all = ([], refl, refl, refl, placed_none)

pub named_next : {M : Type 0} (begins : Unmade M → Parts) (names : ℕ → Option ℕ) (all rest : List (Unmade M)) (u : Unmade M) (parts : List Begun) → AreNamed names (map unmade_name all) → Made begins all (u ∷ rest) parts → IsNamed (names (length parts)) u.name
named_next {M} begins names all rest u parts named made =
    named (length parts) u.name (subst (λ n. slice_get (map unmade_name all) n ≡ Some u.name) made.2 (subst (λ l. slice_get (map unmade_name l) (length made.0) ≡ Some u.name) made.1 (next_name made.0 rest u)))

pub made_more : {M : Type 0} (begins : Unmade M → Parts) (all rest : List (Unmade M)) (u : Unmade M) (parts : List Begun) (b : Begun) → Made begins all (u ∷ rest) parts → b.place ≡ length parts → b.first ≡ begins u → Made begins all rest (parts ++ b ∷ [])
made_more {M} begins all rest u parts b made here first = (
  made.0 ++ u ∷ [],
  append_assoc made.0 (u ∷ []) rest ∙ made.1,
  length-append made.0 (u ∷ []) ∙ ap (λ n. n + 1) made.2 ∙ sym (length-append parts (b ∷ [])),
  map-append begun_first parts (b ∷ []) ∙ ap (λ ps. ps ++ b.first ∷ []) made.3 ∙ ap (λ (p : Parts). map begins made.0 ++ p ∷ []) first ∙ sym (map-append begins made.0 (u ∷ [])),
  placed_more parts b made.4 here,
)

pub made_all : {M : Type 0} (begins : Unmade M → Parts) (all : List (Unmade M)) (parts : List Begun) → Made begins all [] parts → map begun_first parts ≡ map begins all
made_all {M} begins all parts made = made.3 ∙ ap (map begins) (sym (append-nil made.0) ∙ made.1)

pub made_count : {M : Type 0} (begins : Unmade M → Parts) (all : List (Unmade M)) (parts : List Begun) → Made begins all [] parts → length parts ≡ length all
made_count {M} begins all parts made = sym made.2 ∙ ap length (sym (append-nil made.0) ∙ made.1)

pub made_placed : {M : Type 0} (begins : Unmade M → Parts) (all : List (Unmade M)) (parts : List Begun) → Made begins all [] parts → ArePlaced parts
made_placed {M} begins all parts made = made.4

-- the managers of parts that are to be made
pub new_managers : {M : Type 0} (tracked : M → Tracked) (evicted : M → Evicted) (us : List (Unmade M)) (ps : List (Portioned M)) → map unmade_portion us ≡ ps → map (unmade_managed tracked evicted) us ≡ map (managed_in tracked evicted) ps
new_managers {M} tracked evicted us ps is = sym (map-map (managed_in tracked evicted) unmade_portion us) ∙ ap (map (managed_in tracked evicted)) is

-- an empty part has the limits of its manager
pub empty_limits : (age : ℕ) (ls : List Limits) → limits_in (map (opened age) (map no_entries ls)) ≡ ls
empty_limits age [] = refl
empty_limits age (l ∷ ls) = ap (λ (xs : List Limits). l ∷ xs) (empty_limits age ls)

pub ok_limits : {E : Type 0} (age : ℕ) (ls : List Limits) (result : Result (List Parts) E) → IfOk result (λ c. c ≡ map (opened age) (map no_entries ls)) → IfOk result (λ c. limits_in c ≡ ls)
ok_limits age ls (Ok c) is = ap limits_in is ∙ empty_limits age ls
ok_limits age ls (Err e) is = tt
