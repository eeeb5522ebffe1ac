-- A recency list's moves, as those of the plain list of marked keys.
use Rattle.std.proofs.Common.{◌≡◌, ℕ, zero, suc, ◌-◌, ◌<◌, ◌≤◌, true, false, cond, not, None, Some, option_map, List, [], ◌∷◌, refl, ap, sym, subst, ◌∙◌, arith, length, take}
use Rattle.std.specs.Prelude.{nat_eq}
use Rattle.std.specs.Cmp.{nat_eq_equiv}
use Rattle.std.specs.List.{IsDistinct, AllByRecursion}
use Rattle.std.specs.Option.{option_map_or}
use Rattle.std.specs.Map.{lookup, lookup_entry, remove_entry, keys_of}
use Rattle.std.proofs.lemmas.Bool.{eqb-true}
use Rattle.std.proofs.lemmas.List.{take_all}
use Rattle.std.proofs.lemmas.Map.Keys.{IsDistinct-cons, IsDistinct-head, IsDistinct-tail}
use Rattle.std.proofs.lemmas.Map.Made.{IsDistinct-keys_filter}
use Rattle.lru.specs.LruCache.{LruCache, lru_cache, put_entries, IsValid}
use Rattle.pcache_base.specs.declared.reason.NoCacheReason.{NoCacheReason}
use Rattle.pcache_predict.specs.Remembered.{others}

-- if a key equal to k does not occur any further, k does not occur
all_apart : (k j : ℕ) (l : List (ℕ × NoCacheReason)) → nat_eq k j ≡ true → AllByRecursion (λ y. nat_eq j y ≡ false) (keys_of l) → others k l ≡ l
all_apart k j [] t a = refl
all_apart k j (e ∷ l) t a =
    ap (λ b. cond (not b) (e ∷ others k l) (others k l)) (nat_eq_equiv.congr k j e.0 t ∙ a.0) ∙ ap (λ xs. e ∷ xs) (all_apart k j l t a.1)

-- a key is removed
pub remove-others : (k : ℕ) (l : List (ℕ × NoCacheReason)) → IsDistinct nat_eq (keys_of l) → remove_entry (nat_eq k) l ≡ others k l
remove-others k [] d = refl
remove-others k (e ∷ l) d =
    elim (nat_eq k e.0) as (λ b. nat_eq k e.0 ≡ b → cond b l (e ∷ remove_entry (nat_eq k) l) ≡ cond (not b) (e ∷ others k l) (others k l)) [
      | true ↦ λ t. sym (all_apart k e.0 l t (IsDistinct-head nat_eq e.0 (keys_of l) d))
      | false ↦ λ t. ap (λ xs. e ∷ xs) (remove-others k l (IsDistinct-tail nat_eq e.0 (keys_of l) d))
    ] refl

others-none : (k : ℕ) (l : List (ℕ × NoCacheReason)) → lookup (nat_eq k) l ≡ None → others k l ≡ l
others-none k [] h = refl
others-none k (e ∷ l) h =
    elim (nat_eq k e.0) as (λ b. cond b (Some e.1) (lookup (nat_eq k) l) ≡ None → cond (not b) (e ∷ others k l) (others k l) ≡ e ∷ l) [
      | true ↦ λ h. cc
      | false ↦ λ h. ap (λ xs. e ∷ xs) (others-none k l h)
    ] h

entry_found : (k : ℕ) (l : List (ℕ × NoCacheReason)) → lookup_entry (nat_eq k) l ≡ option_map (λ w. (k, w)) (lookup (nat_eq k) l)
entry_found k [] = refl
entry_found k (e ∷ l) =
    elim (nat_eq k e.0) as (λ b. nat_eq k e.0 ≡ b → cond b (Some e) (lookup_entry (nat_eq k) l) ≡ option_map (λ w. (k, w)) (cond b (Some e.1) (lookup (nat_eq k) l))) [
      | true ↦ λ t. ap (λ (x : ℕ). Some (x, e.1)) (sym (eqb-true k e.0 t))
      | false ↦ λ t. entry_found k l
    ] refl

length-others_le : (k : ℕ) (l : List (ℕ × NoCacheReason)) → length (others k l) ≤ length l
length-others_le k [] = omega arith
length-others_le k (e ∷ l) =
    let rest = length-others_le k l in
    elim (nat_eq k e.0) as (λ b. length (cond (not b) (e ∷ others k l) (others k l)) ≤ length (e ∷ l)) [
      | true ↦ omega (arith, rest)
      | false ↦ omega (arith, rest)
    ]

length-others : (k : ℕ) (l : List (ℕ × NoCacheReason)) (w : NoCacheReason) → lookup (nat_eq k) l ≡ Some w → length (others k l) < length l
length-others k [] w h = absurd (cc)
length-others k (e ∷ l) w h =
    let rest = length-others_le k l in
    elim (nat_eq k e.0) as (λ b. cond b (Some e.1) (lookup (nat_eq k) l) ≡ Some w → length (cond (not b) (e ∷ others k l) (others k l)) < length (e ∷ l)) [
      | true ↦ λ h. omega (arith, rest)
      | false ↦ λ h. omega (arith, length-others k l w h)
    ] h

take_front : {A : Type 0} (n : ℕ) (x : A) (xs : List A) → 0 < n → take n (x ∷ xs) ≡ x ∷ take (n - 1) xs
take_front zero x xs lt = absurd (omega arith)
take_front (suc n) x xs lt = let e : n ≡ suc n - 1 = omega arith in ap (λ m. x ∷ take m xs) e

-- a key is put in front, and the list cut
pub put-marked : (c : LruCache ℕ NoCacheReason) (k : ℕ) (w : NoCacheReason) → IsValid nat_eq c → put_entries nat_eq c k w ≡ take c.cap ((k, w) ∷ others k c.entries)
put-marked c k w valid =
    ap (λ o. option_map_or (λ (e : ℕ × NoCacheReason). (e.0, w) ∷ remove_entry (nat_eq k) c.entries) o ((k, w) ∷ take (c.cap - 1) c.entries)) (entry_found k c.entries)
    ∙ (elim (lookup (nat_eq k) c.entries) as (λ o. lookup (nat_eq k) c.entries ≡ o → option_map_or (λ (e : ℕ × NoCacheReason). (e.0, w) ∷ remove_entry (nat_eq k) c.entries) (option_map (λ w. (k, w)) o) ((k, w) ∷ take (c.cap - 1) c.entries) ≡ take c.cap ((k, w) ∷ others k c.entries)) [
      | None ↦ λ h. ap (λ es. (k, w) ∷ take (c.cap - 1) es) (sym (others-none k c.entries h)) ∙ sym (take_front c.cap (k, w) (others k c.entries) valid.2)
      | Some v ↦ λ h.
          let short : length (others k c.entries) ≤ c.cap - 1 = omega (arith, length-others k c.entries v h, valid.1) in
          ap (λ es. (k, w) ∷ es) (remove-others k c.entries valid.0 ∙ sym (take_all (c.cap - 1) (others k c.entries) short)) ∙ sym (take_front c.cap (k, w) (others k c.entries) valid.2)
    ] refl)

-- the key that was removed does not occur
apart-others : (k : ℕ) (l : List (ℕ × NoCacheReason)) → AllByRecursion (λ y. nat_eq k y ≡ false) (keys_of (others k l))
apart-others k [] = tt
apart-others k (e ∷ l) =
    let rest = apart-others k l in
    elim (nat_eq k e.0) as (λ b. nat_eq k e.0 ≡ b → AllByRecursion (λ y. nat_eq k y ≡ false) (keys_of (cond (not b) (e ∷ others k l) (others k l)))) [
      | true ↦ λ t. rest
      | false ↦ λ t. (t, rest)
    ] refl

all-take : (P : ℕ → Type 0) (n : ℕ) (l : List (ℕ × NoCacheReason)) → AllByRecursion P (keys_of l) → AllByRecursion P (keys_of (take n l))
all-take P zero l a = tt
all-take P (suc n) [] a = tt
all-take P (suc n) (e ∷ l) a = (a.0, all-take P n l a.1)

distinct-take : (n : ℕ) (l : List (ℕ × NoCacheReason)) → IsDistinct nat_eq (keys_of l) → IsDistinct nat_eq (keys_of (take n l))
unfolding IsDistinct
distinct-take zero l d = tt
distinct-take (suc n) [] d = tt
distinct-take (suc n) (e ∷ l) d = (all-take (λ y. nat_eq e.0 y ≡ false) n l d.0, distinct-take n l d.1)

length-take_le : {A : Type 0} (n : ℕ) (l : List A) → length (take n l) ≤ n
length-take_le zero l = omega arith
length-take_le (suc n) [] = omega arith
length-take_le (suc n) (x ∷ l) = let rest = length-take_le n l in omega (arith, rest)

-- a list stays as lists are kept once a key is put in front, and once one is removed
pub valid-marked : (c : LruCache ℕ NoCacheReason) (k : ℕ) (w : NoCacheReason) → IsValid nat_eq c → IsValid nat_eq (lru_cache (put_entries nat_eq c k w) c.cap)
valid-marked c k w valid =
    let l = others k c.entries in
    let apart : IsDistinct nat_eq (keys_of ((k, w) ∷ l)) = IsDistinct-cons nat_eq k (keys_of l) (apart-others k c.entries) (IsDistinct-keys_filter nat_eq (λ e. not (nat_eq k e.0)) c.entries valid.0) in
    subst (λ es. IsValid nat_eq (lru_cache es c.cap)) (sym (put-marked c k w valid)) (distinct-take c.cap ((k, w) ∷ l) apart, length-take_le c.cap ((k, w) ∷ l), valid.2)

pub valid-unmarked : (c : LruCache ℕ NoCacheReason) (k : ℕ) → IsValid nat_eq c → IsValid nat_eq (lru_cache (remove_entry (nat_eq k) c.entries) c.cap)
valid-unmarked c k valid =
    let less = length-others_le k c.entries in
    subst (λ es. IsValid nat_eq (lru_cache es c.cap)) (sym (remove-others k c.entries valid.0)) (IsDistinct-keys_filter nat_eq (λ e. not (nat_eq k e.0)) c.entries valid.0, omega (arith, less, valid.1), valid.2)
