-- One more eviction.
use Rattle.std.specs.List.{IsDistinct}
use Rattle.std.proofs.lemmas.Bool.{or_cases}
use Rattle.std.proofs.lemmas.Map.Keys.{IsDistinct-push}
use Rattle.pcache_evict.proofs.Words.{◌≡◌, ℕ, Bool, true, false, cond, Option, None, is_some, IsTrue, All, List, [], ◌∷◌, ◌++◌, refl, ap, sym, subst, ◌∙◌, arith, length, inl, inr, list_any, eq_by_cmp, eq_by_cmp_equiv, both_ways, All-push, All-nil, CacheEntryKey, entry_cmp, entries_total, Tracked, Limits, IsWithin, without}
use Rattle.std.specs.FinMap as map

-- what was evicted so far from a map
pub record Gone (limits : Limits) (m : Tracked) (out : List CacheEntryKey) : Type 0 where
  pub tracked : All (λ e. IsTrue (map.contains_key m e)) out
  pub once : IsDistinct (eq_by_cmp entry_cmp) out
  pub needed : (front : List CacheEntryKey) (last : CacheEntryKey) → out ≡ front ++ last ∷ [] → ¬ IsWithin limits (without front m)

pub without-push : (out : List CacheEntryKey) (e : CacheEntryKey) (m : Tracked) → without (out ++ e ∷ []) m ≡ map.remove (without out m) e
without-push [] e m = refl
without-push (x ∷ out) e m = without-push out e (map.remove m x)

-- what is left after a removal was there
pub left_there : (m : Tracked) (x e : CacheEntryKey) → map.contains_key (map.remove m x) e ≡ true → map.contains_key m e ≡ true
left_there m x e h = both (eq_by_cmp entry_cmp e x) (map.get m e) (ap is_some (sym (map.get-remove entries_total m x e)) ∙ h)
  where
    both : (b : Bool) (o : Option ℕ) → is_some (cond b None o) ≡ true → is_some o ≡ true
    both true o h = absurd (cc)
    both false o h = h

pub was_there : (out : List CacheEntryKey) (m : Tracked) (e : CacheEntryKey) → map.contains_key (without out m) e ≡ true → map.contains_key m e ≡ true
was_there [] m e h = h
was_there (x ∷ out) m e h = left_there m x e (was_there out (map.remove m x) e h)

pub gone_here : (m : Tracked) (x e : CacheEntryKey) → eq_by_cmp entry_cmp e x ≡ true → map.contains_key (map.remove m x) e ≡ false
gone_here m x e t = ap is_some (map.get-remove entries_total m x e ∙ ap (λ b. cond b None (map.get m e)) t)

-- what was evicted is not left
pub is_gone : (out : List CacheEntryKey) (m : Tracked) (e : CacheEntryKey) → list_any (eq_by_cmp entry_cmp e) out ≡ true → map.contains_key (without out m) e ≡ false
is_gone [] m e h = absurd (cc)
is_gone (x ∷ out) m e h =
    elim (or_cases (eq_by_cmp entry_cmp e x) (list_any (eq_by_cmp entry_cmp e) out) h) [
      | inl t ↦ elim (map.contains_key (without out (map.remove m x)) e) as (λ b. map.contains_key (without out (map.remove m x)) e ≡ b → b ≡ false) [
        | true ↦ λ there. absurd (both_ways _ (gone_here m x e t) (was_there out (map.remove m x) e there))
        | false ↦ λ _. refl
      ] refl
      | inr later ↦ is_gone out (map.remove m x) e later
    ]

fresh : (out : List CacheEntryKey) (m : Tracked) (e : CacheEntryKey) → map.contains_key (without out m) e ≡ true → list_any (eq_by_cmp entry_cmp e) out ≡ false
fresh out m e h = elim (list_any (eq_by_cmp entry_cmp e) out) as (λ b. list_any (eq_by_cmp entry_cmp e) out ≡ b → b ≡ false) [ true ↦ λ t. absurd (both_ways _ (is_gone out m e t) h) | false ↦ λ _. refl ] refl

-- the front of a list with one item at its end
front_is : (xs ys : List CacheEntryKey) (x y : CacheEntryKey) → xs ++ x ∷ [] ≡ ys ++ y ∷ [] → xs ≡ ys
front_is [] [] x y h = refl
front_is [] (b ∷ ys) x y h = absurd (short ys y (ap (λ (l : List CacheEntryKey). length l) h))
  where
    short : (ys : List CacheEntryKey) (y : CacheEntryKey) → 1 ≡ length (b ∷ (ys ++ y ∷ [])) → ⊥
    short [] y e = omega arith
    short (c ∷ ys) y e = omega arith
front_is (a ∷ xs) [] x y h = absurd (short xs x (ap (λ (l : List CacheEntryKey). length l) h))
  where
    short : (xs : List CacheEntryKey) (x : CacheEntryKey) → length (a ∷ (xs ++ x ∷ [])) ≡ 1 → ⊥
    short [] x e = omega arith
    short (c ∷ xs) x e = omega arith
front_is (a ∷ xs) (b ∷ ys) x y h =
    let heads : a ≡ b = cc in
    let tails : xs ++ x ∷ [] ≡ ys ++ y ∷ [] = cc in
    λ i. heads i ∷ front_is xs ys x y tails i

pub gone-none : (limits : Limits) (m : Tracked) → Gone limits m []
unfolding IsDistinct
gone-none limits m = record { tracked = All-nil (λ e. IsTrue (map.contains_key m e)); once = tt; needed = λ front last h. absurd (empty front last h) }
  where
    empty : (front : List CacheEntryKey) (last : CacheEntryKey) → [] ≡ front ++ last ∷ [] → ⊥
    empty [] last h = cc
    empty (x ∷ front) last h = cc

pub gone-more : (limits : Limits) (m : Tracked) (out : List CacheEntryKey) (e : CacheEntryKey) → Gone limits m out → map.contains_key (without out m) e ≡ true → ¬ IsWithin limits (without out m) → Gone limits m (out ++ e ∷ [])
gone-more limits m out e k there over =
    record {
      tracked = All-push (λ e. IsTrue (map.contains_key m e)) out e k.tracked (was_there out m e there);
      once = IsDistinct-push (eq_by_cmp_equiv entries_total) out e k.once (fresh out m e there);
      needed = λ front last h. subst (λ xs. ¬ IsWithin limits (without xs m)) (front_is out front e last h) over;
    }
