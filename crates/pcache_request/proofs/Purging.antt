-- One more entry of a list for which a step is taken in order.
use Rattle.std.proofs.Common.{◌≡◌, ℕ, ◌+◌, ◌≤◌, ◌<◌, List, ◌∷◌, length, get_or, drop, refl, sym, subst, inl, inr, arith, add-one, drop-cons, add-zero, Bool, true, false}
use Rattle.std.proofs.Math.ListN.{drop_of_length-le}
use Rattle.pcache_evict.specs.declared.eviction.entry_key.CacheEntryKey.{CacheEntryKey}
use Rattle.pcache_request.specs.Finishing.{TakesAll}

drop_item : (ks : List CacheEntryKey) (i : ℕ) (d : CacheEntryKey) → i < length ks → drop i ks ≡ get_or ks i d ∷ drop (i + 1) ks
drop_item ks i d lt = rw add-one (drop-cons ks i d lt)

-- what holds of the rest holds of one entry less, once its step was taken or not
pub told_on : {A : Type 0} (step : A → CacheEntryKey → A) (whole s s' : A) (ks : List CacheEntryKey) (i f g : ℕ) (d : CacheEntryKey) (b : Bool) → i < length ks
    → (b ≡ true → s' ≡ s) → (b ≡ false → s' ≡ step s (get_or ks i d)) → (b ≡ true → g ≡ f + 1) → (b ≡ false → g ≡ f)
    → ((m : ℕ) (t : A) → TakesAll step s (drop i ks) m t → TakesAll step whole ks (f + m) t)
    → (m : ℕ) (t : A) → TakesAll step s' (drop (i + 1) ks) m t → TakesAll step whole ks (g + m) t
told_on {A} step whole s s' ks i f g d true lt r p u v told m t h =
    let one : TakesAll step s (drop i ks) (m + 1) t = subst (λ (l : List CacheEntryKey). TakesAll step s l (m + 1) t) (sym (drop_item ks i d lt)) (inr (m, refl, subst (λ (x : A). TakesAll step x (drop (i + 1) ks) m t) (r refl) h)) in
    let e : f + (m + 1) ≡ g + m = omega (arith, u refl) in
    subst (λ n. TakesAll step whole ks n t) e (told (m + 1) t one)
told_on {A} step whole s s' ks i f g d false lt r p u v told m t h =
    let one : TakesAll step s (drop i ks) m t = subst (λ (l : List CacheEntryKey). TakesAll step s l m t) (sym (drop_item ks i d lt)) (inl (subst (λ (x : A). TakesAll step x (drop (i + 1) ks) m t) (p refl) h)) in
    let e : f + m ≡ g + m = omega (arith, v refl) in
    subst (λ n. TakesAll step whole ks n t) e (told m t one)

-- at the end nothing is left
pub told_all : {A : Type 0} (step : A → CacheEntryKey → A) (whole s : A) (ks : List CacheEntryKey) (i f : ℕ) → length ks ≤ i → ((m : ℕ) (t : A) → TakesAll step s (drop i ks) m t → TakesAll step whole ks (f + m) t) → TakesAll step whole ks f s
told_all {A} step whole s ks i f le told =
    let none = drop_of_length-le ks le in
    rw (← add-zero f) (told 0 s (subst (λ (l : List CacheEntryKey). TakesAll step s l 0 s) (sym none) (refl, refl)))
