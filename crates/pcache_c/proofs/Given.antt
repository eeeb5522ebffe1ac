-- What a caller in C gives is good.
use Rattle.std.proofs.Common.{Bool, true}
use Rattle.std.specs.Prelude.{IsErr}
use Rattle.pcache_c.specs.Codes.{OnText, bad_value, code_in, nonempty}
use Rattle.pcache_c.specs.Managers.{entry_keyed}
use Rattle.pcache_c.specs.declared.entries.PcacheEntry.{PcacheEntry}
use Rattle.pcache_c.proofs.Words.{◌≡◌, ◌⊎◌, inl, inr, sym, ap, ◌∙◌, subst, ℕ, suc, ◌==◌, List, [], ◌∷◌, length, false, Option, Some, None, Result, Ok, Err, ⊤, suc-ne-zero, false≢true, CacheEntryKey, OnGood}

-- a buffer that is not empty
pub room_good : (xs : List ℕ) (code : ℕ) (same : Type 0) (does : List ℕ → Type 0) → (length xs == 0) ≡ false → does xs → OnGood (nonempty xs) code same does
room_good [] code same does is done = absurd (false≢true (sym is))
room_good (x ∷ xs) code same does is done = done

-- no code but that of a good result is 0
not_ok : {A : Type 0} (r : Result A ℕ) (x : A) (n : ℕ) → r ≡ Ok x → code_in r ≡ suc n → ⊥
not_ok r x n is bad = suc-ne-zero n (sym (sym (ap code_in is) ∙ bad))

abbrev ok_of : {A : Type 0} → A → Result A ℕ → A
ok_of d (Ok a) = a
ok_of d (Err e) = d

-- what was read of bytes
pub read_good : {A : Type 0} (o : Option A) (r : Result A ℕ) (x : A) (code : ℕ) (same : Type 0) (does : A → Type 0) → OnGood o (code_in r) ⊤ (λ v. r ≡ Ok v) → r ≡ Ok x → does x → OnGood o code same does
read_good None r x code same does h is done = absurd (not_ok r x 3 is h.0)
read_good (Some v) r x code same does h is done = subst does (ap (ok_of x) (sym is ∙ h)) done

module _ (tag : List ℕ) (e : PcacheEntry) (r : Result CacheEntryKey ℕ) (item : CacheEntryKey) (code : ℕ) (same : Type 0) (does : CacheEntryKey → Type 0) (is : r ≡ Ok item) (done : does item) where
  text_good : (key : CacheEntryKey) → ((code_in r ≡ 1) × IsErr r) ⊎ (r ≡ Ok key) → ((code ≡ 1) × same) ⊎ does key
  text_good key (inl h) = absurd (not_ok r item 0 is h.0)
  text_good key (inr h) = inr (subst does (ap (ok_of item) (sym is ∙ h)) done)

  -- the key of an entry
  pub entry_good : (o : Option (List ℕ)) (q : Option (Option (List ℕ))) → OnGood o (code_in r) ⊤ (λ p. OnGood q (code_in r) ⊤ (λ v. OnText tag (code_in r) (IsErr r) (r ≡ Ok (entry_keyed p v tag e))))
      → OnGood o code same (λ p. OnGood q code same (λ v. OnText tag code same (does (entry_keyed p v tag e))))
  entry_good None q h = absurd (not_ok r item 3 is h.0)
  entry_good (Some p) None h = absurd (not_ok r item 3 is h.0)
  entry_good (Some p) (Some v) h = record { bad = λ no. absurd (not_ok r item 3 is (h.bad no).0); good = λ u. text_good (entry_keyed p v tag e) (h.good u) }
