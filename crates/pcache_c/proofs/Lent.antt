-- A request that was found by its number, and what is left in its place.
use Rattle.pcache_c.proofs.Words.{◌≡◌, sym, ap, ◌∙◌, subst, Option, Some, OnSome, option_map, MutBor}

module _ {X : Type 0} (r : Option (MutBor X)) (o : MutBor X) (some : r ≡ Some o) where
  -- what it was
  pub was_found : (q : Option X) → option_map (λ (b : MutBor X). b.now) r ≡ q → q ≡ Some o.now
  was_found q at = sym at ∙ ap (option_map (λ (b : MutBor X). b.now)) some

  -- what is said of one that was found
  pub when_found : (P : Type 0) → OnSome r P → P
  when_found P h = subst (λ q. OnSome q P) some h
