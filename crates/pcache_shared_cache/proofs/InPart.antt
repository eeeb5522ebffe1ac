-- What a call knows of a part that it has.
use Rattle.std.specs.Prelude.{◌↔◌, IsTrue}
use Rattle.std.proofs.lemmas.Bool.{both_ways}
use Rattle.pcache_shared_cache.proofs.Words.{◌≡◌, Bool, false, sym, subst, ap, ◌∙◌, Limits, Parts, IsKept, OfPart}

module _ {P : Parts → Type 0} where
  -- v is the part as the lock lends it, p as the call sees it
  pub held : (l : Limits) (v p : Parts) → v.limits ≡ l → IsKept v.weighing v.limits v.tracked v.store → p ≡ v → P p → OfPart l P
  held l v p limits kept is so = (p, ap (λ (x : Parts). x.limits) is ∙ limits, subst (λ (x : Parts). IsKept x.weighing x.limits x.tracked x.store) (sym is) kept, so)

-- what was asked is not so
pub not_so : {P A : Type 0} (b : Bool) → b ≡ false → (IsTrue b ↔ P) → P → A
not_so b is tells so = absurd (both_ways b is (tells.1 so))
