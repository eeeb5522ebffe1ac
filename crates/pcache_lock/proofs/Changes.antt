-- Maps that were changed in place, or changed and changed back.
use Rattle.std.proofs.lemmas.Map.Lookups.{exact_unsigned}
use Rattle.std.proofs.lemmas.Map.Views.{tells_apart}
use Rattle.std.specs.FinMap.{same_map}
use Rattle.pcache_lock.proofs.Words.{◌≡◌, ℕ, Option, None, Some, ◌∙◌, sym, ap, cond, Bool, true, false, refl, nat_cmp, eq_by_cmp, nat_cmp_total, FinMap, get, insert, remove, get-insert, get-remove, Core, changed}

-- a known lock, written back
pub changed_there : (f : Core → Core) (m : FinMap nat_cmp Core) (k : ℕ) (c v : Core) (r : FinMap nat_cmp Core) → Some c ≡ get m k → v ≡ f c → r ≡ insert m k v → r ≡ changed f m k (get m k)
changed_there f m k c v r is e set = rw (← is, set, e) refl

cleared : {X : Type 0} (b : Bool) (v : X) (o : Option X) → (b ≡ true → o ≡ None) → cond b None (cond b (Some v) o) ≡ o
cleared true v o h = sym (h refl)
cleared false v o h = refl

-- an entry that was new, removed again
pub undone : {X : Type 0} (m : FinMap nat_cmp X) (k : ℕ) (v : X) → get m k ≡ None → remove (insert m k v) k ≡ m
undone m k v none = same_map nat_cmp_total exact_unsigned _ _ (λ q.
    get-remove nat_cmp_total (insert m k v) k q ∙ ap (cond (eq_by_cmp nat_cmp q k) None) (get-insert nat_cmp_total m k v q)
    ∙ cleared (eq_by_cmp nat_cmp q k) v (get m q) (λ e. ap (get m) (tells_apart exact_unsigned q k e) ∙ none))

put_same : {X : Type 0} (b : Bool) (v : X) (o : Option X) → (b ≡ true → o ≡ Some v) → cond b (Some v) o ≡ o
put_same true v o h = sym (h refl)
put_same false v o h = refl

-- an existing value, set again
pub insert_same : {X : Type 0} (m : FinMap nat_cmp X) (k : ℕ) (v : X) → Some v ≡ get m k → insert m k v ≡ m
insert_same m k v is = same_map nat_cmp_total exact_unsigned _ _ (λ q. get-insert nat_cmp_total m k v q ∙ put_same (eq_by_cmp nat_cmp q k) v (get m q) (λ e. ap (get m) (tells_apart exact_unsigned q k e) ∙ sym is))

-- a known lock, written back as it was
pub same_there : (m : FinMap nat_cmp Core) (k : ℕ) (c v : Core) (r : FinMap nat_cmp Core) → Some c ≡ get m k → v ≡ c → r ≡ insert m k v → r ≡ m
same_there m k c v r is e set = set ∙ ap (insert m k) e ∙ insert_same m k c is
