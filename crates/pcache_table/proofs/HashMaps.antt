-- A hash map's entries as a finite map from numbers.
use Rattle.std.specs.List.{IsDistinct}
use Rattle.std.specs.Cmp.{unsigned_ties}
use Rattle.std.specs.FinMap.{len}
use Rattle.pcache_base.proofs.Totals.{made-len}
use Rattle.pcache_table.proofs.Words.{◌≡◌, ℕ, List, [], ◌∷◌, Some, None, cond, refl, ap, sym, subst, ◌∙◌, nat_eq, length, nat_cmp, eq_by_cmp, nat_cmp_total, lookup, keys_of, is_at, from_entries, get, insert, remove, exact_unsigned, get-made, made-insert, made-remove}

-- equal numbers are those that the order does not distinguish
same_at : (k q : ℕ) → nat_eq k q ≡ is_at (nat_cmp k) q
same_at k q = unsigned_ties k q

same_test : nat_eq ≡ eq_by_cmp nat_cmp
same_test = λ i k q. same_at k q i

module _ {X : Type 0} where
  same_lookup : (es : List (ℕ × X)) (q : ℕ) → lookup (nat_eq q) es ≡ lookup (is_at (nat_cmp q)) es
  same_lookup [] q = refl
  same_lookup (e ∷ es) q = ap (λ b. cond b (Some e.1) (lookup (nat_eq q) es)) (same_at q e.0) ∙ ap (cond (is_at (nat_cmp q) e.0) (Some e.1)) (same_lookup es q)

  -- what the map has at a number
  pub found : (es : List (ℕ × X)) (q : ℕ) → get (from_entries {R = nat_cmp} es) q ≡ lookup (nat_eq q) es
  found es q = get-made nat_cmp_total es q ∙ sym (same_lookup es q)

  -- entries that differ at one number make maps that differ there
  pub put : (es fs : List (ℕ × X)) (k : ℕ) (v : X) → ((q : ℕ) → lookup (nat_eq q) fs ≡ cond (nat_eq k q) (Some v) (lookup (nat_eq q) es)) → from_entries {R = nat_cmp} fs ≡ insert (from_entries es) k v
  put es fs k v h = made-insert nat_cmp_total exact_unsigned es fs k v (λ q. sym (same_lookup fs q) ∙ h q ∙ ap (λ b. cond b (Some v) (lookup (nat_eq q) es)) (same_at k q) ∙ ap (cond (is_at (nat_cmp k) q) (Some v)) (same_lookup es q))

  pub taken : (es fs : List (ℕ × X)) (k : ℕ) → ((q : ℕ) → lookup (nat_eq q) fs ≡ cond (nat_eq k q) None (lookup (nat_eq q) es)) → from_entries {R = nat_cmp} fs ≡ remove (from_entries es) k
  taken es fs k h = made-remove nat_cmp_total exact_unsigned es fs k (λ q. sym (same_lookup fs q) ∙ h q ∙ ap (λ b. cond b None (lookup (nat_eq q) es)) (same_at k q) ∙ ap (cond (is_at (nat_cmp k) q) None) (same_lookup es q))

  -- as many as there are entries
  pub many : (es : List (ℕ × X)) → IsDistinct nat_eq (keys_of es) → len (from_entries {R = nat_cmp} es) ≡ length es
  many es d = made-len nat_cmp_total exact_unsigned es (subst (λ t. IsDistinct t (keys_of es)) same_test d)
