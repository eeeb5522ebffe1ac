-- A tree's entries as a finite map from numbers.
use Rattle.std.specs.Option.{option_map, OnSome}
use Rattle.std.specs.FinMap.{from_sorted, get-from_sorted, entries-from_sorted}
use Rattle.std.specs.FinMap.Entries.{is_sorted}
use Rattle.std.specs.List.{AllByRecursion}
use Rattle.std.specs.List.Sorted.{IsStrictlySortedBy}
use Rattle.std.proofs.lemmas.Map.Keys.{sorted_head, sorted_tail}
use Rattle.pcache_table.proofs.Words.{◌≡◌, ℕ, List, [], ◌∷◌, Option, Some, None, cond, ap, sym, ◌∙◌, Bool, true, false, ◌&&◌, T, subst, IsSome, is_some, nat_cmp, is_lt, nat_cmp_total, is_at, lookup, keys_of, from_entries, get, insert, remove, get-from_entries, same_map, entries, below_all, Less, exact_unsigned, get-made, made-insert, made-remove}

module _ {X : Type 0} where
  -- what the map has at a number
  pub got : (es : List (ℕ × X)) (q : ℕ) → get (from_entries {R = nat_cmp} es) q ≡ lookup (is_at (nat_cmp q)) es
  got = get-made nat_cmp_total

  -- entries that differ at one number make maps that differ there
  pub inserted : (es fs : List (ℕ × X)) (k : ℕ) (v : X) → ((q : ℕ) → lookup (is_at (nat_cmp q)) fs ≡ cond (is_at (nat_cmp k) q) (Some v) (lookup (is_at (nat_cmp q)) es)) → from_entries {R = nat_cmp} fs ≡ insert (from_entries es) k v
  inserted = made-insert nat_cmp_total exact_unsigned

  pub removed : (es fs : List (ℕ × X)) (k : ℕ) → ((q : ℕ) → lookup (is_at (nat_cmp q)) fs ≡ cond (is_at (nat_cmp k) q) None (lookup (is_at (nat_cmp q)) es)) → from_entries {R = nat_cmp} fs ≡ remove (from_entries es) k
  removed = made-remove nat_cmp_total exact_unsigned

-- what follows from a value that is there, if the value is lent
pub on_some_lent : {X Y : Type 0} {P : Type 0} (o : Option Y) (f : Y → X) (p : Option X) → option_map f o ≡ p → (IsSome p → P) → OnSome o P
on_some_lent None f p e k = tt
on_some_lent (Some y) f p e k = k (ap is_some (sym e))

two : (a b : Bool) → T a → T b → T (a && b)
two true b p q = q
two false b p q = absurd p

-- entries in order are those of their map
below_head : {X : Type 0} (k : ℕ) (es : List (ℕ × X)) → AllByRecursion (λ y. nat_cmp k y ≡ Less) (keys_of es) → T (below_all nat_cmp k es)
below_head k [] h = tt
below_head k (e ∷ es) h = two _ _ (subst (λ o. T (is_lt o)) (sym h.0) tt) (below_head k es h.1)

in_order : {X : Type 0} (es : List (ℕ × X)) → IsStrictlySortedBy nat_cmp (keys_of es) → T (is_sorted nat_cmp es)
in_order [] h = tt
in_order (e ∷ es) h = two _ _ (below_head e.0 es (sorted_head nat_cmp e.0 (keys_of es) h)) (in_order es (sorted_tail nat_cmp e.0 (keys_of es) h))

pub entries_of : {X : Type 0} (es : List (ℕ × X)) → IsStrictlySortedBy nat_cmp (keys_of es) → entries (from_entries {R = nat_cmp} es) ≡ es
entries_of es h =
    let t = in_order es h in
    ap entries (same_map nat_cmp_total exact_unsigned (from_entries es) (from_sorted es) (λ q. get-from_entries nat_cmp_total es q ∙ sym (get-from_sorted nat_cmp es q t))) ∙ entries-from_sorted nat_cmp es t
