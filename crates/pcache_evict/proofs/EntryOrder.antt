-- Keys of entries that compare alike are one, and `==` is a tie in their order.
use Rattle.std.specs.Ordering.{nat_cmp, bool_cmp, ordering_then}
use Rattle.std.specs.Option.{option_cmp}
use Rattle.std.specs.Cmp.Lexicographic.{slice_cmp}
use Rattle.std.proofs.lemmas.Map.Lookups.{CmpEqualImpliesEq, exact_pairs, exact_unsigned, exact_bytes}
use Rattle.pcache_evict.specs.declared.eviction.entry_key.CacheEntryKey.TheVariants.{KeyOnly, Identified}
use Rattle.pcache_evict.specs.Entry.{key_of, id_of}
use Rattle.pcache_evict.proofs.Words.{◌≡◌, ℕ, Option, None, Some, is_some, List, refl, ap, sym, ◌∙◌, Ordering, Less, Equal, Greater, eq_by_cmp, CacheEntryKey, entry_cmp, entry_eq, entry_ties}

exact_options : {X : Type 0} {R : X → X → Ordering} → CmpEqualImpliesEq R → CmpEqualImpliesEq (option_cmp R)
exact_options x None None h = refl
exact_options x None (Some b) h = cc
exact_options x (Some a) None h = cc
exact_options x (Some a) (Some b) h = ap Some (x a b h)

abbrev Parts : Type 0
Parts = (List ℕ × (Option (List ℕ) × List ℕ)) × Option ℕ

abbrev parts : CacheEntryKey → Parts
parts e = (((key_of e).primary, ((key_of e).variance, (key_of e).user_tag)), id_of e)

abbrev made : Parts → CacheEntryKey
made (k, None) = KeyOnly (record { primary = k.0; variance = k.1.0; user_tag = k.1.1 })
made (k, Some n) = Identified (record { primary = k.0; variance = k.1.0; user_tag = k.1.1 }) n

made_back : (e : CacheEntryKey) → made (parts e) ≡ e
made_back (KeyOnly k) = refl
made_back (Identified k n) = refl

same_parts : (p q : Parts) → ordering_then (ordering_then (slice_cmp nat_cmp p.0.0 q.0.0) (ordering_then (option_cmp (slice_cmp nat_cmp) p.0.1.0 q.0.1.0) (slice_cmp nat_cmp p.0.1.1 q.0.1.1))) (option_cmp nat_cmp p.1 q.1) ≡ Equal → p ≡ q
same_parts = exact_pairs _ _ (exact_pairs _ _ exact_bytes (exact_pairs _ _ (exact_options exact_bytes) exact_bytes)) (exact_options exact_unsigned)

later : (a b : Ordering) → ordering_then a b ≡ Equal → b ≡ Equal
later Less b h = cc
later Equal b h = h
later Greater b h = cc

pub exact_entries : CmpEqualImpliesEq entry_cmp
exact_entries a b h = sym (made_back a) ∙ ap made (same_parts (parts a) (parts b) (later (bool_cmp (is_some (id_of a)) (is_some (id_of b))) _ h)) ∙ made_back b

pub same_test : entry_eq ≡ eq_by_cmp entry_cmp
same_test i a b = entry_ties a b i
