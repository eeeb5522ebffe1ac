-- Recency lists of shards.
use Rattle.std.proofs.Common.{inl, inr}
use Rattle.std.specs.Prelude.{Contains}
use Rattle.std.specs.Map.{remove_entry}
use Rattle.lru.specs.LruCache.{LruCache, lru_cache, put_entries}
use Rattle.lru.proofs.CallerLemmas.{Contains-put_entries, Contains-remove_entry}
use Rattle.pcache_table.specs.Sharding.{AllInPlace, LruPart, OwnKeys, part_with, part_without}
use Rattle.pcache_table.proofs.Words.{◌≡◌, ◌%◌, ◌∙◌, ◌+◌, ◌<◌, ◌++◌, ℕ, zero, suc, List, [], ◌∷◌, Some, refl, subst, sym, ap, arith, nat_eq, length, Result, Ok, Err, OnOk, OnErr, slice_get, nat_cmp, eq_by_cmp, set, get_or-set_same, length-set, get_or-map-range_with_len, length-map-range_with_len, map-range_with_len_more, get_or_from_slice_get, slice_get-get_or, slice_get_within, InPlace, new_lists}
use Rattle.pcache_table.proofs.Sharded.{by_test, off_not}

none_of : {X P : Type 0} (x : X) → Contains [] x → P
none_of x h = absurd (omega (arith, h.1))

module _ {V : Type 0} where
  pub own-remove : (shards place key : ℕ) (es : List (ℕ × V)) → OwnKeys shards place es → OwnKeys shards place (remove_entry (nat_eq key) es)
  own-remove shards place key es own e h = own e (Contains-remove_entry (nat_eq key) es e h)

  pub own-put : (shards place key : ℕ) (v : V) (es : List (ℕ × V)) (cap : ℕ) → key % shards ≡ place → OwnKeys shards place es → OwnKeys shards place (put_entries nat_eq (lru_cache es cap) key v)
  own-put shards place key v es cap is own e h = elim (Contains-put_entries nat_eq (lru_cache es cap) key v e h) [
    | inl old ↦ own e old
    | inr put ↦ elim put.1 [
      | inl same ↦ ap (λ k. k % shards) same ∙ is
      | inr there ↦ own (e.0, there.0) there.1
    ]
  ]

  pub own-put-either : {A B : Type 0} (shards place key : ℕ) (v : V) (c d : LruCache ℕ V) (r : Result A B) → key % shards ≡ place → OnOk r (d ≡ lru_cache (put_entries nat_eq c key v) c.cap) → OnErr r (d ≡ c) → OwnKeys shards place c.entries → OwnKeys shards place d.entries
  own-put-either shards place key v c d (Ok a) is ok err own = subst (λ x. OwnKeys shards place x.entries) (sym ok) (own-put shards place key v c.entries c.cap is own)
  own-put-either shards place key v c d (Err b) is ok err own = subst (λ x. OwnKeys shards place x.entries) (sym err) own

  -- a shard keeps its place, whether a key was put in or not, and if one was removed
  pub in-place-either : {A B : Type 0} (shards place key : ℕ) (v : V) (p d : LruPart V) (r : Result A B) → key % shards ≡ place → OnOk r (d ≡ part_with key v p) → OnErr r (d ≡ p) → InPlace shards place p → InPlace shards place d
  in-place-either shards place key v p d (Ok a) is ok err old = subst (InPlace shards place) (sym ok) (old.0, own-put shards place key v p.entries p.cap is old.1)
  in-place-either shards place key v p d (Err b) is ok err old = subst (InPlace shards place) (sym err) old

  pub in-place-without : (shards place key : ℕ) (p d : LruPart V) → d ≡ part_without key p → InPlace shards place p → InPlace shards place d
  in-place-without shards place key p d is old = subst (InPlace shards place) (sym is) (old.0, own-remove shards place key p.entries old.1)

  -- shards that were just made
  abbrev new_part : ℕ → ℕ → LruPart V
  new_part c place = record { place = place; cap = c; entries = [] }

  new_at : (shards c i : ℕ) (r : LruPart V) → slice_get (new_lists shards c) i ≡ Some r → r ≡ new_part c i
  new_at shards c i r e =
      let within : i < shards = subst (λ n. i < n) (length-map-range_with_len (new_part c) 0 shards) (slice_get_within (new_lists shards c) i r e) in
      sym (get_or_from_slice_get (new_lists shards c) i r r e) ∙ get_or-map-range_with_len (new_part c) 0 shards i i r within (omega arith)

  pub new-in-place : (shards c : ℕ) → AllInPlace {V = V} shards (new_lists shards c)
  new-in-place shards c i r e =
      let is = new_at shards c i r e in
      subst (InPlace shards i) (sym is) (refl, λ x h. none_of x h)

  pub new-more : (shards c : ℕ) → new_lists {V = V} (shards + 1) c ≡ new_lists shards c ++ new_part c shards ∷ []
  new-more shards c = map-range_with_len_more (new_part c) 0 shards shards (omega arith)

  pub made-in-place : (shards n c : ℕ) (ps : List (LruPart V)) → n ≡ shards → ps ≡ new_lists n c → (length ps ≡ shards) × AllInPlace shards ps
  made-in-place shards n c ps e is =
      let all : ps ≡ new_lists shards c = is ∙ ap (λ x. new_lists x c) e in (
        ap length all ∙ length-map-range_with_len (new_part c) 0 shards,
        subst (AllInPlace shards) (sym all) (new-in-place shards c),
      )

-- one element changed at its place
module _ {A : Type 0} where
  set_off : (ps : List A) (i j : ℕ) (p : A) → (j ≡ i → ⊥) → slice_get (set ps i p) j ≡ slice_get ps j
  set_off [] i j p n = refl
  set_off (r ∷ ps) zero zero p n = absurd (n refl)
  set_off (r ∷ ps) zero (suc j) p n = refl
  set_off (r ∷ ps) (suc i) zero p n = refl
  set_off (r ∷ ps) (suc i) (suc j) p n = set_off ps i j p (λ e. n (ap suc e))

  set_at : (ps : List A) (i : ℕ) (p : A) → i < length ps → slice_get (set ps i p) i ≡ Some p
  set_at ps i p lt = slice_get-get_or (set ps i p) i p (omega (arith, length-set ps i p)) ∙ ap Some (get_or-set_same ps i p p lt)

  pub each-set : (P : ℕ → A → Type 0) (place : ℕ) (ps : List A) (d : A) → place < length ps → ((i : ℕ) (r : A) → slice_get ps i ≡ Some r → P i r) → P place d → (i : ℕ) (r : A) → slice_get (set ps place d) i ≡ Some r → P i r
  each-set P place ps d lt all one i r e = by_test i place (eq_by_cmp nat_cmp i place) refl
      (λ same.
      let at : Some d ≡ Some r = sym (ap (slice_get (set ps place d)) same ∙ set_at ps place d lt) ∙ e in
      let is : d ≡ r = cc at in
      subst (λ x. P x r) (sym same) (subst (P place) is one))
      (λ off. all i r (sym (set_off ps place i d (off_not i place off)) ∙ e))
