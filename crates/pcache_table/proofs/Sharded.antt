-- Shards as one map.
use Rattle.std.proofs.Common.{◌==◌}
use Rattle.std.specs.Option.{option_or}
use Rattle.std.specs.Cmp.{unsigned_tied}
use Rattle.std.proofs.lemmas.Map.Views.{tells_apart}
use Rattle.std.proofs.lemmas.Bool.Decides.{nat_tests}
use Rattle.std.specs.FinMap.{empty, get-empty, get-insert, get-remove, get-retain_keys}
use Rattle.pcache_table.specs.Sharding.{Belongs, Placed, AllPlaced, all_entries, one_map}
use Rattle.pcache_table.proofs.Words.{◌≡◌, ◌%◌, ◌<◌, length, get_or, ℕ, Bool, true, false, Option, None, Some, List, [], ◌∷◌, ◌++◌, cond, refl, sym, ◌∙◌, ap, subst, zero, suc, arith, slice_get, Result, Ok, Err, OnOk, OnErr, set, get_or_from_slice_get, slice_get-get_or, slice_get_within, get_or-set_same, length-set, nat_cmp, eq_by_cmp, Equal, nat_cmp_total, exact_unsigned, FinMap, find, get, insert, remove, entries, get-entries, get-from_entries, same_map, Part, part_of}

-- keys that are tested equal, and keys that are not
pub by_test : {P : Type 0} (q k : ℕ) (b : Bool) → eq_by_cmp nat_cmp q k ≡ b → (q ≡ k → P) → (eq_by_cmp nat_cmp q k ≡ false → P) → P
by_test q k true e same other = same (tells_apart exact_unsigned q k e)
by_test q k false e same other = other e

pub same_key : (k : ℕ) → eq_by_cmp nat_cmp k k ≡ true
same_key k = grind (arith, nat_tests, unsigned_tied k k)

pub off_not : (q k : ℕ) → eq_by_cmp nat_cmp q k ≡ false → q ≡ k → ⊥
off_not q k off e =
    let same : eq_by_cmp nat_cmp q k ≡ true = ap (eq_by_cmp nat_cmp q) (sym e) ∙ same_key q in
    cc

alike_keys : (shards place q x : ℕ) → nat_cmp q x ≡ Equal → ((x % shards) == place) ≡ ((q % shards) == place)
alike_keys shards place q x e = ap (λ k. (k % shards) == place) (sym (exact_unsigned q x e))

-- keys of different shards differ
other_key : (q k n : ℕ) (b : Bool) → eq_by_cmp nat_cmp q k ≡ b → eq_by_cmp nat_cmp (q % n) (k % n) ≡ false → eq_by_cmp nat_cmp q k ≡ false
other_key q k n false e off = e
other_key q k n true e off =
    let same : eq_by_cmp nat_cmp (q % n) (k % n) ≡ true = ap (λ x. eq_by_cmp nat_cmp (x % n) (k % n)) (tells_apart exact_unsigned q k e) ∙ same_key (k % n) in
    cc

module _ {X : Type 0} where
  pub get-insert-at : (m : FinMap nat_cmp X) (k : ℕ) (v : X) → get (insert m k v) k ≡ Some v
  get-insert-at m k v = get-insert nat_cmp_total m k v k ∙ ap (λ b. cond b (Some v) (get m k)) (same_key k)

  pub get-insert-off : (m : FinMap nat_cmp X) (k : ℕ) (v : X) (q : ℕ) → eq_by_cmp nat_cmp q k ≡ false → get (insert m k v) q ≡ get m q
  get-insert-off m k v q off = get-insert nat_cmp_total m k v q ∙ ap (λ b. cond b (Some v) (get m q)) off

  pub get-remove-at : (m : FinMap nat_cmp X) (k : ℕ) → get (remove m k) k ≡ None
  get-remove-at m k = get-remove nat_cmp_total m k k ∙ ap (λ b. cond b None (get m k)) (same_key k)

  pub get-remove-off : (m : FinMap nat_cmp X) (k q : ℕ) → eq_by_cmp nat_cmp q k ≡ false → get (remove m k) q ≡ get m q
  get-remove-off m k q off = get-remove nat_cmp_total m k q ∙ ap (λ b. cond b None (get m q)) off

  -- a map keeps to its keys
  pub belongs-empty : (shards place : ℕ) → Belongs shards place (empty {X = X} {R = nat_cmp})
  belongs-empty shards place k off = get-empty nat_cmp k

  pub belongs-insert : (shards place key : ℕ) (v : X) (m : FinMap nat_cmp X) → key % shards ≡ place → Belongs shards place m → Belongs shards place (insert m key v)
  belongs-insert shards place key v m is own k off = by_test k key (eq_by_cmp nat_cmp k key) refl
      (λ same. absurd (off (ap (λ x. x % shards) same ∙ is)))
      (λ other. get-insert-off m key v k other ∙ own k off)

  pub belongs-remove : (shards place key : ℕ) (m : FinMap nat_cmp X) → Belongs shards place m → Belongs shards place (remove m key)
  belongs-remove shards place key m own k off = by_test k key (eq_by_cmp nat_cmp k key) refl
      (λ same. ap (get (remove m key)) same ∙ get-remove-at m key)
      (λ other. get-remove-off m key k other ∙ own k off)

  pub belongs-either : {A B : Type 0} (shards place key : ℕ) (v : X) (m n : FinMap nat_cmp X) (r : Result A B) → key % shards ≡ place → OnOk r (n ≡ insert m key v) → OnErr r (n ≡ m) → Belongs shards place m → Belongs shards place n
  belongs-either shards place key v m n (Ok a) is ok err own = subst (Belongs shards place) (sym ok) (belongs-insert shards place key v m is own)
  belongs-either shards place key v m n (Err b) is ok err own = subst (Belongs shards place) (sym err) own

  pick_or : (b : Bool) (v : X) (o p r : Option X) → o ≡ option_or p r → cond b (Some v) o ≡ option_or (cond b (Some v) p) r
  pick_or true v o p r e = refl
  pick_or false v o p r e = e

  find-append_or : (es fs : List (ℕ × X)) (q : ℕ) → find nat_cmp q (es ++ fs) ≡ option_or (find nat_cmp q es) (find nat_cmp q fs)
  find-append_or [] fs q = refl
  find-append_or (e ∷ es) fs q = pick_or (eq_by_cmp nat_cmp q e.0) e.1 (find nat_cmp q (es ++ fs)) (find nat_cmp q es) (find nat_cmp q fs) (find-append_or es fs q)

  -- if no shard has a key, and if one does
  find_none : (ps : List (Part X)) (q : ℕ) → ((i : ℕ) (r : Part X) → slice_get ps i ≡ Some r → get r.map q ≡ None) → find nat_cmp q (all_entries ps) ≡ None
  find_none [] q h = refl
  find_none (p ∷ ps) q h =
      find-append_or (entries p.map) (all_entries ps) q
      ∙ ap (λ o. option_or o (find nat_cmp q (all_entries ps))) (sym (get-entries p.map q) ∙ h 0 p refl)
      ∙ find_none ps q (λ i r e. h (suc i) r e)

  or_none : (o : Option X) → option_or o None ≡ o
  or_none None = refl
  or_none (Some x) = refl

  find_there : (ps : List (Part X)) (j : ℕ) (p : Part X) (q : ℕ) → slice_get ps j ≡ Some p → ((i : ℕ) (r : Part X) → slice_get ps i ≡ Some r → (i ≡ j → ⊥) → get r.map q ≡ None) → find nat_cmp q (all_entries ps) ≡ get p.map q
  find_there [] j p q e h = cc
  find_there (r ∷ ps) zero p q e h =
      let same : r ≡ p = cc e in
      find-append_or (entries r.map) (all_entries ps) q
      ∙ ap (option_or (find nat_cmp q (entries r.map))) (find_none ps q (λ i s f. h (suc i) s f (λ z. absurd (omega (arith, z)))))
      ∙ or_none _ ∙ sym (get-entries r.map q) ∙ ap (λ x. get x.map q) same
  find_there (r ∷ ps) (suc j) p q e h =
      find-append_or (entries r.map) (all_entries ps) q
      ∙ ap (λ o. option_or o (find nat_cmp q (all_entries ps))) (sym (get-entries r.map q) ∙ h 0 r refl (λ z. absurd (omega (arith, z))))
      ∙ find_there ps j p q e (λ i s f n. h (suc i) s f (λ z. n (omega (arith, z))))

  -- the value at a key is that of its shard
  pub get-joined : (shards : ℕ) (ps : List (Part X)) (q : ℕ) (p : Part X) → AllPlaced shards ps → slice_get ps (q % shards) ≡ Some p → get (one_map ps) q ≡ get p.map q
  unfolding one_map
  get-joined shards ps q p placed e =
      get-from_entries nat_cmp_total (all_entries ps) q
      ∙ find_there ps (q % shards) p q e (λ i r f n. (placed i r f).own q (λ is. n (sym is)))

  set_off : (ps : List (Part X)) (i j : ℕ) (p : Part X) → (j ≡ i → ⊥) → slice_get (set ps i p) j ≡ slice_get ps j
  set_off [] i j p n = refl
  set_off (r ∷ ps) zero zero p n = absurd (n refl)
  set_off (r ∷ ps) zero (suc j) p n = refl
  set_off (r ∷ ps) (suc i) zero p n = refl
  set_off (r ∷ ps) (suc i) (suc j) p n = set_off ps i j p (λ e. n (ap suc e))

  set_at : (ps : List (Part X)) (i : ℕ) (p : Part X) → i < length ps → slice_get (set ps i p) i ≡ Some p
  set_at ps i p lt = slice_get-get_or (set ps i p) i p (omega (arith, length-set ps i p)) ∙ ap Some (get_or-set_same ps i p p lt)

  -- one shard changed at its place
  pub all-set : (shards place : ℕ) (ps : List (Part X)) (p : Part X) → place < length ps → AllPlaced shards ps → Placed shards place p → AllPlaced shards (set ps place p)
  all-set shards place ps p lt all one i r e = by_test i place (eq_by_cmp nat_cmp i place) refl
      (λ same.
      let at : Some p ≡ Some r = sym (ap (slice_get (set ps place p)) same ∙ set_at ps place p lt) ∙ e in
      let is : p ≡ r = cc at in
      subst (λ x. Placed shards x r) (sym same) (subst (Placed shards place) is one))
      (λ off. all i r (sym (set_off ps place i p (off_not i place off)) ∙ e))

  -- the value of a key after its shard was changed at that key alone
  changed-joined : (shards : ℕ) (ps : List (Part X)) (key q : ℕ) (p d : Part X) (o : Option X) → 0 < shards → length ps ≡ shards → AllPlaced shards ps → slice_get ps (key % shards) ≡ Some p → Placed shards (key % shards) d
      → get d.map q ≡ cond (eq_by_cmp nat_cmp q key) o (get p.map q) → get (one_map (set ps (key % shards) d)) q ≡ cond (eq_by_cmp nat_cmp q key) o (get (one_map ps) q)
  changed-joined shards ps key q p d o some len all at one h =
      let within : key % shards < length ps = slice_get_within ps (key % shards) p at in
      let next = all-set shards (key % shards) ps d within all one in
      by_test (q % shards) (key % shards) (eq_by_cmp nat_cmp (q % shards) (key % shards)) refl
      (λ same.
      get-joined shards (set ps (key % shards) d) q d next (ap (slice_get (set ps (key % shards) d)) same ∙ set_at ps (key % shards) d within)
      ∙ h ∙ ap (cond (eq_by_cmp nat_cmp q key) o) (sym (get-joined shards ps q p all (ap (slice_get ps) same ∙ at))))
      (λ off.
      let there : slice_get ps (q % shards) ≡ Some (get_or ps (q % shards) p) = slice_get-get_or ps (q % shards) p (omega arith) in
      let key_off : eq_by_cmp nat_cmp q key ≡ false = other_key q key shards (eq_by_cmp nat_cmp q key) refl off in
      get-joined shards (set ps (key % shards) d) q (get_or ps (q % shards) p) next (set_off ps (key % shards) (q % shards) d (off_not (q % shards) (key % shards) off) ∙ there)
      ∙ sym (get-joined shards ps q (get_or ps (q % shards) p) all there)
      ∙ sym (ap (λ b. cond b o (get (one_map ps) q)) key_off))

  pub insert-joined : (shards : ℕ) (ps : List (Part X)) (key : ℕ) (v : X) (p d : Part X) → 0 < shards → length ps ≡ shards → AllPlaced shards ps → slice_get ps (key % shards) ≡ Some p → d ≡ record p { map = insert p.map key v } → one_map (set ps (key % shards) d) ≡ insert (one_map ps) key v
  insert-joined shards ps key v p d some len all at is =
      let old = all (key % shards) p at in
      let one : Placed shards (key % shards) d = subst (Placed shards (key % shards)) (sym is) (record { at = old.at; own = belongs-insert shards (key % shards) key v p.map refl old.own }) in
      same_map nat_cmp_total exact_unsigned _ _ (λ q.
      changed-joined shards ps key q p d (Some v) some len all at one (ap (λ x. get x.map q) is ∙ get-insert nat_cmp_total p.map key v q)
      ∙ sym (get-insert nat_cmp_total (one_map ps) key v q))

  pub remove-joined : (shards : ℕ) (ps : List (Part X)) (key : ℕ) (p d : Part X) → 0 < shards → length ps ≡ shards → AllPlaced shards ps → slice_get ps (key % shards) ≡ Some p → d ≡ record p { map = remove p.map key } → one_map (set ps (key % shards) d) ≡ remove (one_map ps) key
  remove-joined shards ps key p d some len all at is =
      let old = all (key % shards) p at in
      let one : Placed shards (key % shards) d = subst (Placed shards (key % shards)) (sym is) (record { at = old.at; own = belongs-remove shards (key % shards) key p.map old.own }) in
      same_map nat_cmp_total exact_unsigned _ _ (λ q.
      changed-joined shards ps key q p d None some len all at one (ap (λ x. get x.map q) is ∙ get-remove nat_cmp_total p.map key q)
      ∙ sym (get-remove nat_cmp_total (one_map ps) key q))

  empty-joined : (ps : List (Part X)) → ((i : ℕ) (r : Part X) → slice_get ps i ≡ Some r → r.map ≡ empty) → one_map ps ≡ empty
  unfolding one_map
  empty-joined ps none = same_map nat_cmp_total exact_unsigned _ _ (λ q.
      get-from_entries nat_cmp_total (all_entries ps) q
      ∙ find_none ps q (λ i r e. ap (λ m. get m q) (none i r e) ∙ get-empty nat_cmp q)
      ∙ sym (get-empty nat_cmp q))

  -- the shard of a key
  pub at_place : (shards : ℕ) (ps : List (Part X)) (key : ℕ) (r : Part X) → 0 < shards → length ps ≡ shards → slice_get ps (key % shards) ≡ Some (get_or ps (key % shards) r)
  at_place shards ps key r some len = slice_get-get_or ps (key % shards) r (omega arith)

  -- it keeps its place, whether a key was put in or not, and if one was removed
  pub placed-either : {A B : Type 0} (shards place key : ℕ) (v : X) (p d : Part X) (r : Result A B) → key % shards ≡ place → OnOk r (d ≡ record p { map = insert p.map key v }) → OnErr r (d ≡ p) → Placed shards place p → Placed shards place d
  placed-either shards place key v p d (Ok a) is ok err old = subst (Placed shards place) (sym ok) (record { at = old.at; own = belongs-insert shards place key v p.map is old.own })
  placed-either shards place key v p d (Err b) is ok err old = subst (Placed shards place) (sym err) old

  pub placed-without : (shards place key : ℕ) (p d : Part X) → d ≡ record p { map = remove p.map key } → Placed shards place p → Placed shards place d
  placed-without shards place key p d is old = subst (Placed shards place) (sym is) (record { at = old.at; own = belongs-remove shards place key p.map old.own })

  -- shards that were just made
  made_is : (shards : ℕ) (ps : List (Part X)) → length ps ≡ shards → ((i : ℕ) (e : Part X) → i < shards → get_or ps i e ≡ record { place = i; map = empty }) → (i : ℕ) (r : Part X) → slice_get ps i ≡ Some r → r ≡ record { place = i; map = empty }
  made_is shards ps len made i r e = sym (get_or_from_slice_get ps i r r e) ∙ made i r (subst (λ n. i < n) len (slice_get_within ps i r e))

  pub made-placed : (shards : ℕ) (ps : List (Part X)) → length ps ≡ shards → ((i : ℕ) (e : Part X) → i < shards → get_or ps i e ≡ record { place = i; map = empty }) → AllPlaced shards ps
  made-placed shards ps len made i r e =
      let is = made_is shards ps len made i r e in
      record { at = ap (λ x. x.place) is; own = λ k off. ap (λ x. get x.map k) is ∙ get-empty nat_cmp k }

  pub made-empty : (shards : ℕ) (ps : List (Part X)) → length ps ≡ shards → ((i : ℕ) (e : Part X) → i < shards → get_or ps i e ≡ record { place = i; map = empty }) → one_map ps ≡ empty
  made-empty shards ps len made = empty-joined ps (λ i r e. ap (λ x. x.map) (made_is shards ps len made i r e))

  own_or_not : (b : Bool) (shards place q : ℕ) (p : Part X) (o : Option X) → ((q % shards) == place) ≡ b → Placed shards place p → (q % shards ≡ place → get p.map q ≡ o) → get p.map q ≡ cond b o None
  own_or_not true shards place q p o e one h = h (let same : q % shards ≡ place = grind (arith, nat_tests) in same)
  own_or_not false shards place q p o e one h = one.own q (λ same. let t : ((q % shards) == place) ≡ true = grind (arith, nat_tests) in cc)

  -- a shard has what its keys have
  pub part-joined : (shards : ℕ) (ps : List (Part X)) (place : ℕ) (p : Part X) → AllPlaced shards ps → slice_get ps place ≡ Some p → p.map ≡ part_of shards place (one_map ps)
  part-joined shards ps place p all at = same_map nat_cmp_total exact_unsigned _ _ (λ q.
      own_or_not ((q % shards) == place) shards place q p (get (one_map ps) q) refl (all place p at) (λ same. sym (get-joined shards ps q p all (ap (slice_get ps) same ∙ at)))
      ∙ sym (get-retain_keys (one_map ps) (λ key. (key % shards) == place) q (alike_keys shards place q)))
