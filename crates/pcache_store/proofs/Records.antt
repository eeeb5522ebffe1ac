-- Records of writes in shards as one map, after one table was changed at one number.
use Rattle.std.proofs.Common.{is_some, Bor}
use Rattle.std.specs.Prelude.{option_copied}
use Rattle.std.specs.Option.{option_or}
use Rattle.std.specs.FinMap.{find, get-from_entries, get-retain_keys}
use Rattle.std.proofs.lemmas.List.{get_or-set_same}
use Rattle.pcache_table.specs.Sharding.{all_entries, one_map}
use Rattle.pcache_table.proofs.Sharded.{same_key}
use Rattle.pcache_store.specs.Shards.{is_of_shard, of_shard, IsPlaceOf}
use Rattle.pcache_store.proofs.Words.{◌≡◌, ◌%◌, ◌==◌, ◌<◌, ◌≤◌, ◌^◌, ◌+◌, ◌-◌, ◌++◌, ℕ, zero, suc, inl, inr, Bool, true, false, Option, None, Some, List, [], ◌∷◌, cond, refl, sym, ap, subst, ◌∙◌, arith, length, slice_set, slice_index_or, nat_cmp, eq_by_cmp, nat_cmp_total, FinMap, empty, get, insert, remove, len, get-empty, get-entries, get-insert, get-remove, len-empty, same_map, cases_lt, nat_tests, length-set, set-get_or, exact_unsigned, by_test, off_not, get-insert-at, get-remove-at, Written, is_named, kept, wrote_on, followed_on, left_on, grounded_on, closed_on, ended_on, parts, table_at, AreRecords, one_if_some}
use Rattle.pcache_store.proofs.Maps.{insert_len, remove_len}

abbrev Map : Type 0
Map = FinMap nat_cmp Written

abbrev all : List Map → Map
all ms = one_map (parts 0 ms)

-- what the tables have at a number: the first of them that has it
abbrev seen : List Map → ℕ → Option Written
seen [] q = None
seen (m ∷ ms) q = option_or (get m q) (seen ms q)

pick_or : {X : Type 0} (b : Bool) (v : X) (o p r : Option X) → o ≡ option_or p r → cond b (Some v) o ≡ option_or (cond b (Some v) p) r
pick_or true v o p r e = refl
pick_or false v o p r e = e

find-append : {X : Type 0} (es fs : List (ℕ × X)) (q : ℕ) → find nat_cmp q (es ++ fs) ≡ option_or (find nat_cmp q es) (find nat_cmp q fs)
find-append [] fs q = refl
find-append (e ∷ es) fs q = pick_or (eq_by_cmp nat_cmp q e.0) e.1 (find nat_cmp q (es ++ fs)) (find nat_cmp q es) (find nat_cmp q fs) (find-append es fs q)

find-parts : (ms : List Map) (i q : ℕ) → find nat_cmp q (all_entries (parts i ms)) ≡ seen ms q
find-parts [] i q = refl
find-parts (m ∷ ms) i q =
    find-append _ (all_entries (parts (suc i) ms)) q
    ∙ ap (λ o. option_or o (find nat_cmp q (all_entries (parts (suc i) ms)))) (sym (get-entries m q))
    ∙ ap (option_or (get m q)) (find-parts ms (suc i) q)

get-all : (ms : List Map) (q : ℕ) → get (all ms) q ≡ seen ms q
unfolding one_map
get-all ms q = get-from_entries nat_cmp_total (all_entries (parts 0 ms)) q ∙ find-parts ms 0 q

or_none : {X : Type 0} (o : Option X) → option_or o None ≡ o
or_none None = refl
or_none (Some x) = refl

-- if no table has a number, and if one at most does
seen-none : (ms : List Map) (q : ℕ) → ((i : ℕ) → get (table_at ms i) q ≡ None) → seen ms q ≡ None
seen-none [] q h = refl
seen-none (m ∷ ms) q h = ap (λ o. option_or o (seen ms q)) (h 0) ∙ seen-none ms q (λ i. h (suc i))

seen-at : (ms : List Map) (i q : ℕ) → i < length ms → ((j : ℕ) → (j ≡ i → ⊥) → get (table_at ms j) q ≡ None) → seen ms q ≡ get (table_at ms i) q
seen-at [] i q lt h = absurd (omega (arith, lt))
seen-at (m ∷ ms) zero q lt h = ap (option_or (get m q)) (seen-none ms q (λ j. h (suc j) (λ e. absurd (omega (arith, e))))) ∙ or_none (get m q)
seen-at (m ∷ ms) (suc i) q lt h =
    ap (λ o. option_or o (seen ms q)) (h 0 (λ e. absurd (omega (arith, e))))
    ∙ seen-at ms i q (omega (arith, lt)) (λ j n. h (suc j) (λ e. n (omega (arith, e))))

-- a number at which the table that was set has what the one before had
seen-still : (ms : List Map) (i q : ℕ) (x : Map) → get x q ≡ get (table_at ms i) q → seen (slice_set ms i x) q ≡ seen ms q
seen-still [] i q x e = refl
seen-still (m ∷ ms) zero q x e = ap (λ o. option_or o (seen ms q)) e
seen-still (m ∷ ms) (suc i) q x e = ap (option_or (get m q)) (seen-still ms i q x e)

-- one table set at its place
at-set : (ms : List Map) (i : ℕ) (x : Map) → i < length ms → table_at (slice_set ms i x) i ≡ x
at-set ms i x lt = get_or-set_same ms i x empty lt

off-set : (ms : List Map) (i j : ℕ) (x : Map) → (j ≡ i → ⊥) → table_at (slice_set ms i x) j ≡ table_at ms j
off-set [] i j x n = refl
off-set (m ∷ ms) zero zero x n = absurd (n refl)
off-set (m ∷ ms) zero (suc j) x n = refl
off-set (m ∷ ms) (suc i) zero x n = refl
off-set (m ∷ ms) (suc i) (suc j) x n = off-set ms i j x (λ e. n (ap suc e))

-- a table is the same by whatever default it is read
pub by_default : (ms : List Map) (i : ℕ) (d : Map) → i < length ms → slice_index_or ms i d ≡ table_at ms i
by_default [] i d lt = absurd (omega (arith, lt))
by_default (m ∷ ms) zero d lt = refl
by_default (m ∷ ms) (suc i) d lt = by_default ms i d (omega (arith, lt))

past : (ms : List Map) (i : ℕ) → length ms ≤ i → table_at ms i ≡ empty
past [] i le = refl
past (m ∷ ms) zero le = absurd (omega (arith, le))
past (m ∷ ms) (suc i) le = past ms i (omega (arith, le))

-- what a shard has of a whole map
get-of_shard : (ws : Map) (shard q : ℕ) → get (of_shard shard ws) q ≡ cond (is_of_shard shard (get ws q)) (get ws q) None
get-of_shard ws shard q = get-retain_keys ws (λ n. is_of_shard shard (get ws n)) q (λ x e. ap (λ n. is_of_shard shard (get ws n)) (sym (exact_unsigned q x e)))

-- a value that may be in a shard
abbrev MayStand : ℕ → Option Written → Type 0
MayStand place None = Unit {0}
MayStand place (Some w) = w.slot % 16 ≡ place

may-stand : (place : ℕ) (o : Option Written) → MayStand place o → cond (is_of_shard place o) o None ≡ o
may-stand place None h = refl
may-stand place (Some w) h = ap (λ b. cond b (Some w) None) (let t : ((w.slot % 16) == place) ≡ true = grind (arith, nat_tests) in t)

not-elsewhere : (place i : ℕ) (o : Option Written) → MayStand place o → (i ≡ place → ⊥) → cond (is_of_shard i o) o None ≡ None
not-elsewhere place i None h n = refl
not-elsewhere place i (Some w) h n = by_place ((w.slot % 16) == i) refl
  where
    by_place : (b : Bool) → ((w.slot % 16) == i) ≡ b → cond b (Some w) None ≡ None
    by_place true e = let same : w.slot % 16 ≡ i = grind (arith, nat_tests) in absurd (n (sym same ∙ h))
    by_place false e = refl

stands : (place : ℕ) (o : Option Written) (w : Written) → cond (is_of_shard place o) o None ≡ Some w → o ≡ Some w
stands place None w e = e
stands place (Some v) w e = by_place ((v.slot % 16) == place) e
  where
    by_place : (b : Bool) → cond b (Some v) None ≡ Some w → Some v ≡ Some w
    by_place true e = e
    by_place false e = cc

-- one table changed at a number of its own: the whole map, what each table has, and the number of records
pub record Changed (ms : List Map) (place number : ℕ) (x after : Map) : Type 0 where
  pub whole : all (slice_set ms place x) ≡ after
  pub own : (i : ℕ) → i < 16 → table_at (slice_set ms place x) i ≡ of_shard i after
  pub count : len after + one_if_some (get (all ms) number) ≡ len (all ms) + one_if_some (get x number)

-- the count before is at least that of a number's value
held-fits : {ms : List Map} {count : ℕ} (number : ℕ) → AreRecords ms count → one_if_some (get (all ms) number) ≤ count
held-fits {ms} number s =
    let less = remove_len (all ms) number in
    let counted = s.counted in
    omega arith

-- what is kept once a table was changed
kept-changed : {ms : List Map} {count : ℕ} (place number next : ℕ) (x after : Map) → AreRecords ms count → Changed ms place number x after → next + one_if_some (get (all ms) number) ≡ count + one_if_some (get x number) → next < 2 ^ 63 → AreRecords (slice_set ms place x) next
kept-changed {ms} place number next x after s c sum few =
    let counted = s.counted in
    let changed = c.count in
    record {
      long = length-set ms place x ∙ s.long;
      own = subst (λ a. (i : ℕ) → i < 16 → table_at (slice_set ms place x) i ≡ of_shard i a) (sym c.whole) c.own;
      counted = (let e : next ≡ len after = omega arith in e) ∙ ap len (sym c.whole);
      few = few;
    }

module _ {ms : List Map} {count : ℕ} (s : AreRecords ms count) (place number : ℕ) (within : place < 16) where
  long : length ms ≡ 16
  long = s.long

  has : (i q : ℕ) → i < 16 → get (table_at ms i) q ≡ cond (is_of_shard i (get (all ms) q)) (get (all ms) q) None
  has i q lt = ap (λ m. get m q) (s.own i lt) ∙ get-of_shard (all ms) i q

  module _ (others : (i : ℕ) → (i ≡ place → ⊥) → get (table_at ms i) number ≡ None) (x after : Map) (o : Option Written) (may : MayStand place o)
      (now : (q : ℕ) → get x q ≡ cond (eq_by_cmp nat_cmp q number) o (get (table_at ms place) q)) (next : (q : ℕ) → get after q ≡ cond (eq_by_cmp nat_cmp q number) o (get (all ms) q)) where
    inside : place < length ms
    inside = omega (arith, long)

    at-number : {X : Type 0} (p r : X) → cond (eq_by_cmp nat_cmp number number) p r ≡ p
    at-number p r = ap (λ b. cond b p r) (same_key number)

    now-there : get x number ≡ o
    now-there = now number ∙ at-number o (get (table_at ms place) number)

    next-there : get after number ≡ o
    next-there = next number ∙ at-number o (get (all ms) number)

    now-off : (q : ℕ) → eq_by_cmp nat_cmp q number ≡ false → get x q ≡ get (table_at ms place) q
    now-off q off = now q ∙ ap (λ b. cond b o (get (table_at ms place) q)) off

    next-off : (q : ℕ) → eq_by_cmp nat_cmp q number ≡ false → get after q ≡ get (all ms) q
    next-off q off = next q ∙ ap (λ b. cond b o (get (all ms) q)) off

    set-others : (i : ℕ) → (i ≡ place → ⊥) → get (table_at (slice_set ms place x) i) number ≡ None
    set-others i n = ap (λ m. get m number) (off-set ms place i x n) ∙ others i n

    whole-at : (q : ℕ) → get (all (slice_set ms place x)) q ≡ get after q
    whole-at q = by_test q number (eq_by_cmp nat_cmp q number) refl
        (λ same. subst (λ n. get (all (slice_set ms place x)) n ≡ get after n) (sym same)
        (get-all (slice_set ms place x) number ∙ seen-at (slice_set ms place x) place number (subst (λ n. place < n) (sym (length-set ms place x)) inside) set-others
        ∙ ap (λ m. get m number) (at-set ms place x inside) ∙ now-there ∙ sym next-there))
        (λ off. get-all (slice_set ms place x) q ∙ seen-still ms place q x (now-off q off) ∙ sym (get-all ms q) ∙ sym (next-off q off))

    own-at-number : (i : ℕ) (b : Bool) → eq_by_cmp nat_cmp i place ≡ b → get (table_at (slice_set ms place x) i) number ≡ cond (is_of_shard i o) o None
    own-at-number i true e = by_test i place true e
        (λ same. ap (λ p. get (table_at (slice_set ms place x) p) number) same ∙ ap (λ m. get m number) (at-set ms place x inside) ∙ now-there ∙ sym (may-stand place o may) ∙ ap (λ p. cond (is_of_shard p o) o None) (sym same))
        (λ off. cc)
    own-at-number i false e = set-others i (off_not i place e) ∙ sym (not-elsewhere place i o may (off_not i place e))

    own-off-number : (i q : ℕ) (b : Bool) → eq_by_cmp nat_cmp i place ≡ b → eq_by_cmp nat_cmp q number ≡ false → get (table_at (slice_set ms place x) i) q ≡ get (table_at ms i) q
    own-off-number i q true e off = by_test i place true e
        (λ same. ap (λ p. get (table_at (slice_set ms place x) p) q) same ∙ ap (λ m. get m q) (at-set ms place x inside) ∙ now-off q off ∙ ap (λ p. get (table_at ms p) q) (sym same))
        (λ other. cc)
    own-off-number i q false e off = ap (λ m. get m q) (off-set ms place i x (off_not i place e))

    own-at : (i q : ℕ) → i < 16 → get (table_at (slice_set ms place x) i) q ≡ cond (is_of_shard i (get after q)) (get after q) None
    own-at i q lt = by_test q number (eq_by_cmp nat_cmp q number) refl
        (λ same. subst (λ n. get (table_at (slice_set ms place x) i) n ≡ cond (is_of_shard i (get after n)) (get after n) None) (sym same)
        (own-at-number i (eq_by_cmp nat_cmp i place) refl ∙ ap (λ p. cond (is_of_shard i p) p None) (sym next-there)))
        (λ off. own-off-number i q (eq_by_cmp nat_cmp i place) refl off ∙ has i q lt ∙ ap (λ p. cond (is_of_shard i p) p None) (sym (next-off q off)))

    pub changed : len after + one_if_some (get (all ms) number) ≡ len (all ms) + one_if_some o → Changed ms place number x after
    changed sum = record {
      whole = same_map nat_cmp_total exact_unsigned _ _ whole-at;
      own = λ i lt. same_map nat_cmp_total exact_unsigned _ _ (λ q. own-at i q lt ∙ sym (get-of_shard after i q));
      count = subst (λ p. len after + one_if_some (get (all ms) number) ≡ len (all ms) + one_if_some p) (sym now-there) sum;
    }

  -- the table of a number, by its place
  module _ (is : IsPlaceOf ms number place) where
    at-place : get (table_at ms place) number ≡ get (all ms) number
    at-place = elim (get (all ms) number) as (λ o. get (all ms) number ≡ o → get (table_at ms place) number ≡ o) [
      | None ↦ λ e. has place number within ∙ ap (λ o. cond (is_of_shard place o) o None) e
      | Some w ↦ λ e. there w e (get (table_at ms place) number) refl
    ] refl
      where
        there : (w : Written) → get (all ms) number ≡ Some w → (p : Option Written) → get (table_at ms place) number ≡ p → get (table_at ms place) number ≡ Some w
        there w e (Some v) f = f ∙ sym (stands place (get (all ms) number) v (sym (has place number within) ∙ f)) ∙ e
        there w e None f =
            let lt : w.slot % 16 < 16 = omega arith in
            let its : get (table_at ms (w.slot % 16)) number ≡ Some w = has (w.slot % 16) number lt ∙ ap (λ o. cond (is_of_shard (w.slot % 16) o) o None) e ∙ may-stand (w.slot % 16) (Some w) refl in
            let none : None ≡ Some w = sym (is f (w.slot % 16) lt) ∙ its in
            cc

    may-there : MayStand place (get (all ms) number)
    may-there = elim (get (all ms) number) as (λ o. get (all ms) number ≡ o → MayStand place o) [ None ↦ λ e. tt | Some w ↦ λ e. own-one w ((w.slot % 16) == place) refl e ] refl
      where
        own-one : (w : Written) (b : Bool) → ((w.slot % 16) == place) ≡ b → get (all ms) number ≡ Some w → w.slot % 16 ≡ place
        own-one w true t e = grind (arith, nat_tests)
        own-one w false t e = let lost : None ≡ Some w = sym (has place number within ∙ ap (λ o. cond (is_of_shard place o) o None) e ∙ ap (λ b. cond b (Some w) None) t) ∙ at-place ∙ e in cc

    others-none : (i : ℕ) → (i ≡ place → ⊥) → get (table_at ms i) number ≡ None
    others-none i n = elim (cases_lt i 16) [
      | inl lt ↦ has i number lt ∙ not-elsewhere place i (get (all ms) number) may-there n
      | inr ge ↦ ap (λ m. get m number) (past ms i (omega (arith, ge, long))) ∙ get-empty nat_cmp number
    ]

    insert-at : (v : Written) → v.slot % 16 ≡ place → Changed ms place number (insert (table_at ms place) number v) (insert (all ms) number v)
    insert-at v may = changed others-none (insert (table_at ms place) number v) (insert (all ms) number v) (Some v) may
        (λ q. get-insert nat_cmp_total (table_at ms place) number v q) (λ q. get-insert nat_cmp_total (all ms) number v q) (insert_len (all ms) number v)

    remove-at : Changed ms place number (remove (table_at ms place) number) (remove (all ms) number)
    remove-at = changed others-none (remove (table_at ms place) number) (remove (all ms) number) None tt
        (λ q. get-remove nat_cmp_total (table_at ms place) number q) (λ q. get-remove nat_cmp_total (all ms) number q) (let less = remove_len (all ms) number in omega arith)

    kept-at : (v : Written) → v.slot % 16 ≡ place → Changed ms place number (kept (table_at ms place) number v) (kept (all ms) number v)
    kept-at v may = elim (is_named v) as (λ b. Changed ms place number (cond b (insert (table_at ms place) number v) (remove (table_at ms place) number)) (cond b (insert (all ms) number v) (remove (all ms) number))) [ true ↦ insert-at v may | false ↦ remove-at ]

    same-at : Changed ms place number (table_at ms place) (all ms)
    same-at =
        let same = set-get_or ms place empty in
        let there : one_if_some (get (table_at ms place) number) ≡ one_if_some (get (all ms) number) = ap one_if_some at-place in
        record { whole = ap all same; own = subst (λ x. (i : ℕ) → i < 16 → table_at x i ≡ of_shard i (all ms)) (sym same) s.own; count = omega arith }

    -- a change of the record of a number, if there is one
    by_record : (f : Map → Option Written → Map) → f (table_at ms place) None ≡ table_at ms place → f (all ms) None ≡ all ms
        → ((w : Written) → w.slot % 16 ≡ place → Changed ms place number (f (table_at ms place) (Some w)) (f (all ms) (Some w)))
        → Changed ms place number (f (table_at ms place) (get (table_at ms place) number)) (f (all ms) (get (all ms) number))
    by_record f none-here none-all some =
        subst (λ o. Changed ms place number (f (table_at ms place) o) (f (all ms) (get (all ms) number))) (sym at-place)
        (elim (get (all ms) number) as (λ o. MayStand place o → Changed ms place number (f (table_at ms place) o) (f (all ms) o)) [
          | None ↦ λ may. subst (λ a. Changed ms place number (f (table_at ms place) None) a) (sym none-all) (subst (λ x. Changed ms place number x (all ms)) (sym none-here) same-at)
          | Some w ↦ λ may. some w may
        ] may-there)

    -- ---- each call, over the table as an index reads it
    module _ (d : Map) where
      read : slice_index_or ms place d ≡ table_at ms place
      read = by_default ms place d (omega (arith, long))

      over : (f : Map → Map) (after : Map) → Changed ms place number (f (table_at ms place)) after → Changed ms place number (f (slice_index_or ms place d)) after
      over f after c = subst (λ m. Changed ms place number (f m) after) (sym read) c

      pub here : get (slice_index_or ms place d) number ≡ get (all ms) number
      here = ap (λ m. get m number) read ∙ at-place

      pub changed-removed : Changed ms place number (remove (slice_index_or ms place d) number) (remove (all ms) number)
      changed-removed = over (λ m. remove m number) (remove (all ms) number) remove-at

      pub changed-wrote : (bytes : List ℕ) (eof : Bool) → Changed ms place number (wrote_on (slice_index_or ms place d) number bytes eof (get (slice_index_or ms place d) number)) (wrote_on (all ms) number bytes eof (get (all ms) number))
      changed-wrote bytes eof = over (λ m. wrote_on m number bytes eof (get m number)) _ (by_record (λ m o. wrote_on m number bytes eof o) refl refl (λ w may. insert-at (record w { bytes = w.bytes ++ bytes; told = eof }) may))

      pub changed-joined : Changed ms place number (followed_on (slice_index_or ms place d) number (get (slice_index_or ms place d) number)) (followed_on (all ms) number (get (all ms) number))
      changed-joined = over (λ m. followed_on m number (get m number)) _ (by_record (λ m o. followed_on m number o) refl refl (λ w may. insert-at (record w { readers = w.readers + 1 }) may))

      pub changed-left : Changed ms place number (left_on (slice_index_or ms place d) number (get (slice_index_or ms place d) number)) (left_on (all ms) number (get (all ms) number))
      changed-left = over (λ m. left_on m number (get m number)) _ (by_record (λ m o. left_on m number o) refl refl (λ w may. kept-at (record w { readers = w.readers - 1 }) may))

      pub changed-landed : Changed ms place number (grounded_on (slice_index_or ms place d) number (get (slice_index_or ms place d) number)) (grounded_on (all ms) number (get (all ms) number))
      changed-landed = over (λ m. grounded_on m number (get m number)) _ (by_record (λ m o. grounded_on m number o) refl refl (λ w may. kept-at (record w { flying = false }) may))

      changed-closed : Changed ms place number (closed_on (slice_index_or ms place d) number (get (slice_index_or ms place d) number)) (closed_on (all ms) number (get (all ms) number))
      changed-closed = over (λ m. closed_on m number (get m number)) _ (by_record (λ m o. closed_on m number o) refl refl (λ w may. kept-at (record w { flying = false; told = true }) may))

      pub changed-ended : (stored : Bool) → Changed ms place number (ended_on stored (slice_index_or ms place d) number (get (slice_index_or ms place d) number)) (ended_on stored (all ms) number (get (all ms) number))
      changed-ended true = changed-closed
      changed-ended false = changed-landed

      pub fits : one_if_some (get (slice_index_or ms place d) number) ≤ count
      fits = subst (λ n. n ≤ count) (sym (ap one_if_some here)) (held-fits number s)

      -- the number of records, if a call takes some out, and if none goes
      pub kept-gone : (gone : ℕ) {x after : Map} (y : Map) → Changed ms place number x after → y ≡ x → one_if_some (get y number) + gone ≡ one_if_some (get (slice_index_or ms place d) number) → AreRecords (slice_set ms place y) (count - gone)
      kept-gone gone {x} {after} y c e sum =
          let same : one_if_some (get (slice_index_or ms place d) number) ≡ one_if_some (get (all ms) number) = ap one_if_some here in
          let enough = fits in
          let few = s.few in
          kept-changed place number _ y after s (subst (λ m. Changed ms place number m after) (sym e) c) (omega arith) (omega arith)

      pub kept-still : (x after : Map) → Changed ms place number x after → one_if_some (get x number) ≡ one_if_some (get (slice_index_or ms place d) number) → AreRecords (slice_set ms place x) count
      kept-still x after c still =
          let same : one_if_some (get (slice_index_or ms place d) number) ≡ one_if_some (get (all ms) number) = ap one_if_some here in
          kept-changed place number count x after s c (omega arith) s.few

  -- a number that no table has
  none-has : get (all ms) number ≡ None → (i : ℕ) → get (table_at ms i) number ≡ None
  none-has none i = elim (cases_lt i 16) [
    | inl lt ↦ has i number lt ∙ ap (λ o. cond (is_of_shard i o) o None) none
    | inr ge ↦ ap (λ m. get m number) (past ms i (omega (arith, ge, long))) ∙ get-empty nat_cmp number
  ]

  pub changed-new : get (all ms) number ≡ None → (d : Map) (v : Written) → v.slot % 16 ≡ place → Changed ms place number (insert (slice_index_or ms place d) number v) (insert (all ms) number v)
  changed-new none d v may = let is : IsPlaceOf ms number place = λ e i lt. none-has none i in over is d (λ m. insert m number v) (insert (all ms) number v) (insert-at is v may)

  pub kept-new : get (all ms) number ≡ None → (d : Map) (v : Written) → v.slot % 16 ≡ place → count + 1 < 2 ^ 63 → AreRecords (slice_set ms place (insert (slice_index_or ms place d) number v)) (count + 1)
  kept-new none d v may few =
      let was : one_if_some (get (all ms) number) ≡ 0 = ap one_if_some none in
      let now : one_if_some (get (insert (slice_index_or ms place d) number v) number) ≡ 1 = ap one_if_some (get-insert-at (slice_index_or ms place d) number v) in
      kept-changed place number (count + 1) _ _ s (changed-new none d v may) (omega arith) few

-- which calls leave a number where it is
pub held-wrote : (m : Map) (n : ℕ) (bytes : List ℕ) (eof : Bool) → one_if_some (get (wrote_on m n bytes eof (get m n)) n) ≡ one_if_some (get m n)
held-wrote m n bytes eof = elim (get m n) as (λ o. get m n ≡ o → one_if_some (get (wrote_on m n bytes eof o) n) ≡ one_if_some o) [ None ↦ λ e. ap one_if_some e | Some w ↦ λ e. ap one_if_some (get-insert-at m n _) ] refl

pub held-joined : (m : Map) (n : ℕ) → one_if_some (get (followed_on m n (get m n)) n) ≡ one_if_some (get m n)
held-joined m n = elim (get m n) as (λ o. get m n ≡ o → one_if_some (get (followed_on m n o) n) ≡ one_if_some o) [ None ↦ λ e. ap one_if_some e | Some w ↦ λ e. ap one_if_some (get-insert-at m n _) ] refl

pub held-gone : (m : Map) (n : ℕ) → one_if_some (get (remove m n) n) ≡ 0
held-gone m n = ap one_if_some (get-remove-at m n)

-- tables that were just made
made : (ms : List Map) → length ms ≡ 16 → ((i : ℕ) (e : Map) → i < 16 → slice_index_or ms i e ≡ empty) → (i : ℕ) → table_at ms i ≡ empty
made ms long each i = elim (cases_lt i 16) [ inl lt ↦ each i empty lt | inr ge ↦ past ms i (omega (arith, ge, long)) ]

pub new-empty : (ms : List Map) → length ms ≡ 16 → ((i : ℕ) (e : Map) → i < 16 → slice_index_or ms i e ≡ empty) → all ms ≡ empty
new-empty ms long each = same_map nat_cmp_total exact_unsigned _ _ (λ q. get-all ms q ∙ seen-none ms q (λ i. ap (λ m. get m q) (made ms long each i) ∙ get-empty nat_cmp q) ∙ sym (get-empty nat_cmp q))

pub new-records : (ms : List Map) → length ms ≡ 16 → ((i : ℕ) (e : Map) → i < 16 → slice_index_or ms i e ≡ empty) → AreRecords ms 0
new-records ms long each =
    let none = new-empty ms long each in
    record {
      long = long;
      own = λ i lt. made ms long each i ∙ same_map nat_cmp_total exact_unsigned _ _ (λ q.
          get-empty nat_cmp q ∙ sym (get-of_shard (all ms) i q ∙ ap (λ o. cond (is_of_shard i o) o None) (ap (λ m. get m q) none ∙ get-empty nat_cmp q)));
      counted = sym (ap len none ∙ len-empty nat_cmp Written);
      few = omega arith;
    }

-- what a look into a table says of a number
pub absent : (o : Option (Bor Written)) (p : Option Written) → option_copied o ≡ p → is_some o ≡ false → p ≡ None
absent None p e f = sym e
absent (Some x) p e f = cc
