-- What is known of a write by the calls of its store.
use Rattle.std.proofs.Common.{nat_le}
use Rattle.std.specs.Prelude.{IfSome}
use Rattle.std.proofs.lemmas.Bool.{false≢true, ne_eqb}
use Rattle.std.proofs.lemmas.List.{append_assoc}
use Rattle.pcache_store.specs.Store.{is_told, is_whole_part}
use Rattle.pcache_store.specs.Reading.{Act, Begins, Adds, Finishes, Drops, Follows, Leaves, Alters, after_act, after_acts, MayBe, MayAllBe, added_by, added_bytes, ends_well, has_ended_well, GivesWhatWasAdded, IsWholeExactly}
use Rattle.pcache_store.proofs.Words.{◌≡◌, ℕ, ◌==◌, ◌≤◌, ◌<◌, ◌+◌, ◌-◌, ◌&&◌, ◌||◌, ◌++◌, Bool, true, false, cond, Option, None, Some, List, [], ◌∷◌, refl, sym, ap, subst, ◌∙◌, arith, length, IsSome, ◌↔◌, nat_cmp, eq_by_cmp, nat_cmp_total, FinMap, get, insert, remove, get-insert, get-remove, and_parts, eqb-true, nat_tests, append-nil, Meta, numbered, Store, Written, kept, grounded, is_named, new_write, begun, wrote_on, finished_on, dropped_on, followed_on, left_on, closed_on}

abbrev Map : Type 0
Map = FinMap nat_cmp Written

cmp_same : (q w : ℕ) → eq_by_cmp nat_cmp q w ≡ (w == q)
cmp_same q w = grind (arith, nat_tests)

get-set : (ws : Map) (w : ℕ) (v : Written) (q : ℕ) → get (insert ws w v) q ≡ cond (w == q) (Some v) (get ws q)
get-set ws w v q = get-insert nat_cmp_total ws w v q ∙ ap (λ b. cond b (Some v) (get ws q)) (cmp_same q w)

get-unset : (ws : Map) (w q : ℕ) → get (remove ws w) q ≡ cond (w == q) None (get ws q)
get-unset ws w q = get-remove nat_cmp_total ws w q ∙ ap (λ b. cond b None (get ws q)) (cmp_same q w)

-- a record that is written back, if it is named
abbrev if_named : Written → Option Written
if_named v = cond (is_named v) (Some v) None

get-kept : (ws : Map) (w : ℕ) (v : Written) (q : ℕ) → get (kept ws w v) q ≡ cond (w == q) (if_named v) (get ws q)
get-kept ws w v q = elim (is_named v) as (λ b. get (cond b (insert ws w v) (remove ws w)) q ≡ cond (w == q) (cond b (Some v) None) (get ws q)) [ true ↦ get-set ws w v q | false ↦ get-unset ws w q ]

-- a record, if there is one, has these bytes, and its end is known or not
abbrev Knows : List ℕ → Bool → Option Written → Type 0
Knows b t None = Unit {0}
Knows b t (Some w) = (w.bytes ≡ b) × (w.told ≡ t)

knows-named : (b : List ℕ) (t : Bool) (v : Written) → v.bytes ≡ b → v.told ≡ t → Knows b t (if_named v)
knows-named b t v e f = elim (is_named v) as (λ x. Knows b t (cond x (Some v) None)) [ true ↦ (e, f) | false ↦ tt ]

-- one record changed: what is known of another stays, and of this one it is what the change makes of it
through : (ws : Map) (w n : ℕ) (b b' : List ℕ) (t t' : Bool) (f : Option Written → Map) (x : Written → Option Written)
    → f None ≡ ws → ((r : Written) (q : ℕ) → get (f (Some r)) q ≡ cond (w == q) (x r) (get ws q))
    → ((r : Written) → get ws w ≡ Some r → (w == n) ≡ true → r.bytes ≡ b → r.told ≡ t → Knows b' t' (x r))
    → ((w == n) ≡ false → (b ≡ b') × (t ≡ t'))
    → Knows b t (get ws n) → Knows b' t' (get (f (get ws w)) n)
through ws w n b b' t t' f x none some own other k = by_record (get ws w) refl
  where
    stays : (w == n) ≡ false → Knows b' t' (get ws n)
    stays e = subst (λ y. Knows b' y (get ws n)) (other e).1 (subst (λ y. Knows y t (get ws n)) (other e).0 k)

    by_record : (o : Option Written) → get ws w ≡ o → Knows b' t' (get (f o) n)
    by_record None e = subst (λ m. Knows b' t' (get m n)) (sym none) (elim (w == n) as (λ y. (w == n) ≡ y → Knows b' t' (get ws n)) [
      | true ↦ λ same. subst (Knows b' t') (sym (ap (get ws) (sym (eqb-true w n same)) ∙ e)) tt
      | false ↦ stays
    ] refl)
    by_record (Some r) e = subst (Knows b' t') (sym (some r n)) (elim (w == n) as (λ y. (w == n) ≡ y → Knows b' t' (cond y (x r) (get ws n))) [
      | true ↦ λ same.
          let known : Knows b t (Some r) = subst (Knows b t) (ap (get ws) (sym (eqb-true w n same)) ∙ e) k in
          own r e same known.0 known.1
      | false ↦ stays
    ] refl)

-- a change after which a record has the bytes and the end that it had
still : (ws : Map) (w n : ℕ) (b : List ℕ) (t : Bool) (f : Option Written → Map) (x : Written → Option Written)
    → f None ≡ ws → ((r : Written) (q : ℕ) → get (f (Some r)) q ≡ cond (w == q) (x r) (get ws q))
    → ((r : Written) → r.bytes ≡ b → r.told ≡ t → Knows b t (x r))
    → Knows b t (get ws n) → Knows b t (get (f (get ws w)) n)
still ws w n b t f x none some own k = through ws w n b b t t f x none some (λ r _ _. own r) (λ _. (refl, refl)) k

or-false : (t : Bool) → (t || false) ≡ t
or-false true = refl
or-false false = refl

or-true : (t : Bool) → (t || true) ≡ true
or-true true = refl
or-true false = refl

or-assoc : (a b c : Bool) → ((a || b) || c) ≡ (a || (b || c))
or-assoc true b c = refl
or-assoc false b c = refl

plain : (b : List ℕ) (t : Bool) (o : Option Written) → Knows b t o → Knows (b ++ []) (t || false) o
plain b t o k = subst (λ y. Knows (b ++ []) y o) (sym (or-false t)) (subst (λ y. Knows y t o) (sym (append-nil b)) k)

-- the number of the next write never becomes less
next-is : (a : Act) (s : Store) → s.next ≤ (after_act a s).next
next-is (Begins k m) s = omega arith
next-is (Adds w bytes eof) s = omega arith
next-is (Finishes w) s = elim (get s.writes w) as (λ o. s.next ≤ (finished_on s w o).next) [ None ↦ omega arith | Some r ↦ omega arith ]
next-is (Drops w) s = elim (get s.writes w) as (λ o. s.next ≤ (dropped_on s w o).next) [ None ↦ omega arith | Some r ↦ omega arith ]
next-is (Follows w) s = omega arith
next-is (Leaves w) s = omega arith
next-is (Alters slots) s = omega arith

-- what is known of a write after one call
knows-next : (n : ℕ) (a : Act) (s : Store) (b : List ℕ) (t : Bool) → n < s.next → MayBe a s → Knows b t (get s.writes n) → Knows (b ++ added_by n a) (t || ends_well n a) (get (after_act a s).writes n)
knows-next n (Begins key m) s b t lt may k =
    plain b t _ (subst (Knows b t) (sym (get-set s.writes s.next (new_write key (numbered s.next m)) n ∙ ap (λ x. cond x (Some (new_write key (numbered s.next m))) (get s.writes n)) (ne_eqb s.next n (omega (arith, lt))))) k)
knows-next n (Adds w bytes eof) s b t lt may k =
    let more : Written → Written = λ r. record r { bytes = r.bytes ++ bytes; told = eof } in
    through s.writes w n b (b ++ cond (w == n) bytes []) t (t || ((w == n) && eof)) (wrote_on s.writes w bytes eof) (λ r. Some (more r)) refl (λ r q. get-set s.writes w (more r) q)
    (λ r at same e f.
    let fresh : t ≡ false = sym f ∙ ap is_told (sym at) ∙ may in
    (ap (λ x. x ++ bytes) e ∙ ap (λ x. b ++ cond x bytes []) (sym same), sym (ap (λ x. x || ((w == n) && eof)) fresh ∙ ap (λ x. x && eof) same)))
    (λ off. (sym (ap (λ x. b ++ cond x bytes []) off ∙ append-nil b), sym (ap (λ x. t || (x && eof)) off ∙ or-false t)))
    k
knows-next n (Finishes w) s b t lt may k =
    let over : Written → Written = λ r. record r { flying = false; told = true } in
    subst (λ x. Knows (b ++ []) (t || (w == n)) (get x n)) (sym (same-writes (get s.writes w)))
    (subst (λ y. Knows y (t || (w == n)) (get (closed_on s.writes w (get s.writes w)) n)) (sym (append-nil b))
    (through s.writes w n b b t (t || (w == n)) (closed_on s.writes w) (λ r. if_named (over r)) refl (λ r q. get-kept s.writes w (over r) q)
    (λ r at same e f. knows-named b (t || (w == n)) (over r) e (sym (ap (λ x. t || x) same ∙ or-true t)))
    (λ off. (refl, sym (ap (λ x. t || x) off ∙ or-false t)))
    k))
  where
    same-writes : (o : Option Written) → (finished_on s w o).writes ≡ closed_on s.writes w o
    same-writes None = refl
    same-writes (Some r) = refl
knows-next n (Drops w) s b t lt may k =
    let over : Written → Written = λ r. record r { flying = false } in
    plain b t _ (elim (get s.writes w) as (λ o. Knows b t (get (landed o) n) → Knows b t (get (dropped_on s w o).writes n)) [ None ↦ λ h. h | Some r ↦ λ h. h ]
    (still s.writes w n b t landed (λ r. if_named (over r)) refl (λ r q. get-kept s.writes w (over r) q) (λ r e f. knows-named b t (over r) e f) k))
  where
    landed : Option Written → Map
    landed None = s.writes
    landed (Some r) = grounded s.writes w r
knows-next n (Follows w) s b t lt may k =
    let one : Written → Written = λ r. record r { readers = r.readers + 1 } in
    plain b t _ (still s.writes w n b t (followed_on s.writes w) (λ r. Some (one r)) refl (λ r q. get-set s.writes w (one r) q) (λ r e f. (e, f)) k)
knows-next n (Leaves w) s b t lt may k =
    let less : Written → Written = λ r. record r { readers = r.readers - 1 } in
    plain b t _ (still s.writes w n b t (left_on s.writes w) (λ r. if_named (less r)) refl (λ r q. get-kept s.writes w (less r) q) (λ r e f. knows-named b t (less r) e f) k)
knows-next n (Alters slots) s b t lt may k = plain b t _ k

-- and after many
knows-all : (n : ℕ) (acts : List Act) (s : Store) (b : List ℕ) (t : Bool) → n < s.next → MayAllBe acts s → Knows b t (get s.writes n) → Knows (b ++ added_bytes n acts) (t || has_ended_well n acts) (get (after_acts acts s).writes n)
knows-all n [] s b t lt may k = plain b t _ k
knows-all n (a ∷ acts) s b t lt may k =
    let more = next-is a s in
    let all = knows-all n acts (after_act a s) (b ++ added_by n a) (t || ends_well n a) (omega (arith, lt, more)) may.1 (knows-next n a s b t lt may.0 k) in
    subst (λ y. Knows (b ++ (added_by n a ++ added_bytes n acts)) y (get (after_acts acts (after_act a s)).writes n)) (or-assoc t (ends_well n a) (has_ended_well n acts))
    (subst (λ y. Knows y ((t || ends_well n a) || has_ended_well n acts) (get (after_acts acts (after_act a s)).writes n)) (append_assoc b (added_by n a) (added_bytes n acts)) all)

-- of a write that was just begun
begins : (s : Store) (k : ℕ) (m : Meta) (acts : List Act) → MayAllBe acts (begun s k m) → Knows (added_bytes s.next acts) (has_ended_well s.next acts) (get (after_acts acts (begun s k m)).writes s.next)
begins s k m acts may =
    let new : Written = new_write k (numbered s.next m) in
    let first : get (begun s k m).writes s.next ≡ Some new = get-set s.writes s.next new s.next ∙ ap (λ x. cond x (Some new) (get s.writes s.next)) (own s.next) in
    knows-all s.next acts (begun s k m) [] false (omega arith) may (subst (Knows [] false) (sym first) (refl, refl))
  where
    own : (n : ℕ) → (n == n) ≡ true
    own n = grind (arith, nat_tests)

pub gives_what_was_added : GivesWhatWasAdded
gives_what_was_added s k m acts may = elim (get (after_acts acts (begun s k m)).writes s.next) as (λ o. Knows (added_bytes s.next acts) (has_ended_well s.next acts) o → IfSome o (λ w. w.bytes ≡ added_bytes s.next acts)) [
  | None ↦ λ _. tt
  | Some w ↦ λ h. h.0
] (begins s k m acts may)

whole-one : (b : List ℕ) (t : Bool) (place : ℕ) (o : Option Written) → IsSome o → Knows b t o → (is_whole_part place o ≡ true) ↔ ((length b ≤ place) × (t ≡ true))
whole-one b t place None some h = absurd (false≢true some)
whole-one b t place (Some w) some h = (
  λ is. let both = and_parts w.told (nat_le (length w.bytes) place) is in
      (subst (λ y. length y ≤ place) h.0 (less (length w.bytes) both.1), sym h.1 ∙ both.0),
  λ p. ap (λ x. x && nat_le (length w.bytes) place) (h.1 ∙ p.1) ∙ more (length w.bytes) (subst (λ y. length y ≤ place) (sym h.0) p.0),
)
  where
    less : (n : ℕ) → nat_le n place ≡ true → n ≤ place
    less n e = grind (arith, nat_tests)

    more : (n : ℕ) → n ≤ place → nat_le n place ≡ true
    more n e = grind (arith, nat_tests)

pub is_whole_exactly : IsWholeExactly
is_whole_exactly s k m acts place may some = whole-one (added_bytes s.next acts) (has_ended_well s.next acts) place (get (after_acts acts (begun s k m)).writes s.next) some (begins s k m acts may)
