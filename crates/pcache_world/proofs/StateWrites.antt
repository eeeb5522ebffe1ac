-- The records of writes: after one reader more or less, and after more bytes.
use Rattle.std.proofs.Common.{lt-ltb}
use Rattle.std.specs.Option.{option_map}
use Rattle.std.specs.FinMap.{get-insert}
use Rattle.pcache_store.specs.Store.{Written, Reader, is_named, kept, followed_on, joined, followed_by, left_on}
use Rattle.pcache_history.specs.Events.{is_told}
use Rattle.pcache_history.proofs.Steps.{flies}
use Rattle.pcache_world.proofs.Words.{◌≡◌, ℕ, ◌+◌, ◌-◌, ◌<◌, ◌==◌, Bool, true, false, cond, ◌||◌, if◌then◌else◌, Option, None, Some, is_some, List, refl, ap, sym, subst, ◌∙◌, arith, nat_lt, nat_cmp, nat_cmp_total, FinMap, get, insert, remove, get-remove, eqb-true, both_ways, or_right, Meta, Store, Whole, Part, followed, left, left_by, Event, begin_of, in_flight, body_of, follows, record_of, IsState, pair_reader, cmp_same, same-number}
use Rattle.pcache_world.proofs.States.{state-same}

-- ---- one write set or removed

pub get-set : {X : Type 0} (m : FinMap nat_cmp X) (w : ℕ) (v : X) (q : ℕ) → get (insert m w v) q ≡ cond (w == q) (Some v) (get m q)
get-set m w v q = get-insert nat_cmp_total m w v q ∙ ap (λ b. cond b (Some v) (get m q)) (cmp_same q w)

pub get-unset : {X : Type 0} (m : FinMap nat_cmp X) (w : ℕ) (q : ℕ) → get (remove m w) q ≡ cond (w == q) None (get m q)
get-unset m w q = get-remove nat_cmp_total m w q ∙ ap (λ b. cond b None (get m q)) (cmp_same q w)

pub get-kept : (ws : FinMap nat_cmp Written) (w : ℕ) (v : Written) (q : ℕ) → get (kept ws w v) q ≡ cond (w == q) (cond (is_named v) (Some v) None) (get ws q)
get-kept ws w v q = elim (is_named v) as (λ b. get (cond b (insert ws w v) (remove ws w)) q ≡ cond (w == q) (cond b (Some v) None) (get ws q)) [ true ↦ get-set ws w v q | false ↦ get-unset ws w q ]

-- one write changed: it is what the new events and numbers of readers say, and they say nothing new of others
pub changed-at : (ws vs : FinMap nat_cmp Written) (es fs : List Event) (n m : ℕ → ℕ) (w : ℕ) (o : Option Written)
    → ((q : ℕ) → get vs q ≡ cond (w == q) o (get ws q)) → ((q : ℕ) → get ws q ≡ record_of q (n q) es)
    → o ≡ record_of w (m w) fs → ((q : ℕ) → (w == q) ≡ false → record_of q (m q) fs ≡ record_of q (n q) es) → (q : ℕ) → get vs q ≡ record_of q (m q) fs
changed-at ws vs es fs n m w o set are is other q =
    set q ∙ ap (cond (w == q) o) (are q)
    ∙ elim (w == q) as (λ b. (w == q) ≡ b → cond b o (record_of q (n q) es) ≡ record_of q (m q) fs) [
      | true ↦ λ t. is ∙ ap (λ x. record_of x (m x) fs) (eqb-true w q t)
      | false ↦ λ f. sym (other q f)
    ] refl

-- ---- a record by its parts

abbrev pub kept_as : Bool → ℕ → List ℕ → Bool → ℕ × Meta → Written
kept_as fly n body told b = record { slot = b.0; meta = b.1; bytes = body; told = told; flying = fly; readers = n }

abbrev pub recorded : Bool → ℕ → List ℕ → Bool → Option (ℕ × Meta) → Option Written
recorded fly n body told o = if fly || nat_lt 0 n then option_map (kept_as fly n body told) o else None

abbrev more : Written → Written
more r = record r { readers = r.readers + 1 }

abbrev fewer : Written → Written
fewer r = record r { readers = r.readers - 1 }

abbrev named : Option Written → Option Written
named None = None
named (Some r) = cond (is_named r) (Some r) None

some-map : {A B : Type 0} (f : A → B) (o : Option A) → is_some (option_map f o) ≡ is_some o
some-map f None = refl
some-map f (Some x) = refl

-- a write with a record was begun, and a begun write that is read has one
recorded-begun : (fly : Bool) (n : ℕ) (body : List ℕ) (told : Bool) (o : Option (ℕ × Meta)) → is_some (recorded fly n body told o) ≡ true → is_some o ≡ true
recorded-begun fly n body told None h = elim (fly || nat_lt 0 n) as (λ (b : Bool). is_some (if b then option_map (kept_as fly n body told) None else None) ≡ true → false ≡ true) [ true ↦ λ e. e | false ↦ λ e. e ] h
recorded-begun fly n body told (Some b) h = refl

pub recorded-read : (fly : Bool) (n : ℕ) (body : List ℕ) (told : Bool) (o : Option (ℕ × Meta)) → 0 < n → recorded fly n body told o ≡ option_map (kept_as fly n body told) o
recorded-read fly n body told o lt = ap (λ b. if b then option_map (kept_as fly n body told) o else None) (or_right fly (nat_lt 0 n) (lt-ltb 0 n lt))

grown : (fly : Bool) (n : ℕ) (body : List ℕ) (told : Bool) (o : Option (ℕ × Meta)) → is_some (recorded fly n body told o) ≡ true → recorded fly (n + 1) body told o ≡ option_map more (recorded fly n body told o)
grown true n body told None h = refl
grown true n body told (Some b) h = refl
grown false n body told o h =
    elim (nat_lt 0 n) as (λ b. is_some (if b then option_map (kept_as false n body told) o else None) ≡ true → recorded false (n + 1) body told o ≡ option_map more (if b then option_map (kept_as false n body told) o else None)) [
      | true ↦ λ _. recorded-read false (n + 1) body told o (omega arith) ∙ inner o
      | false ↦ λ e. absurd (cc)
    ] h
  where
    inner : (o : Option (ℕ × Meta)) → option_map (kept_as false (n + 1) body told) o ≡ option_map more (option_map (kept_as false n body told) o)
    inner None = refl
    inner (Some b) = refl

shrunk : (fly : Bool) (m : ℕ) (body : List ℕ) (told : Bool) (o : Option (ℕ × Meta)) → named (option_map fewer (recorded fly (m + 1) body told o)) ≡ recorded fly m body told o
shrunk fly m body told o = ap (λ r. named (option_map fewer r)) (recorded-read fly (m + 1) body told o (omega arith)) ∙ inner o
  where
    inner : (o : Option (ℕ × Meta)) → named (option_map fewer (option_map (kept_as fly (m + 1) body told) o)) ≡ recorded fly m body told o
    inner None = elim (fly || nat_lt 0 m) as (λ (b : Bool). ◌≡◌ {A = Option Written} None (if b then None else None)) [ true ↦ refl | false ↦ refl ]
    inner (Some b) = let e : m + 1 - 1 ≡ m = omega arith in ap (λ k. cond (fly || nat_lt 0 k) (Some (kept_as fly k body told b)) None) e

-- ---- writes of a store that is what events say

-- a write in flight was begun with something
pub begun-flying : (w : ℕ) (es : List Event) → in_flight w es ≡ true → (b : ℕ × Meta) × (begin_of w es ≡ Some b)
begun-flying w es h = elim (begin_of w es) as (λ o. is_some o ≡ true → (b : ℕ × Meta) × (o ≡ Some b)) [ None ↦ λ e. absurd (cc) | Some b ↦ λ _. (b, refl) ] (flies w es h).0

module _ (es : List Event) (n : ℕ → ℕ) (s : Store) (st : IsState es n s) (w : ℕ) where
  pub record-flying : (b : ℕ × Meta) → in_flight w es ≡ true → begin_of w es ≡ Some b → get s.writes w ≡ Some (kept_as true (n w) (body_of w es) (is_told w es) b)
  record-flying b fly is = st.writes w ∙ (λ i. recorded (fly i) (n w) (body_of w es) (is_told w es) (is i))

  pub record-begun : is_some (get s.writes w) ≡ true → is_some (begin_of w es) ≡ true
  record-begun there = recorded-begun (in_flight w es) (n w) (body_of w es) (is_told w es) (begin_of w es) (ap is_some (sym (st.writes w)) ∙ there)

  pub record-read : 0 < n w → get s.writes w ≡ option_map (kept_as (in_flight w es) (n w) (body_of w es) (is_told w es)) (begin_of w es)
  record-read lt = st.writes w ∙ recorded-read (in_flight w es) (n w) (body_of w es) (is_told w es) (begin_of w es) lt

  pub record-kept : 0 < n w → is_some (get s.writes w) ≡ true
  record-kept lt = ap is_some (record-read lt) ∙ some-map (kept_as (in_flight w es) (n w) (body_of w es) (is_told w es)) (begin_of w es) ∙ st.known w lt

-- ---- readers

-- one more reader
module _ (es : List Event) (n m : ℕ → ℕ) (s : Store) (w : ℕ) (there : is_some (get s.writes w) ≡ true) (count : (q : ℕ) → m q ≡ n q + (if w == q then 1 else 0)) (st : IsState es n s) where
  one_more : m w ≡ n w + 1
  one_more = count w ∙ ap (λ b. n w + (if b then 1 else 0)) (same-number w)

  as_many : (q : ℕ) → (w == q) ≡ false → m q ≡ n q
  as_many q f = let e : m q ≡ n q + 0 = count q ∙ ap (λ b. n q + (if b then 1 else 0)) f in omega arith

  joined-writes : (o : Option Written) → get s.writes w ≡ o → (q : ℕ) → get (followed_on s.writes w o) q ≡ record_of q (m q) es
  joined-writes None e = absurd (both_ways _ (ap is_some e) there)
  joined-writes (Some r) e =
      changed-at s.writes _ es es n m w (Some (more r)) (get-set s.writes w (more r)) st.writes
      (ap (option_map more) (sym e ∙ st.writes w) ∙ sym (grown (in_flight w es) (n w) (body_of w es) (is_told w es) (begin_of w es) (ap is_some (sym (st.writes w)) ∙ there)) ∙ ap (λ k. record_of w k es) (sym one_more))
      (λ q f. ap (λ k. record_of q k es) (as_many q f))

  pub state-joined : IsState es m (joined s w)
  state-joined = record {
    next = st.next;
    writes = joined-writes (get s.writes w) refl;
    untouched = st.untouched;
    bodies = st.bodies;
    filled = st.filled;
    known = λ q lt. elim (w == q) as (λ b. (w == q) ≡ b → is_some (begin_of q es) ≡ true) [
      | true ↦ λ t. subst (λ x. is_some (begin_of x es) ≡ true) (eqb-true w q t) (record-begun es n s st w there)
      | false ↦ λ f. let e = as_many q f in st.known q (omega arith)
    ] refl;
    newest = st.newest;
  }

-- one reader less
module _ (es : List Event) (n m : ℕ → ℕ) (s : Store) (w place : ℕ) (count : (q : ℕ) → n q ≡ m q + (if w == q then 1 else 0)) (st : IsState es n s) where
  one_fewer : n w ≡ m w + 1
  one_fewer = count w ∙ ap (λ b. m w + (if b then 1 else 0)) (same-number w)

  no_fewer : (q : ℕ) → (w == q) ≡ false → m q ≡ n q
  no_fewer q f = let e : n q ≡ m q + 0 = count q ∙ ap (λ b. m q + (if b then 1 else 0)) f in omega arith

  left-writes : (o : Option Written) → get s.writes w ≡ o → (q : ℕ) → get (left_on s.writes w o) q ≡ record_of q (m q) es
  left-writes None e = absurd (both_ways _ (ap is_some e) (record-kept es n s st w (let h = one_fewer in omega arith)))
  left-writes (Some r) e =
      changed-at s.writes _ es es n m w (named (Some (fewer r))) (get-kept s.writes w (fewer r)) st.writes
      (ap (λ o. named (option_map fewer o)) (sym e ∙ st.writes w ∙ ap (λ k. recorded (in_flight w es) k (body_of w es) (is_told w es) (begin_of w es)) one_fewer)
      ∙ shrunk (in_flight w es) (m w) (body_of w es) (is_told w es) (begin_of w es))
      (λ q f. ap (λ k. record_of q k es) (no_fewer q f))

  pub state-left : IsState es m (left s (Part w place))
  state-left = record {
    next = st.next;
    writes = left-writes (get s.writes w) refl;
    untouched = st.untouched;
    bodies = st.bodies;
    filled = st.filled;
    known = λ q lt. st.known q (let e = count q in omega arith);
    newest = st.newest;
  }

pub state-left_by : (es : List Event) (n m : ℕ → ℕ) (s : Store) (reader : Option Reader) → ((q : ℕ) → n q ≡ m q + follows q reader) → IsState es n s → IsState es m (left_by reader s)
state-left_by es n m s None count st = state-same es n m s (λ q. let e = count q in omega arith) st
state-left_by es n m s (Some (Whole id body start stop done)) count st = state-same es n m s (λ q. let e = count q in omega arith) st
state-left_by es n m s (Some (Part w place)) count st = state-left es n m s w place count st

-- ---- pairs that are given

-- the write that a pair's reader follows
abbrev pub read_in : Reader → Option ℕ
read_in (Whole id body start stop done) = None
read_in (Part w place) = Some w

abbrev pub part_of : Option (Meta × Reader) → Option ℕ
part_of None = None
part_of (Some p) = read_in p.1

pub state-followed : (es : List Event) (n m : ℕ → ℕ) (s : Store) (p : Option (Meta × Reader)) → ((w : ℕ) → part_of p ≡ Some w → is_some (get s.writes w) ≡ true) → ((q : ℕ) → m q ≡ n q + follows q (pair_reader p)) → IsState es n s → IsState es m (followed s p)
state-followed es n m s None there count st = state-same es n m s (λ q. let e = count q in omega arith) st
state-followed es n m s (Some p) there count st = inner p.1 there count
  where
    inner : (r : Reader) → ((w : ℕ) → read_in r ≡ Some w → is_some (get s.writes w) ≡ true) → ((q : ℕ) → m q ≡ n q + follows q (Some r)) → IsState es m (followed_by s r)
    inner (Whole id body start stop done) there count = state-same es n m s (λ q. let e = count q in omega arith) st
    inner (Part w place) there count = state-joined es n m s w (there w refl) count st
