-- The store after keys were removed: by a purge, and by an admission that evicts.
use Rattle.std.proofs.Math.Bool.{or-false, or_assoc}
use Rattle.pcache_evict.specs.Entry.{id_of}
use Rattle.pcache_store.specs.Store.{Stored, body_without, slot_without, write_gone_on, write_purged}
use Rattle.pcache_store.specs.Purge.{entry_purged_in}
use Rattle.pcache_request.specs.Finishing.{entry_slot}
use Rattle.pcache_history.specs.Events.{begun, is_number, goes_with, goes_with_any, meta_kept}
use Rattle.pcache_history.proofs.NumbersLaw.{complete-numbered}
use Rattle.pcache_history.proofs.Steps.{complete-purge, complete-admit, unless_removed, whole}
use Rattle.pcache_world.proofs.Words.{◌≡◌, ℕ, ◌<◌, ◌==◌, nat_eq, Bool, true, false, not, cond, ◌&&◌, ◌||◌, if◌then◌else◌, Option, None, Some, is_some, List, [], ◌∷◌, refl, ap, sym, subst, ◌∙◌, arith, inl, inr, list_any, option_and_then, option_eq, nat_cmp, FinMap, get, remove, eqb-true, nat_tests, Meta, CacheEntryKey, Store, Slot, is_untouched_in, is_idle, complete_body, purged, entry_purged, PurgesAll, Event, Admit, Purge, begin_of, since, removes, option_any, in_flight, is_open, is_replaced, is_removed, last_finished, body_of, complete, record_of, IsState, IsTidy}
use Rattle.pcache_world.proofs.StateSlots.{tidied, tidied-body, tidied-untouched, tidied-filled, get-with_slot, gone-key, filled-at}
use Rattle.pcache_world.proofs.StateWrites.{get-unset}

-- the store is what the events say, less the writes of a test
record IsPurged (p : ℕ → ℕ → Bool) (es : List Event) (n : ℕ → ℕ) (s : Store) : Type 0 where
  next : s.next ≡ begun es
  writes : (w : ℕ) → get s.writes w ≡ record_of w (n w) es
  untouched : (k w : ℕ) → is_untouched_in w (get s.slots k) ≡ (if p k w then false else is_open k w es)
  bodies : (k : ℕ) → complete_body (get s.slots k) ≡ (if option_any (p k) (last_finished k es) then None else complete k es)
  filled : (k : ℕ) (x : Slot) → get s.slots k ≡ Some x → is_idle x ≡ false
  known : (w : ℕ) → 0 < n w → is_some (begin_of w es) ≡ true
  newest : s.newest ≡ false

both : {A : Type 0} (a b : Bool) (z x : A) → cond b z (if a then z else x) ≡ (if (a || b) then z else x)
both true true z x = refl
both true false z x = refl
both false true z x = refl
both false false z x = refl

-- no body without a finished write
none-last : (k : ℕ) (es : List Event) → last_finished k es ≡ None → complete k es ≡ None
none-last k es none = ap (option_and_then (λ w. unless_removed (is_removed w es) (begin_of w es) (meta_kept w es) (body_of w es))) none

purged-none : (es : List Event) (n : ℕ → ℕ) (s : Store) → IsState es n s → IsPurged (λ k w. false) es n s
purged-none es n s st = record {
  next = st.next;
  writes = st.writes;
  untouched = st.untouched;
  bodies = λ k. st.bodies k ∙ sym (whole false (last_finished k es) (λ w. unless_removed (is_removed w es) (begin_of w es) (meta_kept w es) (body_of w es)));
  filled = st.filled;
  known = st.known;
  newest = st.newest;
}

-- a test with the same results
purged-same : (p r : ℕ → ℕ → Bool) (es : List Event) (n : ℕ → ℕ) (s : Store) → ((k w : ℕ) → r k w ≡ p k w) → IsPurged p es n s → IsPurged r es n s
purged-same p r es n s h st = subst (λ f. IsPurged f es n s) (λ i k w. sym (h k w) i) st

-- all writes of one more key
gone-all : (f : ℕ → Bool) (b : Bool) (o : Option ℕ) (c : Option Stored) → (o ≡ None → c ≡ None) → cond b None (if option_any f o then None else c) ≡ (if option_any (λ w. f w || b) o then None else c)
gone-all f true None c none = sym (none refl)
gone-all f false None c none = refl
gone-all f b (Some w) c none = both (f w) b None c

purged-more : (p : ℕ → ℕ → Bool) (es : List Event) (n : ℕ → ℕ) (s : Store) (j : ℕ) → IsPurged p es n s → IsPurged (λ k w. p k w || j == k) es n (purged s j)
purged-more p es n s j st =
    record {
      next = st.next;
      writes = st.writes;
      untouched = λ k w. ap (is_untouched_in w) (get-unset s.slots j k) ∙ inside w (j == k) (get s.slots k) ∙ ap (cond (j == k) false) (st.untouched k w) ∙ both (p k w) (j == k) false (is_open k w es);
      bodies = λ k. ap complete_body (get-unset s.slots j k) ∙ under (j == k) (get s.slots k) ∙ ap (cond (j == k) None) (st.bodies k) ∙ gone-all (p k) (j == k) (last_finished k es) (complete k es) (none-last k es);
      filled = λ k x is. elim (j == k) as (λ b. get (remove s.slots j) k ≡ cond b None (get s.slots k) → is_idle x ≡ false) [
        | true ↦ λ e. let no_slot : ◌≡◌ {A = Option Slot} None (Some x) = sym e ∙ is in cc
        | false ↦ λ e. st.filled k x (sym e ∙ is)
      ] (get-unset s.slots j k);
      known = st.known;
      newest = st.newest;
    }
  where
    inside : (w : ℕ) (b : Bool) (o : Option Slot) → is_untouched_in w (cond b None o) ≡ cond b false (is_untouched_in w o)
    inside w true o = refl
    inside w false o = refl

    under : (b : Bool) (o : Option Slot) → complete_body (cond b None o) ≡ cond b None (complete_body o)
    under true o = refl
    under false o = refl

-- One more write of a key.

-- a slot without a write
abbrev lost_of : ℕ → Option Slot → Option Slot
lost_of m None = None
lost_of m (Some x) = tidied (slot_without m x)

get-lost : (xs : FinMap nat_cmp Slot) (j m q : ℕ) → get (write_gone_on xs j m (get xs j)) q ≡ cond (j == q) (lost_of m (get xs j)) (get xs q)
get-lost xs j m q =
    elim (get xs j) as (λ o. get xs j ≡ o → get (write_gone_on xs j m o) q ≡ cond (j == q) (lost_of m o) (get xs q)) [
      | None ↦ λ e. elim (j == q) as (λ b. (j == q) ≡ b → get xs q ≡ cond b None (get xs q)) [ true ↦ λ t. ap (get xs) (sym (eqb-true j q t)) ∙ e | false ↦ λ _. refl ] refl
      | Some x ↦ λ _. get-with_slot xs j (slot_without m x) q
    ] refl

lost-untouched : (m : ℕ) (o : Option Slot) (w : ℕ) → is_untouched_in w (lost_of m o) ≡ cond (m == w) false (is_untouched_in w o)
lost-untouched m None w = elim (m == w) as (λ b. false ≡ cond b false false) [ true ↦ refl | false ↦ refl ]
lost-untouched m (Some x) w = tidied-untouched (slot_without m x) w ∙ gone-key x.untouched m w

lost-body : (m : ℕ) (o : Option Slot) → complete_body (lost_of m o) ≡ body_without m (complete_body o)
lost-body m None = refl
lost-body m (Some x) = tidied-body (slot_without m x)

lost-filled : (m : ℕ) (o : Option Slot) (z : Slot) → lost_of m o ≡ Some z → is_idle z ≡ false
lost-filled m None z e = cc
lost-filled m (Some x) z e = tidied-filled (slot_without m x) z e

-- the body goes if it is of the last finished write, which it is if it is there
gone-one : (f : ℕ → Bool) (m : ℕ) (o : Option ℕ) (c : Option Stored) → ((x : Stored) → c ≡ Some x → (w : ℕ) × (o ≡ Some w) × (x.meta.entry_id ≡ Some w))
    → body_without m (if option_any f o then None else c) ≡ (if option_any (λ w. f w || m == w) o then None else c)
gone-one f m o None of = ap (body_without m) (none (option_any f o)) ∙ sym (none (option_any (λ w. f w || m == w) o))
  where
    none : (b : Bool) → ◌≡◌ {A = Option Stored} (if b then None else None) None
    none true = refl
    none false = refl
gone-one f m o (Some x) of =
    let p = of x refl in
    subst (λ q. body_without m (if option_any f q then None else Some x) ≡ (if option_any (λ w. f w || m == w) q then None else Some x)) (sym p.1) (inner p.0 p.2 (f p.0))
  where
    turned : (w m : ℕ) → nat_eq w m ≡ (m == w)
    turned w m = grind (arith, nat_tests)

    inner : (w : ℕ) → x.meta.entry_id ≡ Some w → (b : Bool) → body_without m (if b then None else Some x) ≡ (if b || m == w then None else Some x)
    inner w is true = refl
    inner w is false = ap (λ n. cond (option_eq nat_eq n (Some m)) None (Some x)) is ∙ ap (λ b. cond b None (Some x)) (turned w m)

purged-one : (p : ℕ → ℕ → Bool) (es : List Event) (n : ℕ → ℕ) (s : Store) (j m : ℕ) → IsPurged p es n s → IsPurged (λ k w. p k w || (j == k && m == w)) es n (write_purged s j m)
purged-one p es n s j m st =
    let set = get-lost s.slots j m in
    record {
      next = st.next;
      writes = st.writes;
      untouched = λ k w. ap (is_untouched_in w) (set k) ∙ inside k w;
      bodies = λ k. ap complete_body (set k) ∙ under k;
      filled = filled-at s.slots (write_gone_on s.slots j m (get s.slots j)) j (lost_of m (get s.slots j)) set (lost-filled m (get s.slots j)) st.filled;
      known = st.known;
      newest = st.newest;
    }
  where
    inside : (k w : ℕ) → is_untouched_in w (cond (j == k) (lost_of m (get s.slots j)) (get s.slots k)) ≡ (if p k w || (j == k && m == w) then false else is_open k w es)
    inside k w = elim (j == k) as (λ b. (j == k) ≡ b → is_untouched_in w (cond b (lost_of m (get s.slots j)) (get s.slots k)) ≡ (if p k w || (b && m == w) then false else is_open k w es)) [
      | true ↦ λ t. lost-untouched m (get s.slots j) w ∙ ap (λ x. cond (m == w) false (is_untouched_in w (get s.slots x))) (eqb-true j k t) ∙ ap (cond (m == w) false) (st.untouched k w) ∙ both (p k w) (m == w) false (is_open k w es)
      | false ↦ λ _. st.untouched k w ∙ ap (λ b. if b then false else is_open k w es) (sym (or-false (p k w)))
    ] refl

    under : (k : ℕ) → complete_body (cond (j == k) (lost_of m (get s.slots j)) (get s.slots k)) ≡ (if option_any (λ w. p k w || (j == k && m == w)) (last_finished k es) then None else complete k es)
    under k = elim (j == k) as (λ b. (j == k) ≡ b → complete_body (cond b (lost_of m (get s.slots j)) (get s.slots k)) ≡ (if option_any (λ w. p k w || (b && m == w)) (last_finished k es) then None else complete k es)) [
      | true ↦ λ t. lost-body m (get s.slots j) ∙ ap (λ x. body_without m (complete_body (get s.slots x))) (eqb-true j k t) ∙ ap (body_without m) (st.bodies k) ∙ gone-one (p k) m (last_finished k es) (complete k es) (complete-numbered k es)
      | false ↦ λ _. st.bodies k ∙ ap (λ (f : ℕ → Bool). if option_any f (last_finished k es) then None else complete k es) (λ i w. sym (or-false (p k w)) i)
    ] refl

-- an event that removes writes
removed-open : (p r t : ℕ → Bool) (k : ℕ) (o : Option (ℕ × Meta)) (fly : Bool)
    → (option_any (λ (b : ℕ × Meta). b.0 == k) o && (fly && not (option_any (λ (b : ℕ × Meta). (p b.0 || r b.0) || t b.0) o)))
    ≡ (if p k then false else (option_any (λ (b : ℕ × Meta). b.0 == k) o && (fly && not (option_any (λ (b : ℕ × Meta). r b.0 || t b.0) o))))
removed-open p r t k None fly = elim (p k) as (λ b. false ≡ (if b then false else false)) [ true ↦ refl | false ↦ refl ]
removed-open p r t k (Some b) fly =
    elim (b.0 == k) as (λ e. (b.0 == k) ≡ e → (e && (fly && not ((p b.0 || r b.0) || t b.0))) ≡ (if p k then false else (e && (fly && not (r b.0 || t b.0))))) [
      | true ↦ λ e. ap (λ q. fly && not ((q || r b.0) || t b.0)) (ap p (eqb-true b.0 k e)) ∙ inner fly (p k) (r b.0) (t b.0)
      | false ↦ λ _. elim (p k) as (λ e. false ≡ (if e then false else false)) [ true ↦ refl | false ↦ refl ]
    ] refl
  where
    inner : (f q x y : Bool) → (f && not ((q || x) || y)) ≡ (if q then false else (f && not (x || y)))
    inner true true x y = refl
    inner false true x y = refl
    inner f false x y = refl

pub state-purge : (es : List Event) (n : ℕ → ℕ) (s : Store) (k : ℕ) → IsTidy es → IsState es n s → IsState (Purge k ∷ es) n (purged s k)
state-purge es n s k tidy st =
    let p = purged-more (λ q w. false) es n s k (purged-none es n s st) in
    record {
      next = p.next;
      writes = p.writes;
      untouched = λ q w. p.untouched q w ∙ sym (removed-open (λ x. k == x) (λ x. list_any (removes x w) (since w es)) (λ x. is_replaced x w es) q (begin_of w es) (in_flight w es));
      bodies = λ q. p.bodies q ∙ whole (k == q) (last_finished q es) (λ w. unless_removed (is_removed w es) (begin_of w es) (meta_kept w es) (body_of w es)) ∙ sym (complete-purge es k tidy q);
      filled = p.filled;
      known = p.known;
      newest = p.newest;
    }

-- what goes with one entry
purged-entry : (p : ℕ → ℕ → Bool) (es : List Event) (n : ℕ → ℕ) (s : Store) (e : CacheEntryKey) → IsPurged p es n s → IsPurged (λ k w. p k w || goes_with k w e) es n (entry_purged true s e)
purged-entry p es n s e st = inner (id_of e)
  where
    and-true : (b : Bool) → (b && true) ≡ b
    and-true true = refl
    and-true false = refl

    inner : (o : Option ℕ) → IsPurged (λ k w. p k w || (entry_slot e == k && is_number w o)) es n (entry_purged_in true s (entry_slot e) o)
    inner None = purged-same (λ k w. p k w || entry_slot e == k) (λ k w. p k w || (entry_slot e == k && true)) es n (purged s (entry_slot e)) (λ k w. ap (λ b. p k w || b) (and-true (entry_slot e == k))) (purged-more p es n s (entry_slot e) st)
    inner (Some m) = purged-one p es n s (entry_slot e) m st

purged-all : (p : ℕ → ℕ → Bool) (es : List Event) (n : ℕ → ℕ) (out : List CacheEntryKey) (s t : Store) → PurgesAll true s out 0 t → IsPurged p es n s → IsPurged (λ k w. p k w || goes_with_any k w out) es n t
purged-all p es n [] s t h st = purged-same p (λ k w. p k w || false) es n t (λ k w. or-false (p k w)) (subst (IsPurged p es n) (sym h.1) st)
purged-all p es n (e ∷ out) s t (inl h) st =
    purged-same (λ k w. (p k w || goes_with k w e) || goes_with_any k w out) (λ k w. p k w || goes_with_any k w (e ∷ out)) es n t (λ k w. sym (or_assoc (p k w) (goes_with k w e) (goes_with_any k w out)))
    (purged-all (λ k w. p k w || goes_with k w e) es n out (entry_purged true s e) t h (purged-entry p es n s e st))
purged-all p es n (e ∷ out) s t (inr h) st = let none = h.1 in absurd (omega arith)

pub state-admit : (es : List Event) (n : ℕ → ℕ) (s t : Store) (e : CacheEntryKey) (weight : ℕ) (out : List CacheEntryKey) → IsTidy es → PurgesAll true s out 0 t → IsState es n s → IsState (Admit e weight out ∷ es) n t
state-admit es n s t e weight out tidy h st =
    let p = purged-all (λ k w. false) es n out s t h (purged-none es n s st) in
    record {
      next = p.next;
      writes = p.writes;
      untouched = λ q w. p.untouched q w ∙ sym (removed-open (λ x. goes_with_any x w out) (λ x. list_any (removes x w) (since w es)) (λ x. is_replaced x w es) q (begin_of w es) (in_flight w es));
      bodies = λ q. p.bodies q ∙ sym (complete-admit es e weight out tidy q);
      filled = p.filled;
      known = p.known;
      newest = p.newest;
    }
