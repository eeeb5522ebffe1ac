-- The slots of a store: after a write began or ended, and after removals.
use Rattle.std.specs.FinMap.{empty_of_len}
use Rattle.std.proofs.lemmas.Bool.{cases_lt, false_from_ne_true, and_right}
use Rattle.pcache_store.specs.Store.{Stored, with_slot, slot_or_new, opened_in, opened, begun, closed, grounded, shut_on, shut, dropped_on, stored_on, finished_on}
use Rattle.pcache_history.specs.Events.{is_told}
use Rattle.pcache_history.proofs.Steps.{complete-begin, complete-finish, not-stored, flies-removed}
use Rattle.pcache_world.proofs.Words.{◌≡◌, ℕ, ◌+◌, ◌≤◌, ◌==◌, nat_eq, Bool, true, false, not, cond, ◌&&◌, ◌||◌, if◌then◌else◌, Option, None, Some, is_some, is_none, List, [], ◌∷◌, refl, ap, sym, subst, ◌∙◌, arith, inl, inr, list_any, option_eq, nat_cmp, FinMap, get, insert, remove, contains_key, len, get-empty, eqb-true, both_ways, and_parts, Meta, numbered, Store, Slot, is_untouched_in, is_idle, complete_body, new_write, dropped, finished, Event, Begin, Finish, Dropped, begin_of, since, removes, option_any, is_replaced, is_removed, last_finished, has_ended, in_flight, is_of, is_open, complete, record_of, IsState, IsTidy, same-number}
use Rattle.pcache_history.specs.Events as ev
use Rattle.pcache_world.proofs.StateWrites.{get-set, get-unset, get-kept, changed-at, kept_as, recorded, begun-flying, record-flying}

-- ---- slots that hold nothing

no-keys : {X : Type 0} (m : FinMap nat_cmp X) → (len m == 0) ≡ true → (q : ℕ) → contains_key m q ≡ false
no-keys m e q = ap (λ (x : FinMap nat_cmp _). is_some (get x q)) (empty_of_len m (eqb-true (len m) 0 e)) ∙ ap is_some (get-empty nat_cmp q)

no-body : (o : Option Stored) → is_none o ≡ true → o ≡ None
no-body None e = refl
no-body (Some b) e = cc

-- a slot that has a number, or a body, is not idle
pub busy-key : (x : Slot) (w : ℕ) → contains_key x.untouched w ≡ true → is_idle x ≡ false
busy-key x w h =
    let apart : (len x.untouched == 0) ≡ false = false_from_ne_true _ (λ e. both_ways _ (no-keys x.untouched e w) h) in
    ap (λ b. is_none x.body && b) apart ∙ and_right (is_none x.body) false refl

-- a slot as it stays: removed if it holds nothing
abbrev pub tidied : Slot → Option Slot
tidied y = cond (is_idle y) None (Some y)

pub tidied-body : (y : Slot) → complete_body (tidied y) ≡ y.body
tidied-body y = elim (is_idle y) as (λ t. is_idle y ≡ t → complete_body (cond t None (Some y)) ≡ y.body) [ true ↦ λ e. sym (no-body y.body (and_parts _ _ e).0) | false ↦ λ _. refl ] refl

pub tidied-untouched : (y : Slot) (q : ℕ) → is_untouched_in q (tidied y) ≡ contains_key y.untouched q
tidied-untouched y q = elim (is_idle y) as (λ t. is_idle y ≡ t → is_untouched_in q (cond t None (Some y)) ≡ contains_key y.untouched q) [ true ↦ λ e. sym (no-keys y.untouched (and_parts _ _ e).1 q) | false ↦ λ _. refl ] refl

pub tidied-filled : (y z : Slot) → tidied y ≡ Some z → is_idle z ≡ false
tidied-filled y z h =
    elim (is_idle y) as (λ t. is_idle y ≡ t → cond t None (Some y) ≡ Some z → is_idle z ≡ false) [
      | true ↦ λ _ e. cc
      | false ↦ λ busy e. let same : y ≡ z = cc in ap is_idle (sym same) ∙ busy
    ] refl h

pub get-with_slot : (xs : FinMap nat_cmp Slot) (k : ℕ) (y : Slot) (q : ℕ) → get (with_slot xs k y) q ≡ cond (k == q) (tidied y) (get xs q)
get-with_slot xs k y q = elim (is_idle y) as (λ b. get (cond b (remove xs k) (insert xs k y)) q ≡ cond (k == q) (cond b None (Some y)) (get xs q)) [ true ↦ get-unset xs k q | false ↦ get-set xs k y q ]

-- a slot without the number of a write
abbrev cut : ℕ → Slot → Slot
cut w x = record x { untouched = remove x.untouched w }

abbrev cut_of : ℕ → Option Slot → Option Slot
cut_of w None = None
cut_of w (Some x) = tidied (cut w x)

get-shut : (xs : FinMap nat_cmp Slot) (k w q : ℕ) → get (shut xs k w) q ≡ cond (k == q) (cut_of w (get xs k)) (get xs q)
get-shut xs k w q =
    elim (get xs k) as (λ o. get xs k ≡ o → get (shut_on xs k w o) q ≡ cond (k == q) (cut_of w o) (get xs q)) [
      | None ↦ λ e. elim (k == q) as (λ b. (k == q) ≡ b → get xs q ≡ cond b None (get xs q)) [ true ↦ λ t. ap (get xs) (sym (eqb-true k q t)) ∙ e | false ↦ λ _. refl ] refl
      | Some x ↦ λ _. get-with_slot xs k (cut w x) q
    ] refl

pub gone-key : {X : Type 0} (m : FinMap nat_cmp X) (w q : ℕ) → contains_key (remove m w) q ≡ cond (w == q) false (contains_key m q)
gone-key m w q = ap is_some (get-unset m w q) ∙ elim (w == q) as (λ b. is_some (cond b None (get m q)) ≡ cond b false (contains_key m q)) [ true ↦ refl | false ↦ refl ]

new-key : {X : Type 0} (m : FinMap nat_cmp X) (w : ℕ) (v : X) (q : ℕ) → contains_key (insert m w v) q ≡ cond (w == q) true (contains_key m q)
new-key m w v q = ap is_some (get-set m w v q) ∙ elim (w == q) as (λ b. is_some (cond b (Some v) (get m q)) ≡ cond b true (contains_key m q)) [ true ↦ refl | false ↦ refl ]

cut-untouched : (w : ℕ) (o : Option Slot) (q : ℕ) → is_untouched_in q (cut_of w o) ≡ cond (w == q) false (is_untouched_in q o)
cut-untouched w None q = elim (w == q) as (λ b. false ≡ cond b false false) [ true ↦ refl | false ↦ refl ]
cut-untouched w (Some x) q = tidied-untouched (cut w x) q ∙ gone-key x.untouched w q

cut-body : (w : ℕ) (o : Option Slot) → complete_body (cut_of w o) ≡ complete_body o
cut-body w None = refl
cut-body w (Some x) = tidied-body (cut w x)

cut-filled : (w : ℕ) (o : Option Slot) (z : Slot) → cut_of w o ≡ Some z → is_idle z ≡ false
cut-filled w None z e = cc
cut-filled w (Some x) z e = tidied-filled (cut w x) z e

-- ---- one slot changed

pub filled-at : (xs ys : FinMap nat_cmp Slot) (at : ℕ) (o : Option Slot) → ((k : ℕ) → get ys k ≡ cond (at == k) o (get xs k)) → ((z : Slot) → o ≡ Some z → is_idle z ≡ false)
    → ((k : ℕ) (z : Slot) → get xs k ≡ Some z → is_idle z ≡ false) → (k : ℕ) (z : Slot) → get ys k ≡ Some z → is_idle z ≡ false
filled-at xs ys at o set new old k z h =
    elim (at == k) as (λ b. get ys k ≡ cond b o (get xs k) → is_idle z ≡ false) [ true ↦ λ e. new z (sym e ∙ h) | false ↦ λ e. old k z (sym e ∙ h) ] (set k)

bodies-at : (xs ys : FinMap nat_cmp Slot) (at : ℕ) (o : Option Slot) → ((k : ℕ) → get ys k ≡ cond (at == k) o (get xs k)) → complete_body o ≡ complete_body (get xs at) → (k : ℕ) → complete_body (get ys k) ≡ complete_body (get xs k)
bodies-at xs ys at o set same k =
    ap complete_body (set k) ∙ elim (at == k) as (λ b. (at == k) ≡ b → complete_body (cond b o (get xs k)) ≡ complete_body (get xs k)) [
      | true ↦ λ t. same ∙ ap (λ j. complete_body (get xs j)) (eqb-true at k t)
      | false ↦ λ _. refl
    ] refl

-- ---- the end of a write

-- a write that ended is no longer open
ended-open : (es : List Event) (w k q : ℕ) → is_open k q (Dropped w ∷ es) ≡ cond (w == q) false (is_open k q es)
ended-open es w k q = inner (is_of k q es) (is_some (begin_of q es)) (has_ended q es) (is_removed q es) (w == q)
  where
    inner : (a c e r t : Bool) → (a && ((c && not (t || e)) && not r)) ≡ cond t false (a && ((c && not e) && not r))
    inner true true e r true = refl
    inner true false e r true = refl
    inner false c e r true = refl
    inner a c e r false = refl

-- a finish that stores and a drop leave the same writes open
finish-open : (es : List Event) (w k q : ℕ) → is_open k q (Dropped w ∷ es) ≡ is_open k q (Finish w true ∷ es)
finish-open es w k q =
    elim (has_ended q (Dropped w ∷ es)) as (λ b. has_ended q (Dropped w ∷ es) ≡ b → (is_of k q es && ((is_some (begin_of q es) && not b) && not (is_removed q (Dropped w ∷ es)))) ≡ (is_of k q es && ((is_some (begin_of q es) && not b) && not (is_removed q (Finish w true ∷ es))))) [
      | true ↦ λ _. ap (λ b. is_of k q es && b) (never (is_some (begin_of q es)) _ _)
      | false ↦ λ live. ap (λ r. is_of k q es && ((is_some (begin_of q es) && true) && not r)) (flies-removed q (Dropped w ∷ es) live ∙ sym (flies-removed q (Finish w true ∷ es) live))
    ] refl
  where
    never : (c x y : Bool) → ((c && false) && x) ≡ ((c && false) && y)
    never true x y = refl
    never false x y = refl

-- a write is open under its own key alone
apart-open : (es : List Event) (w k : ℕ) (b : ℕ × Meta) → begin_of w es ≡ Some b → (b.0 == k) ≡ false → is_open k w es ≡ false
apart-open es w k b is apart = (λ i. option_any (λ (c : ℕ × Meta). c.0 == k) (is i) && (in_flight w es && not (is_removed w es))) ∙ ap (λ t. t && (in_flight w es && not (is_removed w es))) apart

module _ (es : List Event) (n : ℕ → ℕ) (s : Store) (st : IsState es n s) (w : ℕ) (b : ℕ × Meta) (is : begin_of w es ≡ Some b) where
  ended-untouched : (ys : FinMap nat_cmp Slot) (o : Option Slot) → ((k : ℕ) → get ys k ≡ cond (b.0 == k) o (get s.slots k)) → ((q : ℕ) → is_untouched_in q o ≡ cond (w == q) false (is_untouched_in q (get s.slots b.0)))
      → (k q : ℕ) → is_untouched_in q (get ys k) ≡ is_open k q (Dropped w ∷ es)
  ended-untouched ys o set gone k q =
      ap (is_untouched_in q) (set k)
      ∙ elim (b.0 == k) as (λ t. (b.0 == k) ≡ t → is_untouched_in q (cond t o (get s.slots k)) ≡ cond (w == q) false (is_open k q es)) [
        | true ↦ λ t. gone q ∙ ap (λ j. cond (w == q) false (is_untouched_in q (get s.slots j))) (eqb-true b.0 k t) ∙ ap (cond (w == q) false) (st.untouched k q)
        | false ↦ λ f. st.untouched k q ∙ elim (w == q) as (λ t. (w == q) ≡ t → is_open k q es ≡ cond t false (is_open k q es)) [
          | true ↦ λ t. ap (λ x. is_open k x es) (sym (eqb-true w q t)) ∙ apart-open es w k b is f
          | false ↦ λ _. refl
        ] refl
      ] refl
      ∙ sym (ended-open es w k q)

  -- the record of a write that ended stays where it is read
  ended-writes : (q : ℕ) → get (grounded s.writes w (kept_as true (n w) (ev.body_of w es) (is_told w es) b)) q ≡ record_of q (n q) (Dropped w ∷ es)
  ended-writes =
      let t = same-number w in
      changed-at s.writes _ es (Dropped w ∷ es) n n w (recorded false (n w) (ev.body_of w es) (is_told w es) (Some b)) (get-kept s.writes w (kept_as false (n w) (ev.body_of w es) (is_told w es) b)) st.writes
      (λ i. recorded (is_some (sym is i) && not (sym t i || has_ended w es)) (n w) (ev.body_of w es) (is_told w es) (sym is i))
      (λ q f. rw f refl)

  -- and that of a write that was finished, whose end is known then
  finished-writes : (q : ℕ) → get (closed s.writes w (kept_as true (n w) (ev.body_of w es) (is_told w es) b)) q ≡ record_of q (n q) (Finish w true ∷ es)
  finished-writes =
      let t = same-number w in
      changed-at s.writes _ es (Finish w true ∷ es) n n w (recorded false (n w) (ev.body_of w es) true (Some b)) (get-kept s.writes w (kept_as false (n w) (ev.body_of w es) true b)) st.writes
      (λ i. recorded (is_some (sym is i) && not (sym t i || has_ended w es)) (n w) (ev.body_of w es) (if sym t i then true else is_told w es) (sym is i))
      (λ q f. rw f refl)

pub state-dropped : (es : List Event) (n : ℕ → ℕ) (s : Store) (w : ℕ) → in_flight w es ≡ true → IsState es n s → IsState (Dropped w ∷ es) n (dropped s w)
state-dropped es n s w fly st =
    let f = begun-flying w es fly in
    let b = f.0 in
    let set = get-shut s.slots b.0 w in
    subst (λ o. IsState (Dropped w ∷ es) n (dropped_on s w o)) (sym (record-flying es n s st w b fly f.1)) (record {
      next = st.next;
      writes = ended-writes es n s st w b f.1;
      untouched = ended-untouched es n s st w b f.1 (shut s.slots b.0 w) (cut_of w (get s.slots b.0)) set (cut-untouched w (get s.slots b.0));
      bodies = λ k. bodies-at s.slots (shut s.slots b.0 w) b.0 (cut_of w (get s.slots b.0)) set (cut-body w (get s.slots b.0)) k ∙ st.bodies k;
      filled = filled-at s.slots (shut s.slots b.0 w) b.0 (cut_of w (get s.slots b.0)) set (cut-filled w (get s.slots b.0)) st.filled;
      known = st.known;
      newest = st.newest;
    })

pub state-refused : (es : List Event) (n : ℕ → ℕ) (s : Store) (w : ℕ) → in_flight w es ≡ true → IsState es n s → IsState (Finish w false ∷ es) n (dropped s w)
state-refused es n s w fly st =
    let d = state-dropped es n s w fly st in
    record { next = d.next; writes = d.writes; untouched = d.untouched; bodies = d.bodies; filled = d.filled; known = d.known; newest = d.newest }

-- the slot of a write that stands exists
standing-slot : (o : Option Slot) (w : ℕ) → is_untouched_in w o ≡ true → (x : Slot) × (o ≡ Some x)
standing-slot None w h = absurd (cc)
standing-slot (Some x) w h = (x, refl)

pub open-standing : (es : List Event) (w : ℕ) (b : ℕ × Meta) → begin_of w es ≡ Some b → in_flight w es ≡ true → is_removed w es ≡ false → is_open b.0 w es ≡ true
open-standing es w b is fly kept = (λ i. option_any (λ (c : ℕ × Meta). c.0 == b.0) (is i) && (fly i && not (kept i))) ∙ ap (λ t. t && true) (same-number b.0)

pub state-finished : (es : List Event) (n : ℕ → ℕ) (s : Store) (w : ℕ) → IsTidy es → in_flight w es ≡ true → is_removed w es ≡ false → IsState es n s → IsState (Finish w true ∷ es) n (finished s w)
state-finished es n s w tidy fly kept st =
    let f = begun-flying w es fly in
    let b = f.0 in
    let c : Stored = record { meta = b.1; bytes = ev.body_of w es } in
    let g = standing-slot (get s.slots b.0) w (st.untouched b.0 w ∙ open-standing es w b f.1 fly kept) in
    let x = g.0 in
    let y : Slot = record { body = Some c; untouched = remove x.untouched w } in
    let set = get-set s.slots b.0 y in
    let ys : FinMap nat_cmp Slot = insert s.slots b.0 y in
    subst (λ o. IsState (Finish w true ∷ es) n (finished_on s w o)) (sym (record-flying es n s st w b fly f.1))
    (subst (λ o. IsState (Finish w true ∷ es) n (record { slots = stored_on s.slots b.0 w c o; writes = closed s.writes w (kept_as true (n w) (ev.body_of w es) (is_told w es) b); next = s.next; newest = s.newest })) (sym g.1) (record {
      next = st.next;
      writes = finished-writes es n s st w b f.1;
      untouched = λ k q. ended-untouched es n s st w b f.1 ys (Some y) set (λ q. gone-key x.untouched w q ∙ ap (λ o. cond (w == q) false (is_untouched_in q o)) (sym g.1)) k q ∙ finish-open es w k q;
      bodies = λ k. ap complete_body (set k)
          ∙ elim (b.0 == k) as (λ t. complete_body (cond t (Some y) (get s.slots k)) ≡ (if t then Some c else complete_body (get s.slots k))) [ true ↦ refl | false ↦ refl ]
          ∙ ap (λ o. if b.0 == k then Some c else o) (st.bodies k) ∙ sym (complete-finish es w b.0 b.1 tidy fly f.1 kept k);
      filled = filled-at s.slots ys b.0 (Some y) set (λ z e. let same : y ≡ z = cc in ap is_idle (sym same)) st.filled;
      known = st.known;
      newest = st.newest;
    }))

-- ---- the begin of a write

new-untouched : (o : Option Slot) (q : ℕ) → contains_key (slot_or_new o).untouched q ≡ is_untouched_in q o
new-untouched None q = ap is_some (get-empty nat_cmp q)
new-untouched (Some x) q = refl

new-body : (o : Option Slot) → (slot_or_new o).body ≡ complete_body o
new-body None = refl
new-body (Some x) = refl

module _ (es : List Event) (n : ℕ → ℕ) (s : Store) (k : ℕ) (m : Meta) (tidy : IsTidy es) (st : IsState es n s) where
  first-number : ev.begun es ≤ s.next
  first-number = let e = st.next in omega arith

  -- no reader reads a write that was not begun
  unread : n s.next ≡ 0
  unread = elim (cases_lt 0 (n s.next)) [ inl lt ↦ absurd (both_ways _ (ap is_some (tidy.unbegun s.next first-number)) (st.known s.next lt)) | inr le ↦ omega arith ]

  begun-writes : (q : ℕ) → get (insert s.writes s.next (new_write k (numbered s.next m))) q ≡ record_of q (n q) (Begin s.next k m ∷ es)
  begun-writes =
      let w = s.next in
      let t = same-number w in
      let live : has_ended w es ≡ false = tidy.not_ended w first-number in
      let none : ev.body_of w es ≡ [] = tidy.no_body w first-number in
      let still : is_told w es ≡ false = tidy.not_told w first-number in
      changed-at s.writes _ es (Begin w k m ∷ es) n n w (Some (new_write k (numbered s.next m))) (get-set s.writes w (new_write k (numbered s.next m))) st.writes
      (λ i. recorded (is_some (if sym t i then Some (k, numbered s.next m) else begin_of w es) && not (sym live i)) (sym unread i) (sym none i) (sym still i) (if sym t i then Some (k, numbered s.next m) else begin_of w es))
      (λ q f. rw f refl)

  -- a number that was not given is of no key
  new-closed : (j : ℕ) → is_open j s.next es ≡ false
  new-closed j = ap (λ o. option_any (λ (c : ℕ × Meta). c.0 == j) o && (in_flight s.next es && not (is_removed s.next es))) (tidy.unbegun s.next first-number)

  begun-open : (j q : ℕ) → is_open j q (Begin s.next k m ∷ es) ≡ (if s.next == q then k == j else is_open j q es)
  begun-open j q =
      elim (s.next == q) as (λ b. (s.next == q) ≡ b
      → (option_any (λ (c : ℕ × Meta). c.0 == j) (if b then Some (k, numbered s.next m) else begin_of q es)
      && ((is_some (if b then Some (k, numbered s.next m) else begin_of q es) && not (has_ended q es))
      && not (option_any (λ (c : ℕ × Meta). list_any (removes c.0 q) (if b then [] else Begin s.next k m ∷ since q es) || is_replaced c.0 q es) (if b then Some (k, numbered s.next m) else begin_of q es))))
      ≡ (if b then k == j else is_open j q es)) [
        | true ↦ λ t.
            let same : s.next ≡ q = eqb-true s.next q t in
            let live : has_ended q es ≡ false = tidy.not_ended q (let h = first-number in omega arith) in
            (λ i. (k == j) && (not (live i) && not (not-stored q es live i && not (option_eq nat_eq (last_finished k es) (Some q))))) ∙ last_true (k == j)
        | false ↦ λ _. refl
      ] refl
    where
      last_true : (a : Bool) → (a && true) ≡ a
      last_true true = refl
      last_true false = refl

  begun-untouched : (j q : ℕ) → is_untouched_in q (get (opened s.slots k s.next) j) ≡ is_open j q (Begin s.next k m ∷ es)
  begun-untouched j q =
      ap (is_untouched_in q) (get-set s.slots k (opened_in (slot_or_new (get s.slots k)) s.next) j)
      ∙ elim (k == j) as (λ b. (k == j) ≡ b → is_untouched_in q (cond b (Some (opened_in (slot_or_new (get s.slots k)) s.next)) (get s.slots j)) ≡ (if s.next == q then b else is_open j q es)) [
        | true ↦ λ t. new-key (slot_or_new (get s.slots k)).untouched s.next tt q ∙ ap (cond (s.next == q) true) (new-untouched (get s.slots k) q ∙ ap (λ x. is_untouched_in q (get s.slots x)) (eqb-true k j t) ∙ st.untouched j q)
        | false ↦ λ _. st.untouched j q ∙ elim (s.next == q) as (λ b. (s.next == q) ≡ b → is_open j q es ≡ (if b then false else is_open j q es)) [
          | true ↦ λ t. ap (λ x. is_open j x es) (sym (eqb-true s.next q t)) ∙ new-closed j
          | false ↦ λ _. refl
        ] refl
      ] refl
      ∙ sym (begun-open j q)

  pub state-begin : IsState (Begin s.next k m ∷ es) n (begun s k m)
  state-begin =
      let y : Slot = opened_in (slot_or_new (get s.slots k)) s.next in
      let set = get-set s.slots k y in
      let has : contains_key y.untouched s.next ≡ true = new-key (slot_or_new (get s.slots k)).untouched s.next tt s.next ∙ ap (λ b. cond b true (contains_key (slot_or_new (get s.slots k)).untouched s.next)) (same-number s.next) in
      record {
        next = ap (λ x. x + 1) st.next;
        writes = begun-writes;
        untouched = begun-untouched;
        bodies = λ j. bodies-at s.slots (opened s.slots k s.next) k (Some y) set (new-body (get s.slots k)) j ∙ st.bodies j ∙ sym (ap (λ x. complete j (Begin x k m ∷ es)) st.next ∙ complete-begin es k m tidy j);
        filled = filled-at s.slots (opened s.slots k s.next) k (Some y) set (λ z e. let same : y ≡ z = cc in ap is_idle (sym same) ∙ busy-key y s.next has) st.filled;
        known = λ q lt. elim (s.next == q) as (λ b. is_some (if b then Some (k, numbered s.next m) else begin_of q es) ≡ true) [ true ↦ refl | false ↦ st.known q lt ];
        newest = st.newest;
      }
