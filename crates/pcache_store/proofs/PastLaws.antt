-- The laws of a store that is what its past says.
use Rattle.std.proofs.Common.{is_some, drop}
use Rattle.std.specs.Option.{option_map}
use Rattle.pcache_base.specs.declared.poll.Poll.TheVariants.{Ready, Pending}
use Rattle.pcache_store.specs.Store.{Part, find, first_in, found_in, found_first, found_part, found_body, has_later_body, is_later, is_superseded, is_superseded_on, later_than, number_of_body, write_read, read_part}
use Rattle.pcache_store.specs.PastSays.{bytes_in, body_of}
use Rattle.pcache_store.specs.PastLaws.{HasUntouched, Finds, Finishes, PurgedIsGone, BodiesAreLast, NothingIsLost, IsOfItsWrite, FoundIsOfItsWrite, ReadsInOrder, BodiesGrow, BodiesGetNewer, CanBeFound, NewestStands}
use Rattle.pcache_store.specs.Greatest.{greatest}
use Rattle.pcache_store.proofs.Greatest.{greatest_last, greatest_none, greatest_there}
use Rattle.pcache_store.proofs.Past.{mode-led}
use Rattle.pcache_store.proofs.Words.{◌≡◌, ℕ, ◌<◌, ◌≤◌, ◌==◌, Bool, true, false, not, cond, ◌&&◌, ◌||◌, if◌then◌else◌, Option, None, Some, List, [], ◌∷◌, ◌++◌, length, take, refl, ap, sym, subst, ◌∙◌, arith, inl, inr, nat_lt, list_any, option_and_then, get, contains_key, eqb-true, nat_tests, take-append-drop, Meta, numbered, least_there, least_none, Store, Slot, Stored, Written, new_write, Reader, Whole, is_untouched, is_untouched_in, is_untouched_on, complete_body, Note, Began, Wrote, Finished, Dropped, Purged, WritePurged, MetaSet, Expired, Joined, Left, Leads, PastLeads, IsWhatPastSays, empty_from, option_any, after, begins, finishes, removes, longer, ended, closed_write, write_of, is_of, in_flight, is_removed, is_open, last_finished, write_finished, body_stored, complete, altered_by}
use Rattle.pcache_store.proofs.PastMaps.{same-number}
use Rattle.pcache_store.proofs.PastWrites.{uncounted, IsEnded, complete-some, stored-numbered, body_at, unless_removed, write-numbered}
use Rattle.pcache_store.proofs.PastStates.{IsState, flying, last-other, state-of, state-led, some-of}

-- what is known of a write, without a past
abbrev option_any_slot : ℕ → Option Written → Bool
option_any_slot k o = option_any (λ (r : Written). r.slot == k) o

abbrev may_grow_as : Option Written → Bool
may_grow_as o = option_any (λ (r : Written). r.flying && not r.told) o

some-same : (a b : ℕ) → Some a ≡ Some b → a ≡ b
some-same a b e = cc

-- an open write: of the key, in flight and not removed
open-parts : (a b c : Bool) → (a && (b && not c)) ≡ true → (a ≡ true) × (b ≡ true) × (c ≡ false)
open-parts true true false h = (refl, refl, refl)
open-parts true true true h = cc
open-parts true false c h = cc
open-parts false b c h = cc

opened : (a b c : Bool) → a ≡ true → b ≡ true → c ≡ false → (a && (b && not c)) ≡ true
opened true true false x y z = refl
opened true true true x y z = cc
opened true false c x y z = cc
opened false b c x y z = cc

module _ (s : Store) (past : List Note) (st : IsState past s) where
  -- what a slot has
  here-open : (k w : ℕ) (x : Slot) → get s.slots k ≡ Some x → contains_key x.untouched w ≡ true → is_open k w past ≡ true
  here-open k w x is h = sym (st.untouched k w) ∙ ap (is_untouched_in w) is ∙ h

  first-key : (newest : Bool) (x : Slot) (n : ℕ) → first_in newest x ≡ Some n → contains_key x.untouched n ≡ true
  first-key false x n e = least_there x.untouched n e
  first-key true x n e = inner (number_of_body x.body) (greatest x.untouched) refl e
    where
      inner : (i g : Option ℕ) → greatest x.untouched ≡ g → later_than i g ≡ Some n → contains_key x.untouched n ≡ true
      inner None None f e = cc
      inner None (Some q) f e = greatest_there x.untouched n (f ∙ e)
      inner (Some b) None f e = cc
      inner (Some b) (Some q) f e = by-test (nat_lt b q) e
        where
          by-test : (t : Bool) → cond t (Some q) None ≡ Some n → contains_key x.untouched n ≡ true
          by-test true e = greatest_there x.untouched n (f ∙ e)
          by-test false e = cc

  -- where no write in flight is found although there is one, a later body is complete
  first-none : (newest : Bool) (x : Slot) (n : ℕ) → first_in newest x ≡ None → contains_key x.untouched n ≡ true → is_some x.body ≡ true
  first-none false x n e h = let none = least_none x.untouched n e in let some : is_some (get x.untouched n) ≡ true = h in absurd (cc)
  first-none true x n e h = inner x.body (greatest x.untouched) refl e
    where
      inner : (b : Option Stored) (g : Option ℕ) → greatest x.untouched ≡ g → later_than (number_of_body b) g ≡ None → is_some b ≡ true
      inner (Some b) g f e = refl
      inner None None f e = let none = greatest_none x.untouched n f in let some : is_some (get x.untouched n) ≡ true = h in absurd (cc)
      inner None (Some q) f e = cc

  first-open : (k n : ℕ) (x : Slot) → get s.slots k ≡ Some x → first_in s.newest x ≡ Some n → is_open k n past ≡ true
  first-open k n x is e = here-open k n x is (first-key s.newest x n e)

  -- something is found where a slot has an open write or a body
  found-some : (k : ℕ) (x : Slot) → get s.slots k ≡ Some x → (o : Option ℕ) → first_in s.newest x ≡ o → (o ≡ None → is_some x.body ≡ true) → is_some (found_first s.writes o x.body) ≡ true
  found-some k x is None e h = inner x.body (h refl)
    where
      inner : (b : Option Stored) → is_some b ≡ true → is_some (found_body b) ≡ true
      inner None h = h
      inner (Some b) h = refl
  found-some k x is (Some n) e h = inner (get s.writes n) (st.flies k n (first-open k n x is e))
    where
      inner : (o : Option Written) → is_some o ≡ true → is_some (found_part n o) ≡ true
      inner None h = h
      inner (Some r) h = refl

  found : (k : ℕ) (x : Slot) → get s.slots k ≡ Some x → (first_in s.newest x ≡ None → is_some x.body ≡ true) → is_some (find s k) ≡ true
  found k x is h = ap (λ o. is_some (found_in s.newest s.writes o)) is ∙ found-some k x is (first_in s.newest x) refl h

  slot-of-open : (w : ℕ) (o : Option Slot) → is_untouched_in w o ≡ true → (x : Slot) × (o ≡ Some x) × (contains_key x.untouched w ≡ true)
  slot-of-open w None h = cc
  slot-of-open w (Some x) h = (x, refl, h)

  slot-of-body : (o : Option Slot) (b : Stored) → complete_body o ≡ Some b → (x : Slot) × (o ≡ Some x) × (x.body ≡ Some b)
  slot-of-body None b h = cc
  slot-of-body (Some x) b h = (x, refl, h)

  found-open : (k w : ℕ) → is_open k w past ≡ true → is_some (find s k) ≡ true
  found-open k w h =
      let x = slot-of-open w (get s.slots k) (st.untouched k w ∙ h) in
      found k x.0 x.1 (λ none. first-none s.newest x.0 w none x.2)

  found-whole : (k : ℕ) (b : Stored) → complete k past ≡ Some b → is_some (find s k) ≡ true
  found-whole k b is =
      let x = slot-of-body (get s.slots k) b (st.bodies k ∙ is) in
      found k x.0 x.1 (λ none. ap is_some x.2)

  -- the body of the write that was finished last
  last-body : (k w : ℕ) → last_finished k past ≡ Some w → is_removed k w past ≡ false → (r : Written) × (b : Stored) × (write_finished w past ≡ Some r) × (complete k past ≡ Some b) × (b.bytes ≡ r.bytes) × (b.meta.entry_id ≡ Some w)
  last-body k w last kept =
      let r = some-of (write_finished w past) (st.kept k w last) in
      let b : Stored = record { meta = altered_by k (after (finishes w) past) r.0.meta; bytes = r.0.bytes } in
      let stored : body_stored k w past ≡ Some b = ap (option_map (λ (x : Written). record { meta = altered_by k (after (finishes w) past) x.meta; bytes = x.bytes })) r.1 in
      let whole : complete k past ≡ Some b = ap (option_and_then (body_at k past)) last ∙ ap (λ c. unless_removed c (body_stored k w past)) kept ∙ stored in
      (r.0, b, r.1, whole, refl, stored-numbered k w past b stored)

  pub is-of-ended : (k : ℕ) (o : Option Written) → IsEnded k o → option_any_slot k o ≡ true
  is-of-ended k None h = absurd h
  is-of-ended k (Some r) h = ap (λ q. q == k) h.0 ∙ same-number k

  -- ---- finds
  finds-to : (k : ℕ) → is_some (find s k) ≡ true → HasUntouched k past
  finds-to k h = by-slot (get s.slots k) refl h
    where
      by-open : (n : ℕ) → is_open k n past ≡ true → HasUntouched k past
      by-open n h = let p = open-parts (is_of k n past) (in_flight n past) (is_removed k n past) h in (n, p.0, inl p.1, p.2)

      by-body : (x : Slot) (o : Option Stored) → get s.slots k ≡ Some x → x.body ≡ o → is_some (found_body o) ≡ true → HasUntouched k past
      by-body x None is e h = cc
      by-body x (Some b) is e h =
          let c = complete-some k past b (sym (st.bodies k) ∙ ap complete_body is ∙ e) in
          (c.0, is-of-ended k (write_of c.0 past) (st.last k c.0 c.1), inr c.1, c.2)

      by-first : (x : Slot) (o : Option ℕ) → get s.slots k ≡ Some x → first_in s.newest x ≡ o → is_some (found_first s.writes o x.body) ≡ true → HasUntouched k past
      by-first x None is e h = by-body x x.body is refl h
      by-first x (Some n) is e h = by-open n (first-open k n x is e)

      by-slot : (o : Option Slot) → get s.slots k ≡ o → is_some (found_in s.newest s.writes o) ≡ true → HasUntouched k past
      by-slot None is h = cc
      by-slot (Some x) is h = by-first x (first_in s.newest x) is refl h

  finds-from : (k : ℕ) → HasUntouched k past → is_some (find s k) ≡ true
  finds-from k (w, of, inl fly, kept) = found-open k w (opened (is_of k w past) (in_flight w past) (is_removed k w past) of fly kept)
  finds-from k (w, of, inr last, kept) = let b = last-body k w last kept in found-whole k b.1 b.3

  pub finds-exactly : Finds s past
  finds-exactly k = (finds-to k, finds-from k)

  -- ---- finishes
  slot-of : (k w : ℕ) (x : Written) → get s.writes w ≡ Some x → is_of k w past ≡ true → x.slot ≡ k
  slot-of k w x is of = eqb-true x.slot k (sym (ap (option_any_slot k) (st.records w x is)) ∙ of)

  pub untouched-open : (k w : ℕ) → is_of k w past ≡ true → is_untouched s w ≡ true → is_open k w past ≡ true
  untouched-open k w of h = inner (get s.writes w) refl h
    where
      inner : (o : Option Written) → get s.writes w ≡ o → is_untouched_on s w o ≡ true → is_open k w past ≡ true
      inner None is h = cc
      inner (Some x) is h = ap (λ j. is_open j w past) (sym (slot-of k w x is of)) ∙ sym (st.untouched x.slot w) ∙ h

  open-untouched : (k w : ℕ) → is_of k w past ≡ true → is_open k w past ≡ true → is_untouched s w ≡ true
  open-untouched k w of h =
      let x = some-of (get s.writes w) (st.flies k w h) in
      ap (is_untouched_on s w) x.1 ∙ st.untouched x.0.slot w ∙ ap (λ j. is_open j w past) (slot-of k w x.0 x.1 of) ∙ h

  pub finishes-exactly : Finishes s past
  finishes-exactly k w of fly = (
    (λ h. (open-parts (is_of k w past) (in_flight w past) (is_removed k w past) (untouched-open k w of h)).2),
    (λ kept. open-untouched k w of (opened (is_of k w past) (in_flight w past) (is_removed k w past) of fly kept)),
  )

  -- ---- bodies
  pub bodies-are-last : BodiesAreLast s past
  bodies-are-last = st.bodies

  pub nothing-is-lost : NothingIsLost s past
  nothing-is-lost k w last kept =
      let b = last-body k w last kept in
      (b.1, st.bodies k ∙ b.3, b.5, sym (ap (option_map (λ (r : Written). r.bytes)) b.2 ∙ ap Some (sym b.4)), found-whole k b.1 b.3)

  -- ---- what is found
  found-is : (k : ℕ) (m : Meta) (r : Reader) → find s k ≡ Some (m, r) → IsOfItsWrite k past m r
  found-is k m r h = by-slot (get s.slots k) refl h
    where
      part : (n : ℕ) (x : Slot) (o : Option Written) → get s.slots k ≡ Some x → first_in s.newest x ≡ Some n → get s.writes n ≡ o → found_part n o ≡ Some (m, r) → IsOfItsWrite k past m r
      part n x None is e g h = cc
      part n x (Some w) is e g h =
          let same : (w.meta, Part n 0) ≡ (m, r) = cc in
          let says : write_of n past ≡ Some (uncounted w) = st.records n w g in
          let this : IsOfItsWrite k past w.meta (Part n 0) = (refl, first-open k n x is e, ap (option_map (λ (z : Written). z.meta)) says, write-numbered n past (uncounted w) says) in
          subst (λ (p : Meta × Reader). IsOfItsWrite k past p.0 p.1) same this

      whole : (x : Slot) (o : Option Stored) → get s.slots k ≡ Some x → x.body ≡ o → found_body o ≡ Some (m, r) → IsOfItsWrite k past m r
      whole x None is e h = cc
      whole x (Some b) is e h =
          let same : (b.meta, Whole b.meta.entry_id b.bytes 0 (length b.bytes) false) ≡ (m, r) = cc in
          let complete-is : complete k past ≡ Some b = sym (st.bodies k) ∙ ap complete_body is ∙ e in
          let c = complete-some k past b complete-is in
          let n = stored-numbered k c.0 past b c.3 in
          let this : IsOfItsWrite k past b.meta (Whole b.meta.entry_id b.bytes 0 (length b.bytes) false) = (c.0, c.1, n, n, complete-is, (refl, refl)) in
          subst (λ (p : Meta × Reader). IsOfItsWrite k past p.0 p.1) same this

      by-first : (x : Slot) (o : Option ℕ) → get s.slots k ≡ Some x → first_in s.newest x ≡ o → found_first s.writes o x.body ≡ Some (m, r) → IsOfItsWrite k past m r
      by-first x None is e h = whole x x.body is refl h
      by-first x (Some n) is e h = part n x (get s.writes n) is e refl h

      by-slot : (o : Option Slot) → get s.slots k ≡ o → found_in s.newest s.writes o ≡ Some (m, r) → IsOfItsWrite k past m r
      by-slot None is h = cc
      by-slot (Some x) is h = by-first x (first_in s.newest x) is refl h

  pub found-is-of-its-write : FoundIsOfItsWrite s past
  found-is-of-its-write = found-is

  -- ---- what is newest
  -- the number of a complete body's write
  body-number : (k v : ℕ) (x : Slot) → get s.slots k ≡ Some x → last_finished k past ≡ Some v → is_removed k v past ≡ false → number_of_body x.body ≡ Some v
  body-number k v x is last kept =
      let b = last-body k v last kept in
      let there : x.body ≡ Some b.1 = sym (ap complete_body is) ∙ st.bodies k ∙ b.3 in
      ap number_of_body there ∙ b.5

  -- an open write is among the numbers of its key
  open-key : (k v : ℕ) (x : Slot) → get s.slots k ≡ Some x → is_open k v past ≡ true → contains_key x.untouched v ≡ true
  open-key k v x is h = sym (ap (is_untouched_in v) is) ∙ st.untouched k v ∙ h

  -- no number is above the greatest
  not-above : (x : Slot) (g v : ℕ) → greatest x.untouched ≡ Some g → contains_key x.untouched v ≡ true → v ≤ g
  not-above x g v e h = inner (nat_lt g v) refl
    where
      inner : (b : Bool) → nat_lt g v ≡ b → v ≤ g
      inner true t =
          let none = greatest_last x.untouched g v e (grind (arith, nat_tests, t)) in
          let some : is_some (get x.untouched v) ≡ true = h in
          absurd (cc)
      inner false t = grind (arith, nat_tests, t)

  newest-found : (k w v : ℕ) (m : Meta) (r : Reader) → s.newest ≡ true → find s k ≡ Some (m, r) → write_read r ≡ Some w → CanBeFound k v past → v ≤ w
  newest-found k w v m r mode h reads can = by-slot (get s.slots k) refl (sym (ap (λ b. found_in b s.writes (get s.slots k)) mode) ∙ h) can
    where
      -- a write in flight is found: it is the greatest, and later than the complete body
      part : (n : ℕ) (o : Option Written) → found_part n o ≡ Some (m, r) → n ≡ w
      part n None e = cc
      part n (Some y) e =
          let same : (y.meta, Part n 0) ≡ (m, r) = cc in
          some-same n w (subst (λ (p : Meta × Reader). write_read p.1 ≡ Some w) (sym same) reads)

      -- the complete body is found
      whole : (o : Option Stored) → found_body o ≡ Some (m, r) → number_of_body o ≡ Some w
      whole None e = cc
      whole (Some b) e =
          let same : (b.meta, Whole b.meta.entry_id b.bytes 0 (length b.bytes) false) ≡ (m, r) = cc in
          subst (λ (p : Meta × Reader). write_read p.1 ≡ Some w) (sym same) reads

      none-open : (x : Slot) → greatest x.untouched ≡ None → contains_key x.untouched v ≡ true → ⊥
      none-open x e h = let none = greatest_none x.untouched v e in let some : is_some (get x.untouched v) ≡ true = h in cc

      -- by the number of the complete body's write, and the greatest number in flight
      by-both : (x : Slot) (i g : Option ℕ) → get s.slots k ≡ Some x → number_of_body x.body ≡ i → greatest x.untouched ≡ g → found_first s.writes (later_than i g) x.body ≡ Some (m, r) → CanBeFound k v past → v ≤ w
      by-both x i None is e f h (inl o) = absurd (none-open x f (open-key k v x is o))
      by-both x None None is e f h (inr (last, kept)) = let a = body-number k v x is last kept in absurd (cc)
      by-both x (Some b) None is e f h (inr (last, kept)) =
          let a = body-number k v x is last kept in
          let c = whole x.body h in
          let same : v ≡ w = cc in
          omega (arith, same)
      by-both x None (Some g) is e f h (inl o) = let same = part g (get s.writes g) h in omega (arith, same, not-above x g v f (open-key k v x is o))
      by-both x None (Some g) is e f h (inr (last, kept)) = let a = body-number k v x is last kept in absurd (cc)
      by-both x (Some b) (Some g) is e f h can = by-test (nat_lt b g) refl h can
        where
          by-test : (t : Bool) → nat_lt b g ≡ t → found_first s.writes (cond t (Some g) None) x.body ≡ Some (m, r) → CanBeFound k v past → v ≤ w
          by-test true t h (inl o) = let same = part g (get s.writes g) h in omega (arith, same, not-above x g v f (open-key k v x is o))
          by-test true t h (inr (last, kept)) =
              let a = body-number k v x is last kept in
              let same = part g (get s.writes g) h in
              let is-v : b ≡ v = cc in
              let lt : b < g = grind (arith, nat_tests, t) in
              omega (arith, same, is-v, lt)
          by-test false t h (inl o) =
              let c = whole x.body h in
              let is-w : b ≡ w = cc in
              let up : g ≤ b = grind (arith, nat_tests, t) in
              omega (arith, is-w, up, not-above x g v f (open-key k v x is o))
          by-test false t h (inr (last, kept)) =
              let a = body-number k v x is last kept in
              let c = whole x.body h in
              let same : v ≡ w = cc in
              omega (arith, same)

      by-slot : (o : Option Slot) → get s.slots k ≡ o → found_in true s.writes o ≡ Some (m, r) → CanBeFound k v past → v ≤ w
      by-slot None is h can = cc
      by-slot (Some x) is h can = by-both x (number_of_body x.body) (greatest x.untouched) is refl refl h can

  pub newest-stands : s.newest ≡ true → NewestStands s past
  newest-stands mode k w v m r h reads can = newest-found k w v m r mode h reads can

  -- the end of a write that is not superseded comes after that of an older one
  ends-newer : (k v w : ℕ) (b : Stored) → s.newest ≡ true → is_untouched s w ≡ true → is_superseded s w ≡ false → is_of k w past ≡ true → complete k past ≡ Some b → b.meta.entry_id ≡ Some v → v < w
  ends-newer k v w b mode h not-late of whole id =
      let x = some-of (get s.writes w) (st.flies k w (untouched-open k w of h)) in
      let slot-is = slot-of k w x.0 x.1 of in
      let number : number_of_body (complete_body (get s.slots x.0.slot)) ≡ Some v = ap (λ j. number_of_body (complete_body (get s.slots j))) slot-is ∙ ap number_of_body (st.bodies k ∙ whole) ∙ id in
      let late : is_superseded s w ≡ nat_lt w v = ap (is_superseded_on s w) x.1 ∙ ap (λ c. c && has_later_body w (get s.slots x.0.slot)) mode ∙ ap (is_later w) number in
      let c = complete-some k past b whole in
      let n : Some c.0 ≡ Some v = sym (stored-numbered k c.0 past b c.3) ∙ id in
      let same : c.0 ≡ v = cc in
      let last : last_finished k past ≡ Some v = c.1 ∙ n in
      let fly = flying past s st k w x.0 (untouched-open k w of h) x.1 in
      let off : (w == v) ≡ false = last-other past s st w k v x.0 x.1 fly last in
      let test : nat_lt w v ≡ false = sym late ∙ not-late in
      grind (arith, nat_tests, off, test)

  -- ---- reads
  reads-one : (w place : ℕ) (x : Written) → get s.writes w ≡ Some x
      → ((piece : List ℕ) → read_part place (Some x) ≡ Ready (Some piece) → take place x.bytes ++ piece ≡ x.bytes)
      × (read_part place (Some x) ≡ Ready None → (length x.bytes ≤ place) × ((x.flying && not x.told) ≡ false))
  reads-one w place x is = (piece-is (nat_lt place (length x.bytes)) (x.flying && not x.told), end-is (nat_lt place (length x.bytes)) (x.flying && not x.told) refl refl)
    where
      piece-is : (a b : Bool) (piece : List ℕ) → cond a (Ready (Some (drop place x.bytes))) (cond b Pending (Ready None)) ≡ Ready (Some piece) → take place x.bytes ++ piece ≡ x.bytes
      piece-is true b piece h = let same : drop place x.bytes ≡ piece = cc in ap (λ z. take place x.bytes ++ z) (sym same) ∙ take-append-drop place x.bytes
      piece-is false true piece h = cc
      piece-is false false piece h = cc

      end-is : (a b : Bool) → nat_lt place (length x.bytes) ≡ a → (x.flying && not x.told) ≡ b → cond a (Ready (Some (drop place x.bytes))) (cond b Pending (Ready None)) ≡ Ready None → (length x.bytes ≤ place) × ((x.flying && not x.told) ≡ false)
      end-is true b e g h = cc
      end-is false true e g h = cc
      end-is false false e g h = (grind (arith, nat_tests, e), g)

  pub reads-in-order : ReadsInOrder s past
  reads-in-order w place there =
      let x = some-of (get s.writes w) there in
      let says = st.records w x.0 x.1 in
      let one = reads-one w place x.0 x.1 in (
        (λ piece h. subst (λ (body : List ℕ). take place body ++ piece ≡ body) (sym (ap bytes_in says)) (one.0 piece (sym (ap (read_part place) x.1) ∙ h))),
        (λ h. let e = one.1 (sym (ap (read_part place) x.1) ∙ h) in
            (subst (λ (body : List ℕ). length body ≤ place) (sym (ap bytes_in says)) e.0, ap may_grow_as says ∙ e.1)),
      )

-- ---- purges

-- a write that began before a removal of its key stays removed, and is not finished any more
gone : (later earlier : List Note) (k w start : ℕ) (newest : Bool) (t : Store) → PastLeads (later ++ Purged k ∷ earlier) (empty_from start newest) t → is_of k w earlier ≡ true
    → (is_of k w (later ++ Purged k ∷ earlier) ≡ true) × (is_removed k w (later ++ Purged k ∷ earlier) ≡ true) × (list_any (finishes w) later ≡ false)
gone [] earlier k w start newest t led of = (of, ap (λ b. b || list_any (removes k w) (after (begins w) earlier)) (same-number k), refl)
gone (note ∷ later) earlier k w start newest t led of =
    let rest = later ++ Purged k ∷ earlier in
    let before = gone later earlier k w start newest led.0 led.1.0 of in
    step note rest later led.0 t (state-led rest start newest led.0 led.1.0) led.1.1 before.0 before.1 before.2
  where
    or-true : (a b : Bool) → b ≡ true → (a || b) ≡ true
    or-true true b h = refl
    or-true false b h = h

    of-mapped : (b : Bool) (f : Written → Written) (o : Option Written) → ((r : Written) → (f r).slot ≡ r.slot) → option_any_slot k o ≡ true → option_any_slot k (if b then option_map f o else o) ≡ true
    of-mapped true f None same h = h
    of-mapped true f (Some r) same h = ap (λ q. q == k) (same r) ∙ h
    of-mapped false f o same h = h

    step : (note : Note) (rest later : List Note) (m u : Store) → IsState rest m → Leads note m u → is_of k w rest ≡ true → is_removed k w rest ≡ true → list_any (finishes w) later ≡ false
        → (is_of k w (note ∷ rest) ≡ true) × (is_removed k w (note ∷ rest) ≡ true) × (list_any (finishes w) (note ∷ later) ≡ false)
    step (Began q n c) rest later m u st h of gone none = inner (n == w) refl
      where
        inner : (b : Bool) → (n == w) ≡ b → (is_of k w (Began q n c ∷ rest) ≡ true) × (is_removed k w (Began q n c ∷ rest) ≡ true) × (list_any (finishes w) later ≡ false)
        inner true t =
            let fresh : write_of w rest ≡ None = ap (λ z. write_of z rest) (sym (eqb-true n w t)) ∙ ap (λ z. write_of z rest) h.0 ∙ st.fresh m.next (omega arith) in
            let a = ap (option_any_slot k) fresh in
            cc
        inner false t = (
          ap (λ (b : Bool). option_any_slot k (if b then Some (new_write q (numbered n c)) else write_of w rest)) t ∙ of,
          ap (λ (b : Bool). list_any (removes k w) (if b then [] else Began q n c ∷ after (begins w) rest)) t ∙ gone,
          none,
        )
    step (Wrote n bytes eof) rest later m u st h of gone none = (of-mapped (n == w) (longer bytes eof) (write_of w rest) (λ r. refl) of, gone, none)
    step (Finished n) rest later m u st h of gone none = (of-mapped (n == w) closed_write (write_of w rest) (λ r. refl) of, gone, inner (n == w) refl)
      where
        inner : (b : Bool) → (n == w) ≡ b → (b || list_any (finishes w) later) ≡ false
        inner true t =
            let whole = untouched-open m rest st k w of (ap (is_untouched m) (sym (eqb-true n w t)) ∙ h.0) in
            let kept = (open-parts (is_of k w rest) (in_flight w rest) (is_removed k w rest) whole).2 in
            cc
        inner false t = none
    step (Dropped n) rest later m u st h of gone none = (of-mapped (n == w) ended (write_of w rest) (λ r. refl) of, gone, none)
    step (Purged q) rest later m u st h of gone none = (of, or-true (q == k) (is_removed k w rest) gone, none)
    step (WritePurged q n) rest later m u st h of gone none = (of, or-true ((q == k) && (n == w)) (is_removed k w rest) gone, none)
    step (MetaSet q c) rest later m u st h of gone none = (of, gone, none)
    step (Expired q now) rest later m u st h of gone none = (of, gone, none)
    step (Joined n) rest later m u st h of gone none = (of, gone, none)
    step (Left n) rest later m u st h of gone none = (of, gone, none)

pub purged-is-gone : (s : Store) (past : List Note) → IsWhatPastSays s past → PurgedIsGone s past
purged-is-gone s past is k w later earlier e of =
    let led = subst (λ p. PastLeads p (empty_from is.0 s.newest) s) e is.1 in
    let g = gone later earlier k w is.0 s.newest s led of in
    let removed : is_removed k w past ≡ true = ap (is_removed k w) e ∙ g.1 in
    let of-past : is_of k w past ≡ true = ap (is_of k w) e ∙ g.0 in
    let st = state-of s past is in
    ((λ m r h reads. unfound m r removed (found-is s past st k m r h) reads), untouched-not st removed of-past (is_untouched s w) refl, g.2)
  where
    unfound : (m : Meta) (r : Reader) → is_removed k w past ≡ true → IsOfItsWrite k past m r → write_read r ≡ Some w → ⊥
    unfound m (Part n place) removed h reads =
        let same : n ≡ w = cc in
        let kept = (open-parts (is_of k n past) (in_flight n past) (is_removed k n past) h.1).2 in
        let kept-w : is_removed k w past ≡ false = ap (λ z. is_removed k z past) (sym same) ∙ kept in
        cc
    unfound m (Whole id body start stop done) removed h reads =
        let c = complete-some k past (record { meta = m; bytes = body }) h.4 in
        let e : Some h.0 ≡ Some w = sym h.2 ∙ reads in
        let f : Some c.0 ≡ Some h.0 = sym c.1 ∙ h.1 in
        let same : c.0 ≡ w = cc in
        let kept-w : is_removed k w past ≡ false = ap (λ z. is_removed k z past) (sym same) ∙ c.2 in
        cc

    untouched-not : IsState past s → is_removed k w past ≡ true → is_of k w past ≡ true → (b : Bool) → is_untouched s w ≡ b → b ≡ false
    untouched-not st removed of true h =
        let kept = (open-parts (is_of k w past) (in_flight w past) (is_removed k w past) (untouched-open s past st k w of h)).2 in
        cc
    untouched-not st removed of false h = refl

-- ---- bodies grow

append-none : (xs : List ℕ) → xs ++ [] ≡ xs
append-none [] = refl
append-none (x ∷ xs) = ap (λ ys. x ∷ ys) (append-none xs)

append-assoc : (xs ys zs : List ℕ) → (xs ++ ys) ++ zs ≡ xs ++ (ys ++ zs)
append-assoc [] ys zs = refl
append-assoc (x ∷ xs) ys zs = ap (λ us. x ∷ us) (append-assoc xs ys zs)

-- the second is some write, and has the bytes of the first and more
abbrev Grows : Option Written → Option Written → Type 0
Grows o p = (is_some p ≡ true) × ((more : List ℕ) × (bytes_in p ≡ bytes_in o ++ more))

grown : (later earlier : List Note) (w start : ℕ) (newest : Bool) (t : Store) → PastLeads (later ++ earlier) (empty_from start newest) t → is_some (write_of w earlier) ≡ true
    → (is_some (write_of w (later ++ earlier)) ≡ true) × ((more : List ℕ) × (body_of w (later ++ earlier) ≡ body_of w earlier ++ more))
grown [] earlier w start newest t led is = (is, ([], sym (append-none (body_of w earlier))))
grown (note ∷ later) earlier w start newest t led is =
    let sofar = grown later earlier w start newest led.0 led.1.0 is in
    let one = step note (later ++ earlier) led.0 t (state-led (later ++ earlier) start newest led.0 led.1.0) led.1.1 sofar.0 in
    (one.0, (sofar.1.0 ++ one.1.0, one.1.1 ∙ ap (λ b. b ++ one.1.0) sofar.1.1 ∙ append-assoc (body_of w earlier) sofar.1.0 one.1.0))
  where
    same : (o : Option Written) → is_some o ≡ true → Grows o o
    same o is = (is, ([], sym (append-none (bytes_in o))))

    mapped : (b : Bool) (f : Written → Written) (more : List ℕ) (o : Option Written) → ((r : Written) → (f r).bytes ≡ r.bytes ++ more) → is_some o ≡ true → Grows o (if b then option_map f o else o)
    mapped true f more None adds is = absurd (cc)
    mapped true f more (Some r) adds is = (refl, (more, adds r))
    mapped false f more o adds is = same o is

    step : (note : Note) (rest : List Note) (m u : Store) → IsState rest m → Leads note m u → is_some (write_of w rest) ≡ true → Grows (write_of w rest) (write_of w (note ∷ rest))
    step (Began q n c) rest m u st h is = inner (n == w) refl
      where
        inner : (b : Bool) → (n == w) ≡ b → Grows (write_of w rest) (if b then Some (new_write q (numbered n c)) else write_of w rest)
        inner true t =
            let fresh : write_of w rest ≡ None = ap (λ z. write_of z rest) (sym (eqb-true n w t)) ∙ ap (λ z. write_of z rest) h.0 ∙ st.fresh m.next (omega arith) in
            let a : is_some (write_of w rest) ≡ false = ap is_some fresh in
            absurd (cc)
        inner false t = same (write_of w rest) is
    step (Wrote n bytes eof) rest m u st h is = mapped (n == w) (longer bytes eof) bytes (write_of w rest) (λ r. refl) is
    step (Finished n) rest m u st h is = mapped (n == w) closed_write [] (write_of w rest) (λ r. sym (append-none r.bytes)) is
    step (Dropped n) rest m u st h is = mapped (n == w) ended [] (write_of w rest) (λ r. sym (append-none r.bytes)) is
    step (Purged q) rest m u st h is = same (write_of w rest) is
    step (WritePurged q n) rest m u st h is = same (write_of w rest) is
    step (MetaSet q c) rest m u st h is = same (write_of w rest) is
    step (Expired q now) rest m u st h is = same (write_of w rest) is
    step (Joined n) rest m u st h is = same (write_of w rest) is
    step (Left n) rest m u st h is = same (write_of w rest) is

pub bodies-grow : (s : Store) (past : List Note) → IsWhatPastSays s past → BodiesGrow s past
bodies-grow s past is w later earlier e there =
    let g = grown later earlier w is.0 s.newest s (subst (λ p. PastLeads p (empty_from is.0 s.newest) s) e is.1) there in
    (g.1.0, ap (body_of w) e ∙ g.1.1)

-- ---- bodies get newer

newer : (later earlier : List Note) (k v w start : ℕ) (b : Stored) (t : Store) → PastLeads (later ++ Finished w ∷ earlier) (empty_from start true) t → is_of k w earlier ≡ true
    → complete k earlier ≡ Some b → b.meta.entry_id ≡ Some v → v < w
newer [] earlier k v w start b t led of whole id =
    let st = state-led earlier start true led.0 led.1.0 in
    ends-newer led.0 earlier st k v w b (mode-led earlier start true led.0 led.1.0) led.1.1.0 led.1.1.1 of whole id
newer (note ∷ later) earlier k v w start b t led of whole id = newer later earlier k v w start b led.0 led.1.0 of whole id

pub bodies-get-newer : (s : Store) (past : List Note) → IsWhatPastSays s past → s.newest ≡ true → BodiesGetNewer past
bodies-get-newer s past is mode k v w b later earlier e of whole id =
    let led = subst (λ p. PastLeads p (empty_from is.0 s.newest) s) e is.1 in
    newer later earlier k v w is.0 b s (subst (λ n. PastLeads (later ++ Finished w ∷ earlier) (empty_from is.0 n) s) mode led) of whole id
