-- A store that is what its past says: its records, its slots and its bodies, read off the past.
use Rattle.std.proofs.Common.{is_some}
use Rattle.std.specs.Option.{option_map}
use Rattle.pcache_meta.specs.Meta.{expired_at}
use Rattle.pcache_store.specs.Store.{joined, Part, wrote, closed, dropped, finished, purged, write_purged, meta_changed, meta_set}
use Rattle.pcache_store.proofs.Words.{◌≡◌, ℕ, ◌+◌, ◌-◌, ◌≤◌, ◌==◌, Bool, true, false, cond, ◌&&◌, ◌||◌, if◌then◌else◌, Option, None, Some, List, [], ◌∷◌, refl, ap, sym, subst, ◌∙◌, arith, nat_lt, option_and_then, nat_cmp, FinMap, get, insert, remove, get-empty, eqb-true, nat_tests, Meta, in_place_of, numbered, Store, Slot, Stored, Written, is_named, followed_on, left_on, left, slot_or_new, opened_in, opened, new_write, begun, wrote_on, is_untouched_in, is_untouched_on, is_untouched, grounded, shut, dropped_on, stored_on, finished_on, body_without, complete_body, with_meta, meta_changed_in, meta_changed_on, Note, Began, Wrote, Finished, Dropped, Purged, WritePurged, MetaSet, Expired, Joined, Left, Leads, PastLeads, IsWhatPastSays, empty_from, option_any, after, before, finishes, longer, ended, closed_write, altered_by, write_of, is_of, is_removed, is_open, last_finished, write_finished, body_stored, complete}
use Rattle.pcache_store.proofs.PastMaps.{same-number, get-set, get-unset, get-kept, cut_of, get-shut, gone-key, new-key, cut-untouched, cut-body, bodies-at, new-untouched, new-body, lost_of, get-lost, lost-untouched, lost-body}
use Rattle.pcache_store.proofs.PastWrites.{uncounted, IsEnded, opens-some, opens-none, open-wrote, open-dropped, open-finished, open-purged, open-write_purged, open-began, remade, complete-began, complete-purged, complete-write_purged, complete-altered, body_at, unless_removed, under}

pub record IsState (past : List Note) (s : Store) : Type 0 where
  pub fresh : (w : ℕ) → s.next ≤ w → write_of w past ≡ None
  pub records : (w : ℕ) (r : Written) → get s.writes w ≡ Some r → write_of w past ≡ Some (uncounted r)
  pub untouched : (k w : ℕ) → is_untouched_in w (get s.slots k) ≡ is_open k w past
  pub flies : (k w : ℕ) → is_open k w past ≡ true → is_some (get s.writes w) ≡ true
  pub last : (k w : ℕ) → last_finished k past ≡ Some w → IsEnded k (write_of w past)
  pub kept : (k w : ℕ) → last_finished k past ≡ Some w → is_some (write_finished w past) ≡ true
  pub bodies : (k : ℕ) → complete_body (get s.slots k) ≡ complete k past

pub some-of : {A : Type 0} (o : Option A) → is_some o ≡ true → (x : A) × (o ≡ Some x)
some-of None h = cc
some-of (Some x) h = (x, refl)

-- what holds of one record that was set and of all others holds of all
at-one : (vs ws : FinMap nat_cmp Written) (n : ℕ) (o : Option Written) (w : ℕ) (r : Written) (P : Type 0) → get vs w ≡ cond (n == w) o (get ws w) → get vs w ≡ Some r
    → ((n == w) ≡ true → o ≡ Some r → P) → ((n == w) ≡ false → get ws w ≡ Some r → P) → P
at-one vs ws n o w r P set is here there = inner (n == w) refl (sym set ∙ is)
  where
    inner : (b : Bool) → (n == w) ≡ b → cond b o (get ws w) ≡ Some r → P
    inner true t e = here t e
    inner false t e = there t e

some-one : (vs ws : FinMap nat_cmp Written) (n : ℕ) (o : Option Written) (w : ℕ) → get vs w ≡ cond (n == w) o (get ws w) → ((n == w) ≡ true → is_some o ≡ true) → ((n == w) ≡ false → is_some (get ws w) ≡ true) → is_some (get vs w) ≡ true
some-one vs ws n o w set here there = ap is_some set ∙ inner (n == w) refl
  where
    inner : (b : Bool) → (n == w) ≡ b → is_some (cond b o (get ws w)) ≡ true
    inner true t = here t
    inner false t = there t

pub state-none : (start : ℕ) (newest : Bool) → IsState [] (empty_from start newest)
state-none start newest = record {
  fresh = λ w le. refl;
  records = λ w r is. let e : get (empty_from start newest).writes w ≡ None = get-empty nat_cmp w in cc;
  untouched = λ k w. ap (is_untouched_in w) (get-empty nat_cmp k);
  flies = λ k w h. cc;
  last = λ k w h. cc;
  kept = λ k w h. cc;
  bodies = λ k. ap complete_body (get-empty nat_cmp k);
}

module _ (past : List Note) (s : Store) (st : IsState past s) where
  -- a record, by the number that it was looked for
  here : (n w : ℕ) (x : Written) → get s.writes n ≡ Some x → (n == w) ≡ true → write_of w past ≡ Some (uncounted x)
  here n w x is t = ap (λ q. write_of q past) (sym (eqb-true n w t)) ∙ st.records n x is

  -- an open write has a record in flight
  pub flying : (k w : ℕ) (x : Written) → is_open k w past ≡ true → get s.writes w ≡ Some x → x.flying ≡ true
  flying k w x h is =
      let o = opens-some k (is_removed k w past) (write_of w past) h in
      let e : Some (uncounted x) ≡ Some o.0 = sym (st.records w x is) ∙ o.1 in
      let same : uncounted x ≡ o.0 = cc in
      ap (λ (y : Written). y.flying) same ∙ o.3

  -- a write without a record is not open
  not-open : (k n : ℕ) → get s.writes n ≡ None → is_open k n past ≡ false
  not-open k n none = inner (is_open k n past) refl
    where
      inner : (b : Bool) → is_open k n past ≡ b → b ≡ false
      inner true h = let a = st.flies k n h in cc
      inner false h = refl

  -- One reader more or less.

  joined-records : (n : ℕ) (o : Option Written) → get s.writes n ≡ o → (w : ℕ) (r : Written) → get (followed_on s.writes n o) w ≡ Some r → write_of w past ≡ Some (uncounted r)
  joined-records n None e w r is = st.records w r is
  joined-records n (Some x) e w r is =
      at-one (followed_on s.writes n (Some x)) s.writes n (Some (record x { readers = x.readers + 1 })) w r (write_of w past ≡ Some (uncounted r))
      (get-set s.writes n (record x { readers = x.readers + 1 }) w) is
      (λ t same. let q : record x { readers = x.readers + 1 } ≡ r = cc in here n w x e t ∙ ap (λ y. Some (uncounted y)) q)
      (λ t there. st.records w r there)

  joined-flies : (n : ℕ) (o : Option Written) → get s.writes n ≡ o → (k w : ℕ) → is_open k w past ≡ true → is_some (get (followed_on s.writes n o) w) ≡ true
  joined-flies n None e k w h = st.flies k w h
  joined-flies n (Some x) e k w h =
      some-one (followed_on s.writes n (Some x)) s.writes n (Some (record x { readers = x.readers + 1 })) w (get-set s.writes n (record x { readers = x.readers + 1 }) w)
      (λ t. refl) (λ t. st.flies k w h)

  pub state-joined : (n : ℕ) → IsState (Joined n ∷ past) (joined s n)
  state-joined n = record {
    fresh = st.fresh;
    records = joined-records n (get s.writes n) refl;
    untouched = st.untouched;
    flies = joined-flies n (get s.writes n) refl;
    last = st.last;
    kept = st.kept;
    bodies = st.bodies;
  }

  named-only : (x r : Written) → cond (is_named x) (Some x) None ≡ Some r → x ≡ r
  named-only x r e = inner (is_named x) e
    where
      inner : (b : Bool) → cond b (Some x) None ≡ Some r → x ≡ r
      inner true e = cc
      inner false e = cc

  left-records : (n : ℕ) (o : Option Written) → get s.writes n ≡ o → (w : ℕ) (r : Written) → get (left_on s.writes n o) w ≡ Some r → write_of w past ≡ Some (uncounted r)
  left-records n None e w r is = st.records w r is
  left-records n (Some x) e w r is =
      let y : Written = record x { readers = x.readers - 1 } in
      at-one (left_on s.writes n (Some x)) s.writes n (cond (is_named y) (Some y) None) w r (write_of w past ≡ Some (uncounted r))
      (get-kept s.writes n y w) is
      (λ t same. here n w x e t ∙ ap (λ z. Some (uncounted z)) (named-only y r same))
      (λ t there. st.records w r there)

  left-flies : (n : ℕ) (o : Option Written) → get s.writes n ≡ o → (k w : ℕ) → is_open k w past ≡ true → is_some (get (left_on s.writes n o) w) ≡ true
  left-flies n None e k w h = st.flies k w h
  left-flies n (Some x) e k w h =
      let y : Written = record x { readers = x.readers - 1 } in
      some-one (left_on s.writes n (Some x)) s.writes n (cond (is_named y) (Some y) None) w (get-kept s.writes n y w)
      (λ t.
      let fly : x.flying ≡ true = flying k w x h (ap (get s.writes) (sym (eqb-true n w t)) ∙ e) in
      ap (λ f. is_some (cond (f || nat_lt 0 (x.readers - 1)) (Some y) None)) fly)
      (λ t. st.flies k w h)

  pub state-left : (n : ℕ) → IsState (Left n ∷ past) (left s (Part n 0))
  state-left n = record {
    fresh = st.fresh;
    records = left-records n (get s.writes n) refl;
    untouched = st.untouched;
    flies = left-flies n (get s.writes n) refl;
    last = st.last;
    kept = st.kept;
    bodies = st.bodies;
  }

  -- More bytes.

  module _ (n : ℕ) (f : Written → Written) where
    abbrev pub says : ℕ → Option Written
    says w = if n == w then option_map f (write_of w past) else write_of w past

    fresh-mapped : (w : ℕ) → write_of w past ≡ None → says w ≡ None
    fresh-mapped w e = inner (n == w)
      where
        inner : (b : Bool) → (if b then option_map f (write_of w past) else write_of w past) ≡ None
        inner true = ap (option_map f) e
        inner false = e

    mapped-here : (w : ℕ) (x : Written) → get s.writes n ≡ Some x → (n == w) ≡ true → says w ≡ Some (f (uncounted x))
    mapped-here w x is t = ap (λ b. if b then option_map f (write_of w past) else write_of w past) t ∙ ap (option_map f) (here n w x is t)

    mapped-there : (w : ℕ) (r : Written) → (n == w) ≡ false → get s.writes w ≡ Some r → says w ≡ Some (uncounted r)
    mapped-there w r t is = ap (λ b. if b then option_map f (write_of w past) else write_of w past) t ∙ st.records w r is

    -- without a record of the write nothing changes
    mapped-none : get s.writes n ≡ None → (w : ℕ) (r : Written) → get s.writes w ≡ Some r → says w ≡ Some (uncounted r)
    mapped-none none w r is = inner (n == w) refl
      where
        inner : (b : Bool) → (n == w) ≡ b → says w ≡ Some (uncounted r)
        inner true t = let e = ap (get s.writes) (eqb-true n w t) in cc
        inner false t = mapped-there w r t is

    mapped-finished : ((k : ℕ) (r : Written) → IsEnded k (Some r) → IsEnded k (Some (f r))) → (k w : ℕ) → IsEnded k (write_of w past) → IsEnded k (says w)
    mapped-finished keeps k w h = inner (n == w) (write_of w past) h
      where
        inner : (b : Bool) (o : Option Written) → IsEnded k o → IsEnded k (if b then option_map f o else o)
        inner true None h = h
        inner true (Some r) h = keeps k r h
        inner false o h = h

  wrote-records : (n : ℕ) (bytes : List ℕ) (eof : Bool) (o : Option Written) → get s.writes n ≡ o → (w : ℕ) (r : Written) → get (wrote_on s.writes n bytes eof o) w ≡ Some r → write_of w (Wrote n bytes eof ∷ past) ≡ Some (uncounted r)
  wrote-records n bytes eof None e w r is = mapped-none n (longer bytes eof) e w r is
  wrote-records n bytes eof (Some x) e w r is =
      at-one (wrote_on s.writes n bytes eof (Some x)) s.writes n (Some (longer bytes eof x)) w r (write_of w (Wrote n bytes eof ∷ past) ≡ Some (uncounted r))
      (get-set s.writes n (longer bytes eof x) w) is
      (λ t same. let q : longer bytes eof x ≡ r = cc in mapped-here n (longer bytes eof) w x e t ∙ ap (λ y. Some (uncounted y)) q)
      (λ t there. mapped-there n (longer bytes eof) w r t there)

  wrote-flies : (n : ℕ) (bytes : List ℕ) (eof : Bool) (o : Option Written) → get s.writes n ≡ o → (k w : ℕ) → is_open k w past ≡ true → is_some (get (wrote_on s.writes n bytes eof o) w) ≡ true
  wrote-flies n bytes eof None e k w h = st.flies k w h
  wrote-flies n bytes eof (Some x) e k w h =
      some-one (wrote_on s.writes n bytes eof (Some x)) s.writes n (Some (longer bytes eof x)) w (get-set s.writes n (longer bytes eof x) w)
      (λ t. refl) (λ t. st.flies k w h)

  pub state-wrote : (n : ℕ) (bytes : List ℕ) (eof : Bool) → IsState (Wrote n bytes eof ∷ past) (wrote s n bytes eof)
  state-wrote n bytes eof = record {
    fresh = λ w le. fresh-mapped n (longer bytes eof) w (st.fresh w le);
    records = wrote-records n bytes eof (get s.writes n) refl;
    untouched = λ k w. st.untouched k w ∙ sym (open-wrote k w n bytes eof past);
    flies = λ k w h. wrote-flies n bytes eof (get s.writes n) refl k w (sym (open-wrote k w n bytes eof past) ∙ h);
    last = λ k w h. mapped-finished n (longer bytes eof) (λ k r e. e) k w (st.last k w h);
    kept = st.kept;
    bodies = st.bodies;
  }

  -- The end of a write.

  ended-records : (n : ℕ) (x : Written) → get s.writes n ≡ Some x → (w : ℕ) (r : Written) → get (grounded s.writes n x) w ≡ Some r → write_of w (Dropped n ∷ past) ≡ Some (uncounted r)
  ended-records n x e w r is =
      at-one (grounded s.writes n x) s.writes n (cond (is_named (ended x)) (Some (ended x)) None) w r (write_of w (Dropped n ∷ past) ≡ Some (uncounted r))
      (get-kept s.writes n (ended x) w) is
      (λ t same. mapped-here n ended w x e t ∙ ap (λ z. Some (uncounted z)) (named-only (ended x) r same))
      (λ t there. mapped-there n ended w r t there)

  other : (n k w : ℕ) → is_open k w (Dropped n ∷ past) ≡ true → ((n == w) ≡ false) × (is_open k w past ≡ true)
  other n k w h = inner (n == w) refl (sym (open-dropped k w n past) ∙ h)
    where
      inner : (b : Bool) → (n == w) ≡ b → cond b false (is_open k w past) ≡ true → ((n == w) ≡ false) × (is_open k w past ≡ true)
      inner true t e = cc
      inner false t e = (t, e)

  ended-flies : (n : ℕ) (x : Written) → (k w : ℕ) → is_open k w (Dropped n ∷ past) ≡ true → is_some (get (grounded s.writes n x) w) ≡ true
  ended-flies n x k w h =
      let o = other n k w h in
      ap is_some (get-kept s.writes n (ended x) w) ∙ ap (λ b. is_some (cond b (cond (is_named (ended x)) (Some (ended x)) None) (get s.writes w))) o.0 ∙ st.flies k w o.1

  closed-records : (n : ℕ) (x : Written) → get s.writes n ≡ Some x → (w : ℕ) (r : Written) → get (closed s.writes n x) w ≡ Some r → write_of w (Finished n ∷ past) ≡ Some (uncounted r)
  closed-records n x e w r is =
      at-one (closed s.writes n x) s.writes n (cond (is_named (closed_write x)) (Some (closed_write x)) None) w r (write_of w (Finished n ∷ past) ≡ Some (uncounted r))
      (get-kept s.writes n (closed_write x) w) is
      (λ t same. mapped-here n closed_write w x e t ∙ ap (λ z. Some (uncounted z)) (named-only (closed_write x) r same))
      (λ t there. mapped-there n closed_write w r t there)

  closed-flies : (n : ℕ) (x : Written) → (k w : ℕ) → is_open k w (Finished n ∷ past) ≡ true → is_some (get (closed s.writes n x) w) ≡ true
  closed-flies n x k w h =
      let o = other n k w (sym (open-finished k w n past) ∙ h) in
      ap is_some (get-kept s.writes n (closed_write x) w) ∙ ap (λ b. is_some (cond b (cond (is_named (closed_write x)) (Some (closed_write x)) None) (get s.writes w))) o.0 ∙ st.flies k w o.1

  -- a write is open under its own key alone
  apart-open : (n k : ℕ) (x : Written) → get s.writes n ≡ Some x → (x.slot == k) ≡ false → is_open k n past ≡ false
  apart-open n k x is off = inner (is_open k n past) refl
    where
      inner : (b : Bool) → is_open k n past ≡ b → b ≡ false
      inner true h =
          let o = opens-some k (is_removed k n past) (write_of n past) h in
          let e : Some (uncounted x) ≡ Some o.0 = sym (st.records n x is) ∙ o.1 in
          let same : uncounted x ≡ o.0 = cc in
          let t : (x.slot == k) ≡ true = ap (λ (y : Written). y.slot == k) same ∙ o.2 in
          cc
      inner false h = refl

  ended-untouched : (n : ℕ) (x : Written) → get s.writes n ≡ Some x → (ys : FinMap nat_cmp Slot) (o : Option Slot) → ((k : ℕ) → get ys k ≡ cond (x.slot == k) o (get s.slots k)) → ((w : ℕ) → is_untouched_in w o ≡ cond (n == w) false (is_untouched_in w (get s.slots x.slot)))
      → (k w : ℕ) → is_untouched_in w (get ys k) ≡ is_open k w (Dropped n ∷ past)
  ended-untouched n x is ys o set gone k w = ap (is_untouched_in w) (set k) ∙ inner (x.slot == k) refl ∙ sym (open-dropped k w n past)
    where
      apart : (b : Bool) → (n == w) ≡ b → (x.slot == k) ≡ false → is_open k w past ≡ cond b false (is_open k w past)
      apart true t f = ap (λ q. is_open k q past) (sym (eqb-true n w t)) ∙ apart-open n k x is f
      apart false t f = refl

      inner : (b : Bool) → (x.slot == k) ≡ b → is_untouched_in w (cond b o (get s.slots k)) ≡ cond (n == w) false (is_open k w past)
      inner true t = gone w ∙ ap (λ j. cond (n == w) false (is_untouched_in w (get s.slots j))) (eqb-true x.slot k t) ∙ ap (cond (n == w) false) (st.untouched k w)
      inner false t = st.untouched k w ∙ apart (n == w) refl t

  none-untouched : (n : ℕ) → get s.writes n ≡ None → (k w : ℕ) → is_untouched_in w (get s.slots k) ≡ is_open k w (Dropped n ∷ past)
  none-untouched n none k w = st.untouched k w ∙ inner (n == w) refl ∙ sym (open-dropped k w n past)
    where
      inner : (b : Bool) → (n == w) ≡ b → is_open k w past ≡ cond b false (is_open k w past)
      inner true t = ap (λ q. is_open k q past) (sym (eqb-true n w t)) ∙ not-open k n none
      inner false t = refl

  dropped-state : (n : ℕ) (o : Option Written) → get s.writes n ≡ o → IsState (Dropped n ∷ past) (dropped_on s n o)
  dropped-state n None e = record {
    fresh = λ w le. fresh-mapped n ended w (st.fresh w le);
    records = mapped-none n ended e;
    untouched = none-untouched n e;
    flies = λ k w h. st.flies k w (other n k w h).1;
    last = λ k w h. mapped-finished n ended (λ k r e. (e.0, refl)) k w (st.last k w h);
    kept = st.kept;
    bodies = st.bodies;
  }
  dropped-state n (Some x) e =
      let set = get-shut s.slots x.slot n in
      record {
        fresh = λ w le. fresh-mapped n ended w (st.fresh w le);
        records = ended-records n x e;
        untouched = ended-untouched n x e (shut s.slots x.slot n) (cut_of n (get s.slots x.slot)) set (cut-untouched n (get s.slots x.slot));
        flies = ended-flies n x;
        last = λ k w h. mapped-finished n ended (λ k r e. (e.0, refl)) k w (st.last k w h);
        kept = st.kept;
        bodies = λ k. bodies-at s.slots (shut s.slots x.slot n) x.slot (cut_of n (get s.slots x.slot)) set (cut-body n (get s.slots x.slot)) k ∙ st.bodies k;
      }

  pub state-dropped : (n : ℕ) → IsState (Dropped n ∷ past) (dropped s n)
  state-dropped n = dropped-state n (get s.writes n) refl

  -- A finish.

  open-here : (n : ℕ) (x : Written) → get s.writes n ≡ Some x → is_untouched_in n (get s.slots x.slot) ≡ true → is_open x.slot n past ≡ true
  open-here n x e h = sym (st.untouched x.slot n) ∙ h

  -- the last finished write of a key is another one than a write in flight
  pub last-other : (n k w : ℕ) (x : Written) → get s.writes n ≡ Some x → x.flying ≡ true → last_finished k past ≡ Some w → (n == w) ≡ false
  last-other n k w x e fly is = inner (n == w) refl
    where
      inner : (b : Bool) → (n == w) ≡ b → b ≡ false
      inner true t =
          let end = subst (IsEnded k) (here n w x e t) (st.last k w is) in
          let a : x.flying ≡ false = end.1 in
          cc
      inner false t = refl

  module _ (n : ℕ) (x : Written) (y : Slot) (e : get s.writes n ≡ Some x) (g : get s.slots x.slot ≡ Some y) (h : is_untouched_in n (Some y) ≡ true) where
    abbrev pub body : Stored
    body = record { meta = x.meta; bytes = x.bytes }

    abbrev pub slot_after : Slot
    slot_after = record { body = Some body; untouched = remove y.untouched n }

    is-open : is_open x.slot n past ≡ true
    is-open = open-here n x e (ap (is_untouched_in n) g ∙ h)

    of-key : (k : ℕ) → is_of k n past ≡ (x.slot == k)
    of-key k = ap (option_any (λ (r : Written). r.slot == k)) (st.records n x e)

    finished-last : (k w : ℕ) → last_finished k (Finished n ∷ past) ≡ Some w → IsEnded k (write_of w (Finished n ∷ past))
    finished-last k w last = inner (x.slot == k) refl (sym (ap (λ b. if b then Some n else last_finished k past) (of-key k)) ∙ last)
      where
        inner : (b : Bool) → (x.slot == k) ≡ b → (if b then Some n else last_finished k past) ≡ Some w → IsEnded k (write_of w (Finished n ∷ past))
        inner true t q =
            let same : n ≡ w = cc in
            let there = mapped-here n closed_write w x e (ap (λ z. n == z) (sym same) ∙ same-number n) in
            subst (IsEnded k) (sym there) (eqb-true x.slot k t, refl)
        inner false t q = mapped-finished n closed_write (λ k r z. (z.0, refl)) k w (st.last k w q)

    finished-kept : (k w : ℕ) → last_finished k (Finished n ∷ past) ≡ Some w → is_some (write_finished w (Finished n ∷ past)) ≡ true
    finished-kept k w is = inner (x.slot == k) refl (sym (ap (λ b. if b then Some n else last_finished k past) (of-key k)) ∙ is)
      where
        inner : (b : Bool) → (x.slot == k) ≡ b → (if b then Some n else last_finished k past) ≡ Some w → is_some (write_finished w (Finished n ∷ past)) ≡ true
        inner true t q =
            let same : n ≡ w = cc in
            ap (λ (b : Bool). is_some (write_of w (if b then past else before (finishes w) past))) (ap (λ z. n == z) (sym same) ∙ same-number n)
            ∙ ap (λ z. is_some (write_of z past)) (sym same) ∙ ap is_some (st.records n x e)
        inner false t q =
            ap (λ (b : Bool). is_some (write_of w (if b then past else before (finishes w) past))) (last-other n k w x e (flying x.slot n x is-open e) q)
            ∙ st.kept k w q

    -- the body of the key is now that of the write, and no other key's has changed
    stored-here : (k : ℕ) → (x.slot == k) ≡ true → complete k (Finished n ∷ past) ≡ Some body
    stored-here k t =
        let last : last_finished k (Finished n ∷ past) ≡ Some n = ap (λ b. if b then Some n else last_finished k past) (of-key k ∙ t) in
        let whole : is_open k n past ≡ true = ap (λ j. is_open j n past) (sym (eqb-true x.slot k t)) ∙ is-open in
        let kept : is_removed k n past ≡ false = (opens-some k (is_removed k n past) (write_of n past) whole).4 in
        ap (option_and_then (body_at k (Finished n ∷ past))) last
        ∙ ap (λ r. unless_removed r (body_stored k n (Finished n ∷ past))) kept
        ∙ ap (λ (b : Bool). option_map (λ r. record { meta = altered_by k (if b then [] else Finished n ∷ after (finishes n) past) r.meta; bytes = r.bytes }) (write_of n (if b then past else before (finishes n) past))) (same-number n)
        ∙ ap (option_map (λ r. record { meta = r.meta; bytes = r.bytes })) (st.records n x e)

    stored-there : (k : ℕ) → (x.slot == k) ≡ false → complete k (Finished n ∷ past) ≡ complete k past
    stored-there k t =
        ap (λ b. option_and_then (body_at k (Finished n ∷ past)) (if b then Some n else last_finished k past)) (of-key k ∙ t)
        ∙ under (last_finished k past) (body_at k (Finished n ∷ past)) (body_at k past) (λ w last.
        ap (λ (b : Bool). unless_removed (is_removed k w past) (option_map (λ r. record { meta = altered_by k (if b then [] else Finished n ∷ after (finishes w) past) r.meta; bytes = r.bytes }) (write_of w (if b then past else before (finishes w) past))))
        (last-other n k w x e (flying x.slot n x is-open e) last))

    finished-bodies : (k : ℕ) → complete_body (get (insert s.slots x.slot slot_after) k) ≡ complete k (Finished n ∷ past)
    finished-bodies k = ap complete_body (get-set s.slots x.slot slot_after k) ∙ inner (x.slot == k) refl
      where
        inner : (b : Bool) → (x.slot == k) ≡ b → complete_body (cond b (Some slot_after) (get s.slots k)) ≡ complete k (Finished n ∷ past)
        inner true t = sym (stored-here k t)
        inner false t = st.bodies k ∙ sym (stored-there k t)

    stored-state : IsState (Finished n ∷ past) (record s { slots = insert s.slots x.slot slot_after; writes = closed s.writes n x })
    stored-state = record {
      fresh = λ w le. fresh-mapped n closed_write w (st.fresh w le);
      records = closed-records n x e;
      untouched = λ k w. ended-untouched n x e (insert s.slots x.slot slot_after) (Some slot_after) (get-set s.slots x.slot slot_after) (λ q. gone-key y.untouched n q ∙ ap (λ o. cond (n == q) false (is_untouched_in q o)) (sym g)) k w ∙ sym (open-finished k w n past);
      flies = closed-flies n x;
      last = finished-last;
      kept = finished-kept;
      bodies = finished-bodies;
    }

  finished-in : (n : ℕ) (x : Written) (o : Option Slot) → get s.writes n ≡ Some x → get s.slots x.slot ≡ o → is_untouched_in n o ≡ true
      → IsState (Finished n ∷ past) (record s { slots = stored_on s.slots x.slot n (record { meta = x.meta; bytes = x.bytes }) o; writes = closed s.writes n x })
  finished-in n x None e g h = cc
  finished-in n x (Some y) e g h = stored-state n x y e g h

  finished-state : (n : ℕ) (o : Option Written) → get s.writes n ≡ o → is_untouched_on s n o ≡ true → IsState (Finished n ∷ past) (finished_on s n o)
  finished-state n None e h = cc
  finished-state n (Some x) e h = finished-in n x (get s.slots x.slot) e refl h

  pub state-finished : (n : ℕ) → is_untouched s n ≡ true → IsState (Finished n ∷ past) (finished s n)
  state-finished n h = finished-state n (get s.writes n) refl h

  -- Removals.

  pub state-purged : (q : ℕ) → IsState (Purged q ∷ past) (purged s q)
  state-purged q = record {
    fresh = st.fresh;
    records = st.records;
    untouched = λ k w. ap (is_untouched_in w) (get-unset s.slots q k) ∙ inside w (q == k) (get s.slots k) ∙ ap (cond (q == k) false) (st.untouched k w) ∙ sym (open-purged k w q past);
    flies = λ k w h. st.flies k w (still (q == k) (is_open k w past) (sym (open-purged k w q past) ∙ h));
    last = st.last;
    kept = st.kept;
    bodies = λ k. ap complete_body (get-unset s.slots q k) ∙ bodily (q == k) (get s.slots k) ∙ ap (cond (q == k) None) (st.bodies k) ∙ sym (complete-purged k q past);
  }
    where
      inside : (w : ℕ) (b : Bool) (o : Option Slot) → is_untouched_in w (cond b None o) ≡ cond b false (is_untouched_in w o)
      inside w true o = refl
      inside w false o = refl

      bodily : (b : Bool) (o : Option Slot) → complete_body (cond b None o) ≡ cond b None (complete_body o)
      bodily true o = refl
      bodily false o = refl

      still : (b c : Bool) → cond b false c ≡ true → c ≡ true
      still true c h = cc
      still false c h = h

  pub state-write_purged : (q n : ℕ) → IsState (WritePurged q n ∷ past) (write_purged s q n)
  state-write_purged q n = record {
    fresh = st.fresh;
    records = st.records;
    untouched = λ k w. ap (is_untouched_in w) (get-lost s.slots q n k) ∙ inside k w (q == k) refl ∙ sym (open-write_purged k w q n past);
    flies = λ k w h. st.flies k w (still ((q == k) && (n == w)) (is_open k w past) (sym (open-write_purged k w q n past) ∙ h));
    last = st.last;
    kept = st.kept;
    bodies = λ k. ap complete_body (get-lost s.slots q n k) ∙ bodily k (q == k) refl ∙ sym (complete-write_purged k q n past);
  }
    where
      inside : (k w : ℕ) (b : Bool) → (q == k) ≡ b → is_untouched_in w (cond b (lost_of n (get s.slots q)) (get s.slots k)) ≡ cond (b && (n == w)) false (is_open k w past)
      inside k w true t = lost-untouched n (get s.slots q) w ∙ ap (λ j. cond (n == w) false (is_untouched_in w (get s.slots j))) (eqb-true q k t) ∙ ap (cond (n == w) false) (st.untouched k w)
      inside k w false t = st.untouched k w

      bodily : (k : ℕ) (b : Bool) → (q == k) ≡ b → complete_body (cond b (lost_of n (get s.slots q)) (get s.slots k)) ≡ cond b (body_without n (complete k past)) (complete k past)
      bodily k true t = lost-body n (get s.slots q) ∙ ap (λ j. body_without n (complete_body (get s.slots j))) (eqb-true q k t) ∙ ap (body_without n) (st.bodies k)
      bodily k false t = st.bodies k

      still : (b c : Bool) → cond b false c ≡ true → c ≡ true
      still true c h = cc
      still false c h = h

  -- Metas.

  get-remade : (f : Meta → Meta) (q : ℕ) (o : Option Slot) → get s.slots q ≡ o → (k : ℕ) → get (meta_changed_on f s.slots q o) k ≡ cond (q == k) (option_map (λ x. with_meta f x x.body) o) (get s.slots k)
  get-remade f q None e k = inner (q == k) refl
    where
      inner : (b : Bool) → (q == k) ≡ b → get s.slots k ≡ cond b None (get s.slots k)
      inner true t = ap (get s.slots) (sym (eqb-true q k t)) ∙ e
      inner false t = refl
  get-remade f q (Some x) e k = inner x.body refl
    where
      inner : (b : Option Stored) → x.body ≡ b → get (meta_changed_in f s.slots q x b) k ≡ cond (q == k) (Some (with_meta f x b)) (get s.slots k)
      inner None h = inside (q == k) refl
        where
          inside : (b : Bool) → (q == k) ≡ b → get s.slots k ≡ cond b (Some x) (get s.slots k)
          inside true t = ap (get s.slots) (sym (eqb-true q k t)) ∙ e
          inside false t = refl
      inner (Some b) h = get-set s.slots q (with_meta f x (Some b)) k

  remade-untouched : (f : Meta → Meta) (w : ℕ) (o : Option Slot) → is_untouched_in w (option_map (λ x. with_meta f x x.body) o) ≡ is_untouched_in w o
  remade-untouched f w None = refl
  remade-untouched f w (Some x) = inner x.body
    where
      inner : (b : Option Stored) → is_untouched_in w (Some (with_meta f x b)) ≡ is_untouched_in w (Some x)
      inner None = refl
      inner (Some b) = refl

  remade-body : (f : Meta → Meta) (o : Option Slot) → complete_body (option_map (λ x. with_meta f x x.body) o) ≡ option_map (remade f) (complete_body o)
  remade-body f None = refl
  remade-body f (Some x) = inner x.body refl
    where
      inner : (b : Option Stored) → x.body ≡ b → complete_body (Some (with_meta f x b)) ≡ option_map (remade f) b
      inner None h = h
      inner (Some b) h = refl

  module _ (f : Meta → Meta) (q : ℕ) where
    remade-all-untouched : (k w : ℕ) → is_untouched_in w (get (meta_changed_on f s.slots q (get s.slots q)) k) ≡ is_open k w past
    remade-all-untouched k w = ap (is_untouched_in w) (get-remade f q (get s.slots q) refl k) ∙ inner (q == k) refl ∙ st.untouched k w
      where
        inner : (b : Bool) → (q == k) ≡ b → is_untouched_in w (cond b (option_map (λ x. with_meta f x x.body) (get s.slots q)) (get s.slots k)) ≡ is_untouched_in w (get s.slots k)
        inner true t = remade-untouched f w (get s.slots q) ∙ ap (λ j. is_untouched_in w (get s.slots j)) (eqb-true q k t)
        inner false t = refl

    remade-all-bodies : (k : ℕ) → complete_body (get (meta_changed_on f s.slots q (get s.slots q)) k) ≡ cond (q == k) (option_map (remade f) (complete k past)) (complete k past)
    remade-all-bodies k = ap complete_body (get-remade f q (get s.slots q) refl k) ∙ inner (q == k) refl
      where
        inner : (b : Bool) → (q == k) ≡ b → complete_body (cond b (option_map (λ x. with_meta f x x.body) (get s.slots q)) (get s.slots k)) ≡ cond b (option_map (remade f) (complete k past)) (complete k past)
        inner true t = remade-body f (get s.slots q) ∙ ap (λ j. option_map (remade f) (complete_body (get s.slots j))) (eqb-true q k t) ∙ ap (option_map (remade f)) (st.bodies k)
        inner false t = st.bodies k

  pub state-expired : (q now : ℕ) → IsState (Expired q now ∷ past) (meta_changed (expired_at now) s q)
  state-expired q now = record {
    fresh = st.fresh;
    records = st.records;
    untouched = remade-all-untouched (expired_at now) q;
    flies = st.flies;
    last = st.last;
    kept = st.kept;
    bodies = λ k. remade-all-bodies (expired_at now) q k ∙ sym (complete-altered k q (expired_at now) (Expired q now) past (λ w. refl));
  }

  pub state-meta_set : (q : ℕ) (m : Meta) → IsState (MetaSet q m ∷ past) (meta_set m s q)
  state-meta_set q m = record {
    fresh = st.fresh;
    records = st.records;
    untouched = remade-all-untouched (λ old. in_place_of old m) q;
    flies = st.flies;
    last = st.last;
    kept = st.kept;
    bodies = λ k. remade-all-bodies (λ old. in_place_of old m) q k ∙ sym (complete-altered k q (λ old. in_place_of old m) (MetaSet q m) past (λ w. refl));
  }

  -- A begin.

  module _ (q : ℕ) (m : Meta) where
    unbegun : write_of s.next past ≡ None
    unbegun = st.fresh s.next (omega arith)

    began-other : (k w : ℕ) → last_finished k past ≡ Some w → (s.next == w) ≡ false
    began-other k w last = inner (s.next == w) refl
      where
        inner : (b : Bool) → (s.next == w) ≡ b → b ≡ false
        inner true t = absurd (subst (IsEnded k) (ap (λ x. write_of x past) (sym (eqb-true s.next w t)) ∙ unbegun) (st.last k w last))
        inner false t = refl

    began-fresh : (w : ℕ) → s.next + 1 ≤ w → write_of w (Began q s.next m ∷ past) ≡ None
    began-fresh w le =
        let off : (s.next == w) ≡ false = grind (arith, nat_tests, le) in
        ap (λ b. if b then Some (new_write q (numbered s.next m)) else write_of w past) off ∙ st.fresh w (omega arith)

    began-records : (w : ℕ) (r : Written) → get (insert s.writes s.next (new_write q (numbered s.next m))) w ≡ Some r → write_of w (Began q s.next m ∷ past) ≡ Some (uncounted r)
    began-records w r is =
        let x = new_write q (numbered s.next m) in
        at-one (insert s.writes s.next x) s.writes s.next (Some x) w r (write_of w (Began q s.next m ∷ past) ≡ Some (uncounted r)) (get-set s.writes s.next x w) is
        (λ t same. let e : x ≡ r = cc in ap (λ b. if b then Some (new_write q (numbered s.next m)) else write_of w past) t ∙ ap (λ y. Some (uncounted y)) e)
        (λ t there. ap (λ b. if b then Some (new_write q (numbered s.next m)) else write_of w past) t ∙ st.records w r there)

    new-closed : (k : ℕ) → is_open k s.next past ≡ false
    new-closed k = opens-none k (is_removed k s.next past) (write_of s.next past) unbegun

    began-untouched : (k w : ℕ) → is_untouched_in w (get (opened s.slots q s.next) k) ≡ is_open k w (Began q s.next m ∷ past)
    began-untouched k w = ap (is_untouched_in w) (get-set s.slots q (opened_in (slot_or_new (get s.slots q)) s.next) k) ∙ inner (q == k) refl ∙ sym (open-began k w q s.next m past)
      where
        inside : (b : Bool) → (s.next == w) ≡ b → is_open k w past ≡ (if b then false else is_open k w past)
        inside true t = ap (λ x. is_open k x past) (sym (eqb-true s.next w t)) ∙ new-closed k
        inside false t = refl

        inner : (b : Bool) → (q == k) ≡ b → is_untouched_in w (cond b (Some (opened_in (slot_or_new (get s.slots q)) s.next)) (get s.slots k)) ≡ (if s.next == w then b else is_open k w past)
        inner true t = new-key (slot_or_new (get s.slots q)).untouched s.next tt w ∙ ap (cond (s.next == w) true) (new-untouched (get s.slots q) w ∙ ap (λ j. is_untouched_in w (get s.slots j)) (eqb-true q k t) ∙ st.untouched k w)
        inner false t = st.untouched k w ∙ inside (s.next == w) refl

    began-flies : (k w : ℕ) → is_open k w (Began q s.next m ∷ past) ≡ true → is_some (get (insert s.writes s.next (new_write q (numbered s.next m))) w) ≡ true
    began-flies k w h =
        let x = new_write q (numbered s.next m) in
        some-one (insert s.writes s.next x) s.writes s.next (Some x) w (get-set s.writes s.next x w) (λ t. refl)
        (λ t. st.flies k w (sym (ap (λ (b : Bool). if b then q == k else is_open k w past) t) ∙ sym (open-began k w q s.next m past) ∙ h))

    began-finished : (k w : ℕ) → last_finished k past ≡ Some w → IsEnded k (write_of w (Began q s.next m ∷ past))
    began-finished k w last = subst (IsEnded k) (sym (ap (λ b. if b then Some (new_write q (numbered s.next m)) else write_of w past) (began-other k w last))) (st.last k w last)

    began-state : IsState (Began q s.next m ∷ past) (begun s q m)
    began-state =
        let y : Slot = opened_in (slot_or_new (get s.slots q)) s.next in
        record {
          fresh = began-fresh;
          records = began-records;
          untouched = began-untouched;
          flies = began-flies;
          last = began-finished;
          kept = st.kept;
          bodies = λ k. bodies-at s.slots (opened s.slots q s.next) q (Some y) (get-set s.slots q y) (new-body (get s.slots q)) k ∙ st.bodies k ∙ sym (complete-began k q s.next m past (began-other k));
        }

pub state-step : (note : Note) (past : List Note) (s t : Store) → Leads note s t → IsState past s → IsState (note ∷ past) t
state-step (Began k n m) past s t h st = subst (λ q. IsState (Began k q m ∷ past) t) (sym h.0) (subst (IsState (Began k s.next m ∷ past)) (sym h.1) (began-state past s st k m))
state-step (Wrote n bytes eof) past s t h st = subst (IsState (Wrote n bytes eof ∷ past)) (sym h) (state-wrote past s st n bytes eof)
state-step (Finished n) past s t h st = subst (IsState (Finished n ∷ past)) (sym h.2) (state-finished past s st n h.0)
state-step (Dropped n) past s t h st = subst (IsState (Dropped n ∷ past)) (sym h) (state-dropped past s st n)
state-step (Purged k) past s t h st = subst (IsState (Purged k ∷ past)) (sym h) (state-purged past s st k)
state-step (WritePurged k n) past s t h st = subst (IsState (WritePurged k n ∷ past)) (sym h) (state-write_purged past s st k n)
state-step (MetaSet k m) past s t h st = subst (IsState (MetaSet k m ∷ past)) (sym h) (state-meta_set past s st k m)
state-step (Expired k now) past s t h st = subst (IsState (Expired k now ∷ past)) (sym h) (state-expired past s st k now)
state-step (Joined n) past s t h st = subst (IsState (Joined n ∷ past)) (sym h) (state-joined past s st n)
state-step (Left n) past s t h st = subst (IsState (Left n ∷ past)) (sym h) (state-left past s st n)

pub state-led : (past : List Note) (start : ℕ) (newest : Bool) (t : Store) → PastLeads past (empty_from start newest) t → IsState past t
state-led [] start newest t h = subst (IsState []) (sym h) (state-none start newest)
state-led (note ∷ past) start newest t h = state-step note past h.0 t h.1.1 (state-led past start newest h.0 h.1.0)

pub state-of : (s : Store) (past : List Note) → IsWhatPastSays s past → IsState past s
state-of s past is = state-led past is.0 s.newest s is.1
