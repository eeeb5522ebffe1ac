-- What always holds of a cache still holds after the end of a write.
use Rattle.std.proofs.Common.{is_none}
use Rattle.std.proofs.lemmas.Bool.{and_parts}
use Rattle.pcache_request.specs.Finishing.{Drops}
use Rattle.pcache_request.specs.WriteEnds.{EndsAs}
use Rattle.pcache_store.specs.declared.storage.MissFinishType.{MissFinishType}
use Rattle.pcache_store.specs.Purge.{entry_purged_in}
use Rattle.pcache_store.specs.Store.{Written, finished_on, is_untouched_in, is_untouched_on, stored_on, slot_without, write_gone_on}
use Rattle.pcache_cache.proofs.Words.{in_memory, ◌≡◌, ◌≢◌, ℕ, inl, inr, Bool, true, false, cond, Option, None, Some, Result, Ok, Err, List, [], ◌∷◌, refl, ap, sym, subst, ◌∙◌, arith, nat_eq, option_map, option_and_then, option_eq, nat_cmp, eq_by_cmp, is_eq, tied_itself, FinMap, get, insert, remove, get-insert, get-remove, both_ways, eq-eqb, eqb-true, compact_of, Key, slot, ErrorType, CacheEntryKey, entry_cmp, entries_total, id_of, Tracked, IsFair, Limits, without, Locks, LockStatus, PurgesAll, Stores, Withdraws, entry_slot, tracked_before, tracked_before_end, without_entry, Request, entry_of, settled, Ends, EndsBody, EndsIdle, FinishReport, WriteEnd, Created, entry_purged, Store, Slot, Stored, complete_body, dropped, finished, is_untouched, is_write_under, purged, is_idle, with_slot, body_without, has_body_of, write_purged, IsBounded, IsKept, MayEnd, TracksExactly, is_own_write, body_weight, ending_weight, entered, write_weight, Weighing}
use Rattle.pcache_request.specs.declared.cache.finish.WriteEnd.TheVariants as end
use Rattle.pcache_cache.proofs.Kept.{kept_fewer}
use Rattle.pcache_cache.proofs.Modes.{mode-dropped, mode-entry, mode-finished}
use Rattle.pcache_cache.proofs.Standing.{Fewer, Stands, body-insert, body-remove, cmp_same, fewer-dropped, same-key}
use Rattle.pcache_cache.proofs.Sums.{bounded-fewer, bounded-within, entries-apart, entry-same}

-- ---- what is evicted is purged

abbrev pub purged_each : Store → List CacheEntryKey → Store
purged_each s [] = s
purged_each s (e ∷ es) = purged_each (entry_purged true s e) es

mode-purged_each : (s : Store) (es : List CacheEntryKey) → (purged_each s es).newest ≡ s.newest
mode-purged_each s [] = refl
mode-purged_each s (e ∷ es) = mode-purged_each (entry_purged true s e) es ∙ mode-entry s (entry_slot e) (id_of e)

-- none of these is the entry of a body under a key
abbrev NoneNames : ℕ → Stored → List CacheEntryKey → Type 0
NoneNames q b [] = Unit {0}
NoneNames q b (e ∷ es) = (entry_slot e ≡ q → id_of e ≡ b.meta.entry_id → ⊥) × NoneNames q b es

pub purges-each : (s t : Store) (es : List CacheEntryKey) (n : ℕ) → n ≡ 0 → PurgesAll true s es n t → t ≡ purged_each s es
purges-each s t [] n none p = p.1
purges-each s t (e ∷ es) n none (inl p) = purges-each (entry_purged true s e) t es n none p
purges-each s t (e ∷ es) n none (inr p) = let more = p.1 in absurd (omega arith)

-- what is complete once a key was purged
stands-purged : (s : Store) (k q : ℕ) (b : Stored) → complete_body (get (purged s k).slots q) ≡ Some b → (complete_body (get s.slots q) ≡ Some b) × (k ≡ q → ⊥)
stands-purged s k q b is =
    elim (eq_by_cmp nat_cmp q k) as (λ t. eq_by_cmp nat_cmp q k ≡ t → cond t None (complete_body (get s.slots q)) ≡ Some b → (complete_body (get s.slots q) ≡ Some b) × (k ≡ q → ⊥)) [
      | true ↦ λ t none. absurd (cc)
      | false ↦ λ t there. (there, λ same. both_ways _ t (cmp_same q k ∙ eq-eqb k q same))
    ] refl (sym (body-remove s.slots k q) ∙ is)

-- and once one of its writes was
idle-body : (x : Slot) → is_idle x ≡ true → x.body ≡ None
idle-body x idle = inner x.body (and_parts _ _ idle).0
  where
    inner : (o : Option Stored) → is_none o ≡ true → o ≡ None
    inner None e = refl
    inner (Some b) e = absurd (cc)

pub body-slot : (xs : FinMap nat_cmp Slot) (k q : ℕ) (x : Slot) → complete_body (get (with_slot xs k x) q) ≡ cond (eq_by_cmp nat_cmp q k) x.body (complete_body (get xs q))
body-slot xs k q x =
    elim (is_idle x) as (λ t. is_idle x ≡ t → complete_body (get (cond t (remove xs k) (insert xs k x)) q) ≡ cond (eq_by_cmp nat_cmp q k) x.body (complete_body (get xs q))) [
      | true ↦ λ idle. body-remove xs k q ∙ ap (λ o. cond (eq_by_cmp nat_cmp q k) o (complete_body (get xs q))) (sym (idle-body x idle))
      | false ↦ λ busy. body-insert xs k q x
    ] refl

pub body-lost : (xs : FinMap nat_cmp Slot) (k n q : ℕ) → complete_body (get (write_gone_on xs k n (get xs k)) q) ≡ cond (eq_by_cmp nat_cmp q k) (body_without n (complete_body (get xs k))) (complete_body (get xs q))
body-lost xs k n q =
    elim (get xs k) as (λ o. get xs k ≡ o → complete_body (get (write_gone_on xs k n o) q) ≡ cond (eq_by_cmp nat_cmp q k) (body_without n (complete_body o)) (complete_body (get xs q))) [
      | None ↦ λ is. elim (eq_by_cmp nat_cmp q k) as (λ t. eq_by_cmp nat_cmp q k ≡ t → complete_body (get xs q) ≡ cond t None (complete_body (get xs q))) [
        | true ↦ λ t. ap (λ y. complete_body (get xs y)) (same-key q k t) ∙ ap complete_body is
        | false ↦ λ t. refl
      ] refl
      | Some x ↦ λ is. body-slot xs k q (slot_without n x)
    ] refl

-- a body that stays is of another write
stays-other : (n : ℕ) (o : Option Stored) (b : Stored) → body_without n o ≡ Some b → (o ≡ Some b) × (b.meta.entry_id ≡ Some n → ⊥)
stays-other n o b is =
    elim (has_body_of n o) as (λ t. has_body_of n o ≡ t → cond t None o ≡ Some b → (o ≡ Some b) × (b.meta.entry_id ≡ Some n → ⊥)) [
      | true ↦ λ t none. absurd (cc)
      | false ↦ λ t there. (there, λ own. both_ways _ t (ap (has_body_of n) there ∙ ap (λ i. option_eq nat_eq i (Some n)) own ∙ eq-eqb n n refl))
    ] refl is

stands-lost : (s : Store) (k n q : ℕ) (b : Stored) → complete_body (get (write_purged s k n).slots q) ≡ Some b → (complete_body (get s.slots q) ≡ Some b) × (k ≡ q → b.meta.entry_id ≡ Some n → ⊥)
stands-lost s k n q b is =
    elim (eq_by_cmp nat_cmp q k) as (λ t. eq_by_cmp nat_cmp q k ≡ t → cond t (body_without n (complete_body (get s.slots k))) (complete_body (get s.slots q)) ≡ Some b → (complete_body (get s.slots q) ≡ Some b) × (k ≡ q → b.meta.entry_id ≡ Some n → ⊥)) [
      | true ↦ λ t left. let p = stays-other n (complete_body (get s.slots k)) b left in (ap (λ y. complete_body (get s.slots y)) (same-key q k t) ∙ p.0, λ same. p.1)
      | false ↦ λ t there. (there, λ same own. both_ways _ t (cmp_same q k ∙ eq-eqb k q same))
    ] refl (sym (body-lost s.slots k n q) ∙ is)

-- what is complete then was so before, and the entry that went is not its own
stands-one : (s : Store) (e : CacheEntryKey) (q : ℕ) (b : Stored) → complete_body (get (entry_purged true s e).slots q) ≡ Some b → (complete_body (get s.slots q) ≡ Some b) × (entry_slot e ≡ q → id_of e ≡ b.meta.entry_id → ⊥)
stands-one s e q b is = inner (id_of e) is
  where
    inner : (o : Option ℕ) → complete_body (get (entry_purged_in true s (entry_slot e) o).slots q) ≡ Some b → (complete_body (get s.slots q) ≡ Some b) × (entry_slot e ≡ q → o ≡ b.meta.entry_id → ⊥)
    inner None is = let p = stands-purged s (entry_slot e) q b is in (p.0, λ same own. p.1 same)
    inner (Some n) is = let p = stands-lost s (entry_slot e) n q b is in (p.0, λ same own. p.1 same (sym own))

stands-each : (s : Store) (es : List CacheEntryKey) (q : ℕ) (b : Stored) → complete_body (get (purged_each s es).slots q) ≡ Some b → (complete_body (get s.slots q) ≡ Some b) × NoneNames q b es
stands-each s [] q b is = (is, tt)
stands-each s (e ∷ es) q b is =
    let rest = stands-each (entry_purged true s e) es q b is in
    let first = stands-one s e q b rest.0 in
    (first.0, (first.1, rest.1))

-- what is tracked of an entry that stays
kept-without : (out : List CacheEntryKey) (m : Tracked) (x : CacheEntryKey) (q : ℕ) (b : Stored) → entry_slot x ≡ q → id_of x ≡ b.meta.entry_id → NoneNames q b out → get (without out m) x ≡ get m x
kept-without [] m x q b of own none = refl
kept-without (e ∷ out) m x q b of own none =
    kept-without out (remove m e) x q b of own none.1
    ∙ get-remove entries_total m e x
    ∙ elim (eq_by_cmp entry_cmp x e) as (λ t. eq_by_cmp entry_cmp x e ≡ t → cond t None (get m x) ≡ get m x) [
      | true ↦ λ t. absurd (none.0 (ap entry_slot (sym (entry-same x e t)) ∙ of) (ap id_of (sym (entry-same x e t)) ∙ own))
      | false ↦ λ t. refl
    ] refl

-- ---- the entry of a replaced body goes

-- each key but this one with a complete body has its entry
abbrev pub ExactBut : Weighing → ℕ → Store → Tracked → Type 0
ExactBut wg k s m = (q : ℕ) (b : Stored) → q ≢ k → complete_body (get s.slots q) ≡ Some b
    → (e : CacheEntryKey) × (entry_slot e ≡ q) × (get m e ≡ Some (body_weight wg b)) × (id_of e ≡ b.meta.entry_id)

pub exact-but : (wg : Weighing) (s : Store) (m : Tracked) (k : Key) (replaced : Option ℕ) → TracksExactly wg s m → ExactBut wg (slot k) s (without_entry true (compact_of k) replaced m)
exact-but wg s m k None exact q b ne there = exact q b there
exact-but wg s m k (Some n) exact q b ne there =
    let old = exact q b there in
    (old.0, old.1, get-remove entries_total m (entry_of k (Some n)) old.0 ∙ ap (λ y. cond y None (get m old.0)) (entries-apart old.0 (entry_of k (Some n)) q (slot k) old.1 refl ne) ∙ old.2, old.3)

-- ---- a body is stored

-- what a finished write leaves complete: its own body under its key
pub body-stored : (s : Store) (w : ℕ) (x : Written) (q : ℕ) → get s.writes w ≡ Some x → is_untouched s w ≡ true → complete_body (get (finished s w).slots q) ≡ cond (eq_by_cmp nat_cmp q x.slot) (Some (record { meta = x.meta; bytes = x.bytes })) (complete_body (get s.slots q))
body-stored s w x q is whole =
    ap (λ o. complete_body (get (finished_on s w o).slots q)) is
    ∙ elim (get s.slots x.slot) as (λ o. is_untouched_in w o ≡ true → complete_body (get (stored_on s.slots x.slot w (record { meta = x.meta; bytes = x.bytes }) o) q) ≡ cond (eq_by_cmp nat_cmp q x.slot) (Some (record { meta = x.meta; bytes = x.bytes })) (complete_body (get s.slots q))) [
      | None ↦ λ no. absurd (cc)
      | Some y ↦ λ yes. body-insert s.slots x.slot q (record { body = Some (record { meta = x.meta; bytes = x.bytes }); untouched = remove y.untouched w })
    ] (sym (ap (is_untouched_on s w) is) ∙ whole)

-- A body comes to stand under a key: of the store t this much is complete, and the entry is admitted with what it weighs.
module _ (wg : Weighing) (limits : Limits) (m : Tracked) (s t : Store) (k : Key) (mine : CacheEntryKey) (new : Stored) (n : ℕ) (here : (q : ℕ) → complete_body (get t.slots q) ≡ cond (eq_by_cmp nat_cmp q (slot k)) (Some new) (complete_body (get s.slots q))) (at : entry_slot mine ≡ slot k) (named : id_of mine ≡ new.meta.entry_id) (weighs : n ≡ body_weight wg new) (others : ExactBut wg (slot k) s m) where
  abbrev pub admitted_now : Tracked
  admitted_now = insert m mine n

  pub exact-anew : (out : List CacheEntryKey) → TracksExactly wg (purged_each t out) (without out admitted_now)
  exact-anew out q b complete =
      let p = stands-each t out q b complete in
      elim (eq_by_cmp nat_cmp q (slot k)) as (λ y. eq_by_cmp nat_cmp q (slot k) ≡ y → cond y (Some new) (complete_body (get s.slots q)) ≡ Some b → (e : CacheEntryKey) × (entry_slot e ≡ q) × (get (without out admitted_now) e ≡ Some (body_weight wg b)) × (id_of e ≡ b.meta.entry_id)) [
        | true ↦ λ y is.
            let own : new ≡ b = cc in
            let of : entry_slot mine ≡ q = at ∙ sym (same-key q (slot k) y) in
            let number : id_of mine ≡ b.meta.entry_id = named ∙ ap (λ (z : Stored). z.meta.entry_id) own in (
              mine,
              of,
              kept-without out admitted_now mine q b of number p.1 ∙ get-insert entries_total m mine n mine
                  ∙ ap (λ r. cond (is_eq r) (Some n) (get m mine)) (tied_itself entries_total mine)
                  ∙ ap Some (weighs ∙ ap (body_weight wg) own),
              number,
            )
        | false ↦ λ y there.
            let ne : q ≢ slot k = λ same. both_ways _ y (cmp_same q (slot k) ∙ eq-eqb (slot k) q (sym same)) in
            let old = others q b ne there in (
              old.0,
              old.1,
              kept-without out admitted_now old.0 q b old.1 old.3 p.1 ∙ get-insert entries_total m mine n old.0
                  ∙ ap (λ y. cond y (Some n) (get m old.0)) (entries-apart old.0 mine q (slot k) old.1 at ne) ∙ old.2,
              old.3,
            )
      ] refl (sym (here q) ∙ p.0)

  pub kept-anew : (out : List CacheEntryKey) (s' : Store) (m' : Tracked) → IsFair limits admitted_now out → s' ≡ purged_each t out → m' ≡ without out admitted_now → t.newest ≡ true → IsKept wg limits m' s'
  kept-anew out s' m' fair store tracked mode =
      let exact = exact-anew out in
      let kept' : IsKept wg limits (without out admitted_now) (purged_each t out) = record { exact = exact; bounded = bounded-within wg limits (purged_each t out) (without out admitted_now) exact fair.enough; newest = mode-purged_each t out ∙ mode } in
      subst (λ x. IsKept wg limits m' x) (sym store) (subst (λ x. IsKept wg limits x (purged_each t out)) (sym tracked) kept')

module _ (wg : Weighing) (limits : Limits) (m : Tracked) (s : Store) (k : Key) (w : ℕ) (x : Written) (is : get s.writes w ≡ Some x) (of : x.slot ≡ slot k) (named : x.meta.entry_id ≡ Some w) (others : ExactBut wg (slot k) s m) (bounded : IsBounded wg limits s) (mode : s.newest ≡ true) where
  abbrev pub mine : CacheEntryKey
  mine = entry_of k (Some w)

  kept-stored : (Lets : LockStatus → Type 0) (size failed : ℕ) (out : List CacheEntryKey) (s' : Store) (m' : Tracked) → Stores in_memory true (Some w) Lets k w (entered wg s (Some w)) limits size failed out s s' m m' → IsKept wg limits m' s'
  kept-stored Lets size failed out s' m' stores =
      kept-anew wg limits m s (finished s w) k mine (record { meta = x.meta; bytes = x.bytes }) (write_weight wg (get s.writes w))
      (λ q. body-stored s w x q is stores.untouched ∙ ap (λ y. cond (eq_by_cmp nat_cmp q y) (Some (record { meta = x.meta; bytes = x.bytes })) (complete_body (get s.slots q))) of)
      refl (sym named) (ap (write_weight wg) is) others out s' m' stores.admitted.0 (purges-each (finished s w) s' out failed (stores.sure refl) stores.purges) stores.admitted.1 (mode-finished s w ∙ mode)

  -- a body that is purged again leaves what was complete under other keys
  fewer-withdrawn : is_untouched s w ≡ true → Fewer wg s.slots (purged (finished s w) (slot k)).slots
  fewer-withdrawn whole q b complete =
      let p = stands-purged (finished s w) (slot k) q b complete in
      elim (eq_by_cmp nat_cmp q x.slot) as (λ t. eq_by_cmp nat_cmp q x.slot ≡ t → cond t (Some (record { meta = x.meta; bytes = x.bytes })) (complete_body (get s.slots q)) ≡ Some b → Stands wg s.slots q b) [
        | true ↦ λ t here. absurd (p.1 (sym of ∙ sym (same-key q x.slot t)))
        | false ↦ λ t there. (b, there, refl, refl, refl)
      ] refl (sym (body-stored s w x q is whole) ∙ p.0)

  -- each of which has its entry
  exact-withdrawn : is_untouched s w ≡ true → TracksExactly wg (purged (finished s w) (slot k)) m
  exact-withdrawn whole q b complete =
      let p = stands-purged (finished s w) (slot k) q b complete in
      elim (eq_by_cmp nat_cmp q x.slot) as (λ t. eq_by_cmp nat_cmp q x.slot ≡ t → cond t (Some (record { meta = x.meta; bytes = x.bytes })) (complete_body (get s.slots q)) ≡ Some b → (e : CacheEntryKey) × (entry_slot e ≡ q) × (get m e ≡ Some (body_weight wg b)) × (id_of e ≡ b.meta.entry_id)) [
        | true ↦ λ t here. absurd (p.1 (sym of ∙ sym (same-key q x.slot t)))
        | false ↦ λ t there. others q b (λ same. p.1 (sym same)) there
      ] refl (sym (body-stored s w x q is whole) ∙ p.0)

  kept-withdrawn : (Lets : LockStatus → Type 0) (e : ErrorType) (s' : Store) (m' : Tracked) → Withdraws true Lets k w e s s' m m' → IsKept wg limits m' s'
  kept-withdrawn Lets e s' m' ends =
      subst (λ n. IsKept wg limits n s') (sym ends.tracked)
      (elim ends.purged [
        | inl gone ↦ subst (IsKept wg limits m) (sym gone) (record { exact = exact-withdrawn ends.untouched; bounded = bounded-fewer wg limits s (purged (finished s w) (slot k)) (fewer-withdrawn ends.untouched) bounded; newest = mode-finished s w ∙ mode })
        | inr never ↦ let no : true ≡ false = never.0 in absurd (cc)
      ])

kept-drops : (wg : Weighing) (limits : Limits) (Lets : LockStatus → Type 0) (w : ℕ) (e : ErrorType) (s s' : Store) (m m' : Tracked) → Drops Lets w e s s' m m' → IsKept wg limits m s → IsKept wg limits m' s'
kept-drops wg limits Lets w e s s' m m' drops kept =
    subst (λ n. IsKept wg limits n s') (sym drops.tracked) (subst (IsKept wg limits m) (sym drops.dropped) (kept_fewer wg limits m s (dropped s w) (fewer-dropped wg s w) (mode-dropped s w) kept))

-- a write of the key of a slot
pub written-under : (k w : ℕ) (s : Store) → is_write_under k w (get s.writes w) ≡ true → (x : Written) × (get s.writes w ≡ Some x) × (x.slot ≡ k) × (x.meta.entry_id ≡ Some w)
written-under k w s own =
    elim (get s.writes w) as (λ o. get s.writes w ≡ o → is_write_under k w o ≡ true → (x : Written) × (get s.writes w ≡ Some x) × (x.slot ≡ k) × (x.meta.entry_id ≡ Some w)) [
      | None ↦ λ is no. absurd (cc)
      | Some x ↦ λ is yes. let p = and_parts _ _ yes in (x, is, eqb-true x.slot k p.0, is-some x.meta.entry_id w p.1)
    ] refl own
  where
    is-some : (o : Option ℕ) (w : ℕ) → option_eq nat_eq o (Some w) ≡ true → o ≡ Some w
    is-some None w h = absurd (cc)
    is-some (Some x) w h = ap Some (eqb-true x w h)

-- any end of a write of a key
pub kept_body : (wg : Weighing) (limits : Limits) (Lets : LockStatus → Type 0) (k : Key) (w : ℕ) (replaced : Option ℕ) (how : WriteEnd) (s s' : Store) (m m' : Tracked) → is_write_under (slot k) w (get s.writes w) ≡ true → EndsBody in_memory true (Some w) Lets k w (entered wg s (Some w)) limits how s s' (tracked_before true k replaced how m) m' → IsKept wg limits m s → IsKept wg limits m' s'
kept_body wg limits Lets k w replaced end.Nothing s s' m m' own ends kept = absurd ends
kept_body wg limits Lets k w replaced (end.Stored f) s s' m m' own ends kept = let x = written-under (slot k) w s own in kept-stored wg limits (without_entry true (compact_of k) replaced m) s k w x.0 x.1 x.2 x.3 (exact-but wg s m k replaced kept.exact) kept.bounded kept.newest Lets f.size f.failed_purges f.evicted.items s' m' ends
kept_body wg limits Lets k w replaced (end.Dropped e) s s' m m' own ends kept = kept-drops wg limits Lets w e s s' m m' ends kept
kept_body wg limits Lets k w replaced (end.Withdrawn e) s s' m m' own ends kept = let x = written-under (slot k) w s own in kept-withdrawn wg limits (without_entry true (compact_of k) replaced m) s k w x.0 x.1 x.2 x.3 (exact-but wg s m k replaced kept.exact) kept.bounded kept.newest Lets e s' m' ends

-- the same end, with what the request uses and the number of its entry apart
abbrev pub EndsOf : Bool → Option ℕ → Option ℕ → Request → Option Key → Option ℕ → MissFinishType → Limits → WriteEnd → Store → Store → Tracked → Tracked → Locks → Locks → Type 0
EndsOf uses id replaced r None None kind limits how s s' m m' t t' = EndsIdle how s s' m m' t t'
EndsOf uses id replaced r (Some k) None kind limits how s s' m m' t t' = EndsIdle how s s' (tracked_before uses k replaced how m) m' t t'
EndsOf uses id replaced r (Some k) (Some w) kind limits how s s' m m' t t' = EndsBody in_memory uses id (λ status. t' ≡ settled status r.held t) k w kind limits how s s' (tracked_before uses k replaced how m) m'
EndsOf uses id replaced r None (Some w) kind limits how s s' m m' t t' = ⊥

pub ends-of : (r : Request) (replaced : Option ℕ) (key : Option Key) (write : Option ℕ) (kind : MissFinishType) (limits : Limits) (how : WriteEnd) (s s' : Store) (m m' : Tracked) (t t' : Locks) → Ends in_memory r key write kind limits how s s' (tracked_before_end r key replaced how m) m' t t' → EndsOf r.uses.eviction r.entry replaced r key write kind limits how s s' m m' t t'
ends-of r replaced None None kind limits how s s' m m' t t' ends = ends
ends-of r replaced (Some k) None kind limits how s s' m m' t t' ends = ends
ends-of r replaced (Some k) (Some w) kind limits how s s' m m' t t' ends = ends
ends-of r replaced None (Some w) kind limits how s s' m m' t t' ends = absurd ends

kept-idle : (wg : Weighing) (limits : Limits) (how : WriteEnd) (s s' : Store) (m m' : Tracked) (t t' : Locks) → EndsIdle how s s' m m' t t' → IsKept wg limits m s → IsKept wg limits m' s'
kept-idle wg limits end.Nothing s s' m m' t t' ends kept = subst (IsKept wg limits m') (sym ends.0) (subst (λ n. IsKept wg limits n s) (sym ends.1) kept)
kept-idle wg limits (end.Stored f) s s' m m' t t' ends kept = absurd ends
kept-idle wg limits (end.Dropped e) s s' m m' t t' ends kept = absurd ends
kept-idle wg limits (end.Withdrawn e) s s' m m' t t' ends kept = absurd ends

pub idle-before : (uses : Bool) (replaced : Option ℕ) (k : Key) (how : WriteEnd) (s s' : Store) (m m' : Tracked) (t t' : Locks) → EndsIdle how s s' (tracked_before uses k replaced how m) m' t t' → EndsIdle how s s' m m' t t'
idle-before uses replaced k end.Nothing s s' m m' t t' ends = ends
idle-before uses replaced k (end.Stored f) s s' m m' t t' ends = absurd ends
idle-before uses replaced k (end.Dropped e) s s' m m' t t' ends = absurd ends
idle-before uses replaced k (end.Withdrawn e) s s' m m' t t' ends = absurd ends

kept-ends : (wg : Weighing) (limits : Limits) (r : Request) (uses : Bool) (id replaced : Option ℕ) (key : Option Key) (write : Option ℕ) (how : WriteEnd) (s s' : Store) (m m' : Tracked) (t t' : Locks)
    → uses ≡ true → id ≡ write → is_own_write s key write ≡ true → EndsOf uses id replaced r key write (entered wg s write) limits how s s' m m' t t' → IsKept wg limits m s → IsKept wg limits m' s'
kept-ends wg limits r uses id replaced None None how s s' m m' t t' used none own ends kept = kept-idle wg limits how s s' m m' t t' ends kept
kept-ends wg limits r uses id replaced (Some k) None how s s' m m' t t' used none own ends kept = kept-idle wg limits how s s' m m' t t' (idle-before uses replaced k how s s' m m' t t' ends) kept
kept-ends wg limits r uses id replaced None (Some w) how s s' m m' t t' used none own ends kept = absurd (cc)
kept-ends wg limits r uses id replaced (Some k) (Some w) how s s' m m' t t' used none own ends kept =
    kept_body wg limits (λ status. t' ≡ settled status r.held t) k w replaced how s s' m m' own
    (subst (λ i. EndsBody in_memory true i (λ status. t' ≡ settled status r.held t) k w (entered wg s (Some w)) limits how s s' (tracked_before true k replaced how m) m') none (subst (λ u. EndsBody in_memory u id (λ status. t' ≡ settled status r.held t) k w (entered wg s (Some w)) limits how s s' (tracked_before u k replaced how m) m') used ends)) kept

kept-by : (wg : Weighing) (limits : Limits) (r : Request) (replaced : Option ℕ) (s s' : Store) (m m' : Tracked) (t t' : Locks) (how : WriteEnd) → MayEnd s r → r.entry ≡ r.write → Ends in_memory r r.key r.write (entered wg s r.write) limits how s s' (tracked_before_end r r.key replaced how m) m' t t' → IsKept wg limits m s → IsKept wg limits m' s'
kept-by wg limits r replaced s s' m m' t t' how may none ends kept =
    kept-ends wg limits r r.uses.eviction r.entry replaced r.key r.write how s s' m m' t t' may.uses none may.own (ends-of r replaced r.key r.write (entered wg s r.write) limits how s s' m m' t t' ends) kept

pub kept_finished : (wg : Weighing) (limits : Limits) (r : Request) (replaced : Option ℕ) (n : ℕ) (s s' : Store) (m m' : Tracked) (t t' : Locks) (result : Result (Option FinishReport) ErrorType) → MayEnd s r → r.entry ≡ r.write → n ≡ ending_weight wg s r.write
    → EndsAs result (λ how. Ends in_memory r r.key r.write (Created n) limits how s s' (tracked_before_end r r.key replaced how m) m' t t') → IsKept wg limits m s → IsKept wg limits m' s'
kept_finished wg limits r replaced n s s' m m' t t' result may none weighs ends kept =
    any-end result (subst (λ y. EndsAs result (λ how. Ends in_memory r r.key r.write (Created y) limits how s s' (tracked_before_end r r.key replaced how m) m' t t')) weighs ends)
  where
    any-end : (result : Result (Option FinishReport) ErrorType) → EndsAs result (λ how. Ends in_memory r r.key r.write (entered wg s r.write) limits how s s' (tracked_before_end r r.key replaced how m) m' t t') → IsKept wg limits m' s'
    any-end (Ok None) ends = kept-by wg limits r replaced s s' m m' t t' end.Nothing may none ends kept
    any-end (Ok (Some f)) ends = kept-by wg limits r replaced s s' m m' t t' (end.Stored f) may none ends kept
    any-end (Err e) (inl ends) = kept-by wg limits r replaced s s' m m' t t' (end.Dropped e) may none ends kept
    any-end (Err e) (inr ends) = kept-by wg limits r replaced s s' m m' t t' (end.Withdrawn e) may none ends kept

-- the entry of a write of the store in memory has the write's number
pub same-number : {X : Type 0} (number : X → ℕ) (o : Option X) → option_and_then (λ x. Some (number x)) o ≡ option_map number o
same-number number None = refl
same-number number (Some x) = refl
