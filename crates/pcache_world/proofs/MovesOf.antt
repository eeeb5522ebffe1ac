-- Moves of the parts, put together: an event, a reader that comes or goes, and then the rest.
use Rattle.std.specs.Option.{option_map}
use Rattle.pcache_meta.specs.Meta.{expired_at}
use Rattle.pcache_evict.specs.Tracked.{added}
use Rattle.pcache_request.specs.Finishing.{Admits}
use Rattle.pcache_request.specs.Phases.{is_treated_as_miss}
use Rattle.pcache_request.specs.Requests.{Request, tracked_found, tracked_found_at, store_writing}
use Rattle.pcache_request.specs.Renewals.{with_meta_of}
use Rattle.pcache_store.specs.Store.{Reader, end_or, is_forward, find, begun}
use Rattle.pcache_history.specs.Facts.{Facts}
use Rattle.pcache_history.specs.Ongoing.{sought_in}
use Rattle.pcache_history.specs.Rules.{Finishes}
use Rattle.pcache_world.specs.Moved.{Did}
use Rattle.pcache_world.specs.Step.{permit_in, store_ended}
use Rattle.pcache_history.proofs.Exact.{names_only, entry_names}
use Rattle.pcache_world.proofs.Words.{in_memory, ◌≡◌, ℕ, ◌+◌, ◌≤◌, ◌==◌, ◌&&◌, nat_lt, length, Bool, true, false, Option, None, Some, is_some, IsSome, IfSome, List, [], ◌∷◌, ◌++◌, cond, if◌then◌else◌, refl, ap, sym, subst, ◌∙◌, arith, inl, inr, ◌⊎◌, Result, Ok, Err, IfOk, OnOk, OnErr, get, remove, Key, slot, ErrorType, OutOfMemory, WriteRemoved, Poll, Meta, in_place_of, numbered, Tracked, Limits, CacheEntryKey, Locks, Decision, after_finish, PurgesAll, IsFilling, IsOn, CachePhase, AskedLock, settled, left_by, asks_as_stale, asks_for_hit, with_lock, locked_found, found_row, store_found, counts_found, entry_of, begun_for, followed_for, writing, reader_in, dropped_by, has_body, finishes_of, FinishReport, WriteEnd, HitStatus, created, entry_purged, MayFailFinish, Store, Whole, Part, reader_after, reader_weight, read_of, followed, left, new_write, finished, dropped, purged, meta_changed, is_untouched, written_size, meta_set, write_read, Answer, Event, IsOfWorld, slot_of, Ongoing, pair_of, with_sought, pair_reader, Joins, Leaves, At, after_event, after_join, after_leave, IsNextAt, IsThereFor, IsSame, MovesBy, Moves, MovesStore, reads_of, at_call, evicted_from, permit_of, accesses, each, drop_of, untrack_of, follows, readers_in, asking, renewing, refused_end, same-number}
use Rattle.pcache_request.specs.declared.phase.CachePhase.TheVariants as phase
use Rattle.pcache_request.specs.WriteEnds as write_ends
use Rattle.pcache_request.specs.declared.cache.finish.WriteEnd.TheVariants as end
use Rattle.pcache_store.specs.Store as store
use Rattle.pcache_history.specs.declared.call.Reply.TheVariants as R
use Rattle.pcache_history.specs.declared.entry.Event.TheVariants as E
use Rattle.pcache_world.proofs.Oldest.{dropped_ends}
use Rattle.pcache_world.proofs.StateAnswers.{found-kept}
use Rattle.pcache_world.proofs.StateCalls.{begun-joins}
use Rattle.pcache_world.proofs.StateWrites.{part_of, read_in, get-set, get-unset}

-- events of locks: they may come wherever nothing is owed, and leave the parts as they are
abbrev pub IsQuiet : Event → Type 0
IsQuiet (E.Ask k n b) = Unit {0}
IsQuiet (E.Release n) = Unit {0}
IsQuiet (E.LetGo n) = Unit {0}
IsQuiet (E.Aged n) = Unit {0}
IsQuiet _ = ⊥

abbrev pub AreQuiet : List Event → Type 0
AreQuiet [] = Unit {0}
AreQuiet (e ∷ es) = IsQuiet e × AreQuiet es

pub quiet-each : (f : ℕ → Event) (o : Option ℕ) → ((n : ℕ) → IsQuiet (f n)) → AreQuiet (each f o)
quiet-each f None g = tt
quiet-each f (Some n) g = (g n, tt)

pub quiet-noted : (f : ℕ → Event) (o : Option ℕ) (old events : List Event) → ((n : ℕ) → IsQuiet (f n)) → old ≡ [] → events ≡ old ++ each f o → AreQuiet events
quiet-noted f o old events g none is = subst AreQuiet (sym (is ∙ ap (λ es. es ++ each f o) none)) (quiet-each f o g)

pub quiet-asking : (k : ℕ) (a : Option AskedLock) → AreQuiet (asking k a)
quiet-asking k None = tt
quiet-asking k (Some a) = (tt, quiet-each E.LetGo (permit_in a.replaced) (λ n. tt))

module _ (limits : Limits) (q : Option Ongoing) where
  pub stop : (a b : At) → IsSame a b → MovesBy limits q [] a b
  stop a b same = ([], refl, same)

  pub does : (e : Event) (events : List Event) (a b : At) → IsNextAt limits a.owed a q e → MovesBy limits q events (after_event e a) b → MovesBy limits q (e ∷ events) a b
  does e events a b due rest = (Did e ∷ rest.0, ap (λ xs. e ∷ xs) rest.1, (due, rest.2))

  pub joins : (p : Option (Meta × Reader)) (events : List Event) (a b : At) → IsThereFor a.store (pair_reader p) → MovesBy limits q events (after_join p a) b → MovesBy limits q events a b
  joins p events a b there rest = (Joins p ∷ rest.0, rest.1, (there, rest.2))

  pub leaves : (r : Option Reader) (m : ℕ → ℕ) (events : List Event) (a b : At) → ((w : ℕ) → a.count w ≡ m w + follows w r) → MovesBy limits q events (after_leave m r a) b → MovesBy limits q events a b
  leaves r m events a b count rest = (Leaves r ∷ rest.0, rest.1, (m, count, rest.2))

  quiet-due : (a : At) (e : Event) → a.owed ≡ None → IsNextAt limits None a q e → IsNextAt limits a.owed a q e
  quiet-due a e none due = subst (λ o. IsNextAt limits o a q e) (sym none) due

  pub quietly : (more : List Event) (a b : At) → AreQuiet more → a.owed ≡ None → IsSame a b → MovesBy limits q more a b
  quietly [] a b are none same = stop a b same
  quietly (E.Ask k n x ∷ more) a b are none same = does (E.Ask k n x) more a b (quiet-due a (E.Ask k n x) none tt) (quietly more a b are.1 none same)
  quietly (E.Release n ∷ more) a b are none same = does (E.Release n) more a b (quiet-due a (E.Release n) none tt) (quietly more a b are.1 none same)
  quietly (E.LetGo n ∷ more) a b are none same = does (E.LetGo n) more a b (quiet-due a (E.LetGo n) none tt) (quietly more a b are.1 none same)
  quietly (E.Aged n ∷ more) a b are none same = does (E.Aged n) more a b (quiet-due a (E.Aged n) none tt) (quietly more a b are.1 none same)
  quietly (e ∷ more) a b are none same = absurd are.0

  -- a permit is released, whatever is owed
  releases : (o : Option ℕ) (events : List Event) (a b : At) → MovesBy limits q events a b → MovesBy limits q (each E.Release o ++ events) a b
  releases None events a b rest = rest
  releases (Some n) events a b rest = does (E.Release n) events a b (elim a.owed as (λ o. IsNextAt limits o a q (E.Release n)) [ None ↦ tt | Some c ↦ tt ]) rest

  -- a hit that counts is noted
  accessing : (s : HitStatus) (k : Key) (h : Reader) (x : Request) (events : List Event) (a b : At) → a.owed ≡ None
      → MovesBy limits q events (record a { tracked = cond (counts_found s h x) (added a.tracked (entry_of k (write_read h)) (reader_weight h)) a.tracked }) b → MovesBy limits q (accesses s k h x ++ events) a b
  accessing s k h x events a b none =
      elim (counts_found s h x) as (λ c. MovesBy limits q events (record a { tracked = cond c (added a.tracked (entry_of k (write_read h)) (reader_weight h)) a.tracked }) b → MovesBy limits q ((if c then E.Access (entry_of k (write_read h)) (reader_weight h) ∷ [] else []) ++ events) a b) [
        | true ↦ λ rest. does (E.Access (entry_of k (write_read h)) (reader_weight h)) events a b (quiet-due a (E.Access (entry_of k (write_read h)) (reader_weight h)) none tt) rest
        | false ↦ λ rest. rest
      ]

  -- a write that is dropped, if there is one
  pub drops : (o : Option ℕ) (events : List Event) (a b : At) → a.write ≡ o → a.owed ≡ None → MovesBy limits q events (record a { write = None; store = dropped_by o a.store }) b → MovesBy limits q (drop_of o ++ events) a b
  drops None events a b is none rest = subst (λ o. MovesBy limits q events (record a { write = o }) b) (sym is) rest
  drops (Some w) events a b is none rest = does (E.Dropped w) events a b (quiet-due a (E.Dropped w) none is) rest

-- caching is on if a write may be made
pub fill-on : (p : CachePhase) → IsFilling p → IsOn p
fill-on phase.Miss fills = tt
fill-on phase.Expired fills = tt
fill-on p fills = absurd fills

-- nothing at all
pub idle : (q q' : Option Ongoing) (s s' : Store) (events : List Event) → events ≡ [] → q' ≡ q → s' ≡ s → MovesStore q s events q' s'
idle q q' s s' events done same kept limits m =
    subst (λ xs. Moves limits q s m xs q' s' m) (sym done) (subst (λ (t : Store). Moves limits q s m [] q' t m) (sym kept) (subst (λ (x : Option Ongoing). Moves limits q s m [] x s m) (sym same)
    (stop limits q (at_call q s m) (at_call q s m) (record { count = λ w. refl; write = refl; owed = refl; store = refl; tracked = refl }))))

abbrev pub with_pair : Option Decision → Option (Meta × Reader) → Request → Ongoing
with_pair d p x = record { request = x; pair = p; carried = d; put = None }

-- ---- what a look-up finds

-- it is there
there-for : (s : Store) (p : Option (Meta × Reader)) → ((w : ℕ) (place : ℕ) → pair_reader p ≡ Some (Part w place) → is_some (get s.writes w) ≡ true) → IsThereFor s (pair_reader p)
there-for s None f = tt
there-for s (Some p) f = inner p.1 (λ w place e. f w place (ap Some e))
  where
    inner : (r : Reader) → ((w place : ℕ) → r ≡ Part w place → is_some (get s.writes w) ≡ true) → IsThereFor s (Some r)
    inner (Whole id body start stop done) f = tt
    inner (Part w place) f = f w place refl

found-there : (s : Store) (k w place : ℕ) → pair_reader (find s k) ≡ Some (Part w place) → is_some (get s.writes w) ≡ true
found-there s k w place e = found-kept s k w (inner (find s k) e)
  where
    inner : (p : Option (Meta × Reader)) → pair_reader p ≡ Some (Part w place) → part_of p ≡ Some w
    inner None e = absurd (cc)
    inner (Some p) e = let is : p.1 ≡ Part w place = cc in ap read_in is

pub found-for-there : (s : Store) (k : ℕ) (p : Option (Meta × Reader)) → p ≡ find s k → IsThereFor s (pair_reader p)
found-for-there s k p is = subst (λ o. IsThereFor s (pair_reader o)) (sym is) (there-for s (find s k) (found-there s k))

-- it is held instead of an older pair
pub noted : (x y : Ongoing) (s u : Store) (k : ℕ) (a : Answer) (p : Option (Meta × Reader)) (more events : List Event) → pair_of a ≡ p → p ≡ find s k → AreQuiet more → events ≡ E.Look k a ∷ more
    → y.pair ≡ p → y.request.reader ≡ x.request.reader → y.request.write ≡ x.request.write → u ≡ left_by (pair_reader x.pair) (followed s p) → MovesStore (Some x) s events (Some y) u
noted x y s u k a p more events told found are is held reads made left limits m =
    let q : Option Ongoing = Some x in
    let first = at_call q s m in
    let last = at_call (Some y) u m in
    let second = after_join p first in
    let l : ℕ → ℕ = reads_of (Some y) in
    subst (λ xs. Moves limits q s m xs (Some y) u m) (sym is)
    (does limits q (E.Look k a) more first last (told ∙ found)
    (joins limits q p more first last (found-for-there s k p found)
    (leaves limits q (pair_reader x.pair) l more second last (λ w.
    let b : follows w (pair_reader y.pair) ≡ follows w (pair_reader p) = ap (λ o. follows w (pair_reader o)) held in
    let c : follows w y.request.reader ≡ follows w x.request.reader = ap (follows w) reads in
    let goal : follows w x.request.reader + follows w (pair_reader x.pair) + follows w (pair_reader p) ≡ follows w y.request.reader + follows w (pair_reader y.pair) + follows w (pair_reader x.pair) = omega arith in goal)
    (quietly limits q more (after_leave l (pair_reader x.pair) second) last are refl (record { count = λ w. refl; write = made; owed = refl; store = left; tracked = refl })))))

-- it can't be noted, and is let go again
pub unnoted : (x y : Ongoing) (s u : Store) (k : ℕ) (p : Meta × Reader) (events : List Event) → Some p ≡ find s k → events ≡ [] → y.pair ≡ x.pair → y.request.reader ≡ x.request.reader → y.request.write ≡ x.request.write
    → u ≡ left (followed s (Some p)) p.1 → MovesStore (Some x) s events (Some y) u
unnoted x y s u k p events found none held reads made left limits m =
    let q : Option Ongoing = Some x in
    let first = at_call q s m in
    let last = at_call (Some y) u m in
    let second = after_join (Some p) first in
    let l : ℕ → ℕ = reads_of (Some y) in
    subst (λ xs. Moves limits q s m xs (Some y) u m) (sym none)
    (joins limits q (Some p) [] first last (found-for-there s k (Some p) found)
    (leaves limits q (Some p.1) l [] second last (λ w.
    let b : follows w (pair_reader y.pair) ≡ follows w (pair_reader x.pair) = ap (λ o. follows w (pair_reader o)) held in
    let c : follows w y.request.reader ≡ follows w x.request.reader = ap (follows w) reads in
    let goal : follows w x.request.reader + follows w (pair_reader x.pair) + follows w (Some p.1) ≡ follows w y.request.reader + follows w (pair_reader y.pair) + follows w (Some p.1) = omega arith in goal)
    (stop limits q (after_leave l (Some p.1) second) last (record { count = λ w. refl; write = made; owed = refl; store = left; tracked = refl }))))

-- a pair that goes
pub let-go : (x y : Ongoing) (s u : Store) (events : List Event) → events ≡ [] → y.pair ≡ None → y.request.reader ≡ x.request.reader → y.request.write ≡ x.request.write → u ≡ left_by (pair_reader x.pair) s → MovesStore (Some x) s events (Some y) u
let-go x y s u events none held reads made left limits m =
    let q : Option Ongoing = Some x in
    let first = at_call q s m in
    let last = at_call (Some y) u m in
    let l : ℕ → ℕ = reads_of (Some y) in
    subst (λ xs. Moves limits q s m xs (Some y) u m) (sym none)
    (leaves limits q (pair_reader x.pair) l [] first last (λ w.
    let b : follows w (pair_reader y.pair) ≡ 0 = ap (λ o. follows w (pair_reader o)) held in
    let c : follows w y.request.reader ≡ follows w x.request.reader = ap (follows w) reads in
    let goal : follows w x.request.reader + follows w (pair_reader x.pair) ≡ follows w y.request.reader + follows w (pair_reader y.pair) + follows w (pair_reader x.pair) = omega arith in goal)
    (stop limits q (after_leave l (pair_reader x.pair) first) last (record { count = λ w. refl; write = made; owed = refl; store = left; tracked = refl })))

-- it is reported, and is let go again with an older pair
pub hidden : (x y : Ongoing) (s u : Store) (k : ℕ) (a : Answer) (p : Meta × Reader) (more events : List Event) → pair_of a ≡ Some p → Some p ≡ find s k → AreQuiet more → events ≡ E.Look k a ∷ more
    → y.pair ≡ None → y.request.reader ≡ x.request.reader → y.request.write ≡ x.request.write → u ≡ left_by (pair_reader x.pair) (left (followed s (Some p)) p.1) → MovesStore (Some x) s events (Some y) u
hidden x y s u k a p more events told found are is held reads made to limits m =
    let q : Option Ongoing = Some x in
    let first = at_call q s m in
    let last = at_call (Some y) u m in
    let second = after_join (Some p) first in
    let l : ℕ → ℕ = reads_of (Some x) in
    let z : ℕ → ℕ = reads_of (Some y) in
    let third = after_leave l (Some p.1) second in
    subst (λ xs. Moves limits q s m xs (Some y) u m) (sym is)
    (does limits q (E.Look k a) more first last (told ∙ found)
    (joins limits q (Some p) more first last (found-for-there s k (Some p) found)
    (leaves limits q (Some p.1) l more second last (λ w. refl)
    (leaves limits q (pair_reader x.pair) z more third last (λ w.
    let b : follows w (pair_reader y.pair) ≡ 0 = ap (λ o. follows w (pair_reader o)) held in
    let c : follows w y.request.reader ≡ follows w x.request.reader = ap (follows w) reads in
    let goal : follows w x.request.reader + follows w (pair_reader x.pair) ≡ follows w y.request.reader + follows w (pair_reader y.pair) + follows w (pair_reader x.pair) = omega arith in goal)
    (quietly limits q more (after_leave z (pair_reader x.pair) third) last are refl (record { count = λ w. refl; write = made; owed = refl; store = to; tracked = refl }))))))

-- ---- what was found is taken

locked-write : (s : HitStatus) (t : Locks) (x : Request) → (locked_found s t x).write ≡ x.write
locked-write s t x = elim (asks_for_hit s x) as (λ b. (cond b (with_lock (asks_as_stale s x.phase) t x.key x) x).write ≡ x.write) [ true ↦ elim x.key as (λ k. (with_lock (asks_as_stale s x.phase) t k x).write ≡ x.write) [ None ↦ refl | Some k ↦ refl ] | false ↦ refl ]

pub found-write : (s : HitStatus) (m : Meta) (h : Reader) (t : Locks) (x : Request) → (found_row s m h t x).write ≡ x.write
found-write s m h t x = locked-write s t x

-- the reader before it, or the hit that is treated as a miss too, is let go
pub takes : (d : Option Decision) (x : Request) (y : Ongoing) (p : Meta × Reader) (s u : Store) (m m' : Tracked) (limits : Limits) (status : HitStatus) (k : Key) (more events : List Event) → AreQuiet more → events ≡ accesses status k p.1 x ++ more → x.key ≡ Some k → y.pair ≡ None
    → y.request.reader ≡ cond (is_treated_as_miss status) None (Some p.1) → y.request.write ≡ x.write → u ≡ store_found status p.1 x s → m' ≡ tracked_found status p.1 (write_read p.1) x m
    → Moves limits (Some (with_pair d (Some p) x)) s m events (Some y) u m'
takes d x y p s u m m' limits status k more events are is key held reads made to tracked =
    subst (λ xs. Moves limits q s m xs (Some y) u m') (sym is)
    (subst (λ (z : Store). MovesBy limits q done first (at_call (Some y) z m')) (sym to)
    (elim (is_treated_as_miss status) as (λ b. y.request.reader ≡ cond b None (Some p.1) → MovesBy limits q done first (at_call (Some y) (left_by x.reader (cond b (left s p.1) s)) m')) [
      | true ↦ λ r. leaves limits q (Some p.1) only done first (at_call (Some y) (left_by x.reader (left s p.1)) m') (λ w. refl) (rest (left s p.1) (after_leave only (Some p.1) first) refl refl refl refl (λ w.
          let g : follows w y.request.reader ≡ 0 = ap (follows w) r in
          let h : follows w (pair_reader y.pair) ≡ 0 = ap (λ o. follows w (pair_reader o)) held in
          let goal : follows w x.reader ≡ follows w y.request.reader + follows w (pair_reader y.pair) + follows w x.reader = omega arith in goal))
      | false ↦ λ r. rest s first refl refl refl refl (λ w.
          let g : follows w y.request.reader ≡ follows w (Some p.1) = ap (follows w) r in
          let h : follows w (pair_reader y.pair) ≡ 0 = ap (λ o. follows w (pair_reader o)) held in
          let goal : follows w x.reader + follows w (Some p.1) ≡ follows w y.request.reader + follows w (pair_reader y.pair) + follows w x.reader = omega arith in goal)
    ] reads))
  where
    q : Option Ongoing
    q = Some (with_pair d (Some p) x)

    first : At
    first = at_call q s m

    done : List Event
    done = accesses status k p.1 x ++ more

    only : ℕ → ℕ
    only w = follows w x.reader

    l : ℕ → ℕ
    l = reads_of (Some y)

    rest : (t : Store) (a : At) → a.store ≡ t → a.owed ≡ None → a.write ≡ x.write → a.tracked ≡ m → ((w : ℕ) → a.count w ≡ l w + follows w x.reader) → MovesBy limits q done a (at_call (Some y) (left_by x.reader t) m')
    rest t a at none write before count =
        let second = after_leave l x.reader a in
        let last = at_call (Some y) (left_by x.reader t) m' in
        leaves limits q x.reader l done a last count
        (accessing limits q status k p.1 x more second last none
        (quietly limits q more (record second { tracked = cond (counts_found status p.1 x) (added a.tracked (entry_of k (write_read p.1)) (reader_weight p.1)) a.tracked }) last are none
        (record {
          count = λ w. refl;
          write = made ∙ sym write;
          owed = sym none;
          store = ap (left_by x.reader) (sym at);
          tracked = tracked ∙ ap (λ o. tracked_found_at status p.1 (write_read p.1) x o m) key ∙ ap (λ (n : Tracked). cond (counts_found status p.1 x) (added n (entry_of k (write_read p.1)) (reader_weight p.1)) n) (sym before);
        })))

-- it fails, and the hit is let go
pub untaken : (d : Option Decision) (x : Request) (y : Ongoing) (p : Meta × Reader) (s u : Store) (m m' : Tracked) (limits : Limits) (status : HitStatus) (k : Key) (events : List Event) → events ≡ accesses status k p.1 x → x.key ≡ Some k → y.pair ≡ None → y.request.reader ≡ x.reader → y.request.write ≡ x.write
    → u ≡ left s p.1 → m' ≡ tracked_found status p.1 (write_read p.1) x m → Moves limits (Some (with_pair d (Some p) x)) s m events (Some y) u m'
untaken d x y p s u m m' limits status k events is key held reads made to tracked =
    let q : Option Ongoing = Some (with_pair d (Some p) x) in
    let first = at_call q s m in
    let last = at_call (Some y) u m' in
    let l : ℕ → ℕ = reads_of (Some y) in
    let second = after_leave l (Some p.1) first in
    subst (λ xs. Moves limits q s m xs (Some y) u m') (sym (is ∙ sym (append-none (accesses status k p.1 x))))
    (leaves limits q (Some p.1) l (accesses status k p.1 x ++ []) first last (λ w.
    let b : follows w (pair_reader y.pair) ≡ 0 = ap (λ o. follows w (pair_reader o)) held in
    let c : follows w y.request.reader ≡ follows w x.reader = ap (follows w) reads in
    let goal : follows w x.reader + follows w (Some p.1) ≡ follows w y.request.reader + follows w (pair_reader y.pair) + follows w (Some p.1) = omega arith in goal)
    (accessing limits q status k p.1 x [] second last refl
    (stop limits q (record second { tracked = cond (counts_found status p.1 x) (added m (entry_of k (write_read p.1)) (reader_weight p.1)) m }) last
    (record { count = λ w. refl; write = made; owed = refl; store = to; tracked = tracked ∙ ap (λ o. tracked_found_at status p.1 (write_read p.1) x o m) key }))))
  where
    append-none : (xs : List Event) → xs ++ [] ≡ xs
    append-none [] = refl
    append-none (e ∷ xs) = ap (λ ys. e ∷ ys) (append-none xs)

-- what holds of a result that is one of the two
pub on-ok : {A E P : Type 0} (r : Result A E) (a : A) → r ≡ Ok a → OnOk r P → P
on-ok (Ok b) a is h = h
on-ok (Err e) a is h = absurd (cc)

pub on-err : {A E P : Type 0} (r : Result A E) (e : E) → r ≡ Err e → OnErr r P → P
on-err (Ok b) e is h = absurd (cc)
on-err (Err d) e is h = h

-- ---- a write that begins

-- the number of a write that was noted is the next one
same-next : (w n : ℕ) (o : Option ℕ) → o ≡ Some w → o ≡ Some n → w ≡ n
same-next w n o a b = let is : ◌≡◌ {A = Option ℕ} (Some w) (Some n) = sym a ∙ b in cc

module _ (d : Option Decision) (x y : Request) (p : Option (Meta × Reader)) (s u : Store) (k : Key) (meta : Meta) (w : ℕ) (j : ℕ) (n : Meta) (o : Option ℕ) (old events : List Event) (key : x.key ≡ Some k) (has : x.meta ≡ Some meta) (free : x.write ≡ None)
    (wrote : y.write ≡ Some w) (at : j ≡ slot k) (copy : n ≡ meta) (permit : o ≡ permit_of x.held) (none : old ≡ []) (is : events ≡ old ++ E.Begin w j n ∷ each E.Release o) (made : y.write ≡ Some s.next) where
  abbrev pub beginning : Option Ongoing
  beginning = Some (with_pair d p x)

  abbrev pub begin_noted : List Event
  begin_noted = E.Begin s.next (slot k) meta ∷ each E.Release o

  -- what is noted of it
  began-events : begin_noted ≡ events
  began-events = let same = same-next w s.next y.write wrote made in sym (is ∙ ap (λ es. es ++ E.Begin w j n ∷ each E.Release o) none ∙ (λ i. E.Begin (same i) (at i) (copy i) ∷ each E.Release o))

  own : slot_of beginning ≡ Some (slot k)
  own = ap (option_map slot) key

  -- the request follows it instead of its older reader
  pub begins-joined : y ≡ writing true s.next (Some s.next) (begun_for x.key x.meta s) x → u ≡ store_writing true s.next x s → MovesStore beginning s events (Some (with_pair d p y)) u
  begins-joined now left limits m =
      let first = at_call beginning s m in
      let last = at_call (Some (with_pair d p y)) u m in
      let pair : Option (Meta × Reader) = Some (numbered s.next meta, Part s.next 0) in
      let begins = after_event (E.Begin s.next (slot k) meta) first in
      let follows-it = after_join pair begins in
      let l : ℕ → ℕ = reads_of (Some (with_pair d p y)) in
      let reads : y.reader ≡ Some (Part s.next 0) = ap (λ (z : Request). z.reader) now ∙ (λ i. reader_in (followed_for (key i) s.next (begun_for (key i) (has i) s))) ∙ ap reader_in (begun-joins s (slot k) meta) in
      let there : IsThereFor (begun s (slot k) meta) (Some (Part s.next 0)) = let v = new_write (slot k) (numbered s.next meta) in ap is_some (get-set s.writes s.next v s.next) ∙ ap (λ b. is_some (cond b (Some v) (get s.writes s.next))) (same-number s.next) in
      let to : u ≡ left_by x.reader (followed (begun s (slot k) meta) pair) =
      left ∙ (λ i. left_by x.reader (followed (begun_for (key i) (has i) s) (followed_for (key i) s.next (begun_for (key i) (has i) s))))
      ∙ ap (λ z. left_by x.reader (followed (begun s (slot k) meta) z)) (begun-joins s (slot k) meta) in
      subst (λ xs. Moves limits beginning s m xs (Some (with_pair d p y)) u m) began-events
      (does limits beginning (E.Begin s.next (slot k) meta) (each E.Release o) first last (refl, free, own)
      (joins limits beginning pair (each E.Release o) begins last there
      (leaves limits beginning x.reader l (each E.Release o) follows-it last (λ v.
      let b : follows v y.reader ≡ follows v (Some (Part s.next 0)) = ap (follows v) reads in
      let goal : follows v x.reader + follows v (pair_reader p) + follows v (Some (Part s.next 0)) ≡ follows v y.reader + follows v (pair_reader p) + follows v x.reader = omega arith in goal)
      (quietly limits beginning (each E.Release o) (after_leave l x.reader follows-it) last (quiet-each E.Release o (λ _. tt)) refl (record { count = λ v. refl; write = made; owed = refl; store = to; tracked = refl })))))

  -- the request's reader can't follow it
  pub begins-refused : y.reader ≡ x.reader → u ≡ begun_for x.key x.meta s → MovesStore beginning s events (Some (with_pair d p y)) u
  begins-refused reads left limits m =
      let first = at_call beginning s m in
      let last = at_call (Some (with_pair d p y)) u m in
      subst (λ xs. Moves limits beginning s m xs (Some (with_pair d p y)) u m) began-events
      (does limits beginning (E.Begin s.next (slot k) meta) (each E.Release o) first last (refl, free, own)
      (quietly limits beginning (each E.Release o) (after_event (E.Begin s.next (slot k) meta) first) last (quiet-each E.Release o (λ _. tt)) refl
      (record { count = λ v. ap (λ r. follows v r + follows v (pair_reader p)) reads; write = made; owed = refl; store = left ∙ (λ i. begun_for (key i) (has i) s); tracked = refl })))

-- ---- the end of a write

purges-are : (s t : Store) (out : List CacheEntryKey) (n : ℕ) → n ≡ 0 → PurgesAll true s out n t → t ≡ evicted_from s out
purges-are s t [] n z h = h.1
purges-are s t (e ∷ out) n z (inl h) = purges-are (entry_purged true s e) t out n z h
purges-are s t (e ∷ out) n z (inr h) = let is = h.1 in absurd (omega arith)

finish-reader : (x : Request) → (after_finish x).reader ≡ x.reader
finish-reader x = elim (is_some x.write) as (λ b. (cond b (record x { write = None; entry = None; held = None }) x).reader ≡ x.reader) [ true ↦ refl | false ↦ refl ]

finish-write : (x : Request) (w : ℕ) → x.write ≡ Some w → (after_finish x).write ≡ None
finish-write x w e = ap (λ o. (cond (is_some o) (record x { write = None; entry = None; held = None }) x).write) e

module _ (d : Option Decision) (x y : Request) (p : Option (Meta × Reader)) (s u : Store) (k : Key) (w : ℕ) (limits : Limits) (m m' : Tracked) (t t' : Locks) (o : Option ℕ) (old : List Event)
    (key : x.key ≡ Some k) (has : x.write ≡ Some w) (none : old ≡ []) (now : y ≡ after_finish x) where
  abbrev pub before : Option Ongoing
  before = Some (with_pair d p x)

  abbrev pub after : Option Ongoing
  after = Some (with_pair d p y)

  abbrev pub first : At
  first = at_call before s m

  abbrev pub last : At
  last = at_call after u m'

  abbrev pub stored : At
  stored = after_event (E.Finish w true) first

  made : y.write ≡ None
  made = ap (λ (z : Request). z.write) now ∙ finish-write x w has

  reads : (v : ℕ) → reads_of after v ≡ reads_of before v
  reads v = ap (λ (z : Request). follows v z.reader + follows v (pair_reader p)) now ∙ ap (λ r. follows v r + follows v (pair_reader p)) (finish-reader x)

  own-slot : slot_of before ≡ Some (slot k)
  own-slot = ap (option_map slot) key

  ended-as : (end : WriteEnd) → write_ends.Ends in_memory x x.key x.write (finishes_of (created s) x.write) limits end s u m m' t t' → write_ends.EndsWrite in_memory x k w (created s w) limits end s u m m' t t'
  ended-as end h =
      subst (λ (q : Option ℕ). write_ends.Ends in_memory x (Some k) q (finishes_of (created s) q) limits end s u m m' t t') has
      (subst (λ (q : Option Key). write_ends.Ends in_memory x q x.write (finishes_of (created s) x.write) limits end s u m m' t t') key h)

  -- a body is stored, the permit released, and one more event settles what is owed
  settled-by : (e : Event) (mid events : List Event) → mid ≡ old ++ E.Finish w true ∷ each E.Release o → events ≡ mid ++ e ∷ [] → is_untouched s w ≡ true → IsNextAt limits stored.owed stored before e → IsSame (after_event e stored) last → Moves limits before s m events after u m'
  settled-by e mid events one is up due same =
      subst (λ xs. Moves limits before s m xs after u m') (sym (is ∙ ap (λ es. es ++ e ∷ []) (one ∙ ap (λ es. es ++ E.Finish w true ∷ each E.Release o) none)))
      (does limits before (E.Finish w true) (each E.Release o ++ e ∷ []) first last (has, up)
      (releases limits before o (e ∷ []) stored last (does limits before e [] stored last due (stop limits before (after_event e stored) last same))))

  pub finish-stored : (how : WriteEnd) (f : FinishReport) (e : CacheEntryKey) (mid events : List Event) → how ≡ end.Stored f → IsOfWorld x → x.entry ≡ Some w → e ≡ entry_of k x.entry → write_ends.Ends in_memory x x.key x.write (finishes_of (created s) x.write) limits how s u m m' t t'
      → mid ≡ old ++ E.Finish w true ∷ each E.Release o → events ≡ mid ++ E.Admit e f.size f.evicted.items ∷ [] → Moves limits before s m events after u m'
  finish-stored how f e mid events so world number entry h one is =
      let a = ended-as (end.Stored f) (subst (λ (z : WriteEnd). write_ends.Ends in_memory x x.key x.write (finishes_of (created s) x.write) limits z s u m m' t t') so h) in
      let out = f.evicted.items in
      let size = written_size (get s.writes w) in
      let admits : Admits true limits (created s w) (entry_of k (Some w)) m out m' = subst (λ n. Admits true limits (created s w) (entry_of k n) m out m') number (subst (λ b. Admits b limits (created s w) (entry_of k x.entry) m out m') (world.eviction (fill-on x.phase (world.fills (subst (λ (o : Option ℕ). IsSome o) (sym has) refl)))) a.admitted) in
      let whole : events ≡ mid ++ E.Admit (entry_of k (Some w)) size out ∷ [] = is ∙ (λ i. mid ++ E.Admit (entry i) (a.size_is i) out ∷ []) ∙ ap (λ n. mid ++ E.Admit (entry_of k n) size out ∷ []) number in
      settled-by (E.Admit (entry_of k (Some w)) size out) mid events one whole a.untouched (refl, (slot k, own-slot, entry_names k (Some w)), refl, admits.0)
      (record { count = reads; write = made; owed = refl; store = purges-are (finished s w) u out f.failed_purges (a.sure refl) a.purges; tracked = admits.1 })

  -- what is reported is the size of the body
  pub finish-size : (how : WriteEnd) (f : FinishReport) → how ≡ end.Stored f → write_ends.Ends in_memory x x.key x.write (finishes_of (created s) x.write) limits how s u m m' t t' → f.size ≡ written_size (get s.writes w)
  finish-size how f so h = (ended-as (end.Stored f) (subst (λ (z : WriteEnd). write_ends.Ends in_memory x x.key x.write (finishes_of (created s) x.write) limits z s u m m' t t') so h)).size_is

  pub finish-withdrawn : (how : WriteEnd) (e : ErrorType) (j : ℕ) (mid events : List Event) → how ≡ end.Withdrawn e → j ≡ slot k → write_ends.Ends in_memory x x.key x.write (finishes_of (created s) x.write) limits how s u m m' t t'
      → mid ≡ old ++ E.Finish w true ∷ each E.Release o → events ≡ mid ++ E.Purge j ∷ [] → Moves limits before s m events after u m'
  finish-withdrawn how e j mid events so at h one is =
      let a = ended-as (end.Withdrawn e) (subst (λ (z : WriteEnd). write_ends.Ends in_memory x x.key x.write (finishes_of (created s) x.write) limits z s u m m' t t') so h) in
      settled-by (E.Purge j) mid events one is a.untouched (own-slot ∙ ap Some (sym at))
      (record { count = reads; write = made; owed = refl; store = elim a.purged [ inl g ↦ g ∙ ap (purged (finished s w)) (sym at) | inr g ↦ absurd (let never = g.0 in cc) ]; tracked = a.tracked })

  -- what is held is released
  pub end-locks : (how : WriteEnd) → write_ends.Ends in_memory x x.key x.write (finishes_of (created s) x.write) limits how s u m m' t t' → t' ≡ settled (write_ends.status_after how) x.held t
  end-locks how h = by how (ended-as how h)
    where
      by : (how : WriteEnd) → write_ends.EndsWrite in_memory x k w (created s w) limits how s u m m' t t' → t' ≡ settled (write_ends.status_after how) x.held t
      by end.Nothing h = absurd h
      by (end.Stored f) h = h.released
      by (end.Dropped e) h = h.released
      by (end.Withdrawn e) h = h.released

  -- if its key was removed it does not stand
  removed : (e : ErrorType) → (e ≡ OutOfMemory) ⊎ MayFailFinish s w e → e ≡ WriteRemoved → is_untouched s w ≡ false
  removed e why is = elim (subst (λ z. (z ≡ OutOfMemory) ⊎ MayFailFinish s w z) is why) [ inl other ↦ absurd (cc) | inr h ↦ h ]

  pub finish-dropped : (how : WriteEnd) (e kind : ErrorType) (noted : Event) (events : List Event) → how ≡ end.Dropped e → noted ≡ refused_end w kind → kind ≡ e → write_ends.Ends in_memory x x.key x.write (finishes_of (created s) x.write) limits how s u m m' t t'
      → events ≡ old ++ noted ∷ each E.Release o → Moves limits before s m events after u m'
  finish-dropped how e kind noted events so which kind-is h is =
      let a = ended-as (end.Dropped e) (subst (λ (z : WriteEnd). write_ends.Ends in_memory x x.key x.write (finishes_of (created s) x.write) limits z s u m m' t t') so h) in
      subst (λ xs. Moves limits before s m xs after u m') (sym (is ∙ ap (λ es. es ++ noted ∷ each E.Release o) none ∙ ap (λ z. z ∷ each E.Release o) which)) (dropped-as kind a.dropped a.tracked (λ r. removed e a.why (sym kind-is ∙ r)))
    where
      by : (z : Event) → IsNextAt limits None first before z → IsSame (after_event z first) last → (after_event z first).owed ≡ None → Moves limits before s m (z ∷ each E.Release o) after u m'
      by z due same settled = does limits before z (each E.Release o) first last due (quietly limits before (each E.Release o) (after_event z first) last (quiet-each E.Release o (λ _. tt)) settled same)

      dropped-as : (kind : ErrorType) → u ≡ dropped s w → m' ≡ m → (kind ≡ WriteRemoved → is_untouched s w ≡ false) → Moves limits before s m (refused_end w kind ∷ each E.Release o) after u m'
      dropped-as WriteRemoved to same gone = by (E.Finish w false) (has, gone refl) (record { count = reads; write = made; owed = refl; store = to; tracked = same }) refl
      dropped-as kind to same gone = by (E.Dropped w) has (record { count = reads; write = made; owed = refl; store = to; tracked = same }) refl

  -- and the reply to an end that failed
  pub finish-refused : (how : WriteEnd) (e kind : ErrorType) (noted : Event) (events : List Event) (f : Facts) → how ≡ end.Dropped e → noted ≡ refused_end w kind → kind ≡ e → write_ends.Ends in_memory x x.key x.write (finishes_of (created s) x.write) limits how s u m m' t t'
      → f.untouched ≡ is_untouched s w → s.newest ≡ false → events ≡ old ++ noted ∷ each E.Release o → o ≡ permit_of x.held → Finishes f x x.write (R.Refused kind) events
  finish-refused how e kind noted events f so which kind-is h at oldest is permit =
      let a = ended-as (end.Dropped e) (subst (λ (z : WriteEnd). write_ends.Ends in_memory x x.key x.write (finishes_of (created s) x.write) limits z s u m m' t t') so h) in
      let why = subst (λ (z : ErrorType). (z ≡ OutOfMemory) ⊎ MayFailFinish s w z) (sym kind-is) a.why in
      let are = is ∙ ap (λ es. es ++ noted ∷ each E.Release o) none ∙ ap (λ z. z ∷ each E.Release o) which ∙ ap (λ l. refused_end w kind ∷ each E.Release l) permit in
      subst (λ (q : Option ℕ). Finishes f x q (R.Refused kind) events) (sym has) (k, key, dropped_ends f x k s w kind events at oldest why are)

-- ---- other calls

-- one event of a request that keeps its readers and its write
pub one-event : (x y : Ongoing) (s u : Store) (e : Event) (old events : List Event) → old ≡ [] → events ≡ old ++ e ∷ [] → ((limits : Limits) (m : Tracked) → IsNextAt limits None (at_call (Some x) s m) (Some x) e) → ((m : Tracked) → IsSame (after_event e (at_call (Some x) s m)) (at_call (Some y) u m))
    → MovesStore (Some x) s events (Some y) u
one-event x y s u e old events none is due same limits m =
    subst (λ es. Moves limits (Some x) s m es (Some y) u m) (sym (is ∙ ap (λ es. es ++ e ∷ []) none))
    (does limits (Some x) e [] (at_call (Some x) s m) (at_call (Some y) u m) (due limits m) (stop limits (Some x) (after_event e (at_call (Some x) s m)) (at_call (Some y) u m) (same m)))

pub writes : (x y : Ongoing) (s u : Store) (w : ℕ) (bytes : List ℕ) (eof : Bool) (old events : List Event) → old ≡ [] → events ≡ old ++ E.Wrote w bytes eof ∷ [] → x.request.write ≡ Some w
    → ((v : ℕ) → readers_in v y ≡ readers_in v x) → y.request.write ≡ x.request.write → u ≡ store.wrote s w bytes eof → MovesStore (Some x) s events (Some y) u
writes x y s u w bytes eof old events none is due reads made to =
    one-event x y s u (E.Wrote w bytes eof) old events none is (λ limits m. due) (λ m. record { count = reads; write = made; owed = refl; store = to; tracked = refl })

-- a read leaves the reader at its write
read-keeps : (s : Store) (w : ℕ) (o : Option Reader) → follows w (option_map (reader_after s) o) ≡ follows w o
read-keeps s w None = refl
read-keeps s w (Some (Whole id body start stop done)) = refl
read-keeps s w (Some (Part x place)) = refl

pub reads-on : (d : Option Decision) (x y : Request) (p : Option (Meta × Reader)) (s u : Store) (a : Poll (Option (List ℕ))) (old events : List Event) → old ≡ [] → events ≡ old ++ E.Read a ∷ [] → IsSome x.reader → IfSome x.reader (λ r. a ≡ read_of s r)
    → y ≡ record x { reader = option_map (reader_after s) x.reader } → u ≡ s → MovesStore (Some (with_pair d p x)) s events (Some (with_pair d p y)) u
reads-on d x y p s u a old events none is some gave now to =
    let told = rd x.reader refl some gave in
    one-event (with_pair d p x) (with_pair d p y) s u (E.Read a) old events none is
    (λ limits m. (told.0, told.1, told.2, λ w. let e : follows w x.reader ≡ follows w (Some told.0) = ap (follows w) told.1 in let goal : follows w (Some told.0) ≤ follows w x.reader + follows w (pair_reader p) = omega arith in goal))
    (λ m. record { count = λ w. ap (λ (z : Request). follows w z.reader + follows w (pair_reader p)) now ∙ ap (λ n. n + follows w (pair_reader p)) (read-keeps s w x.reader); write = ap (λ (z : Request). z.write) now; owed = refl; store = to; tracked = refl })
  where
    rd : (o : Option Reader) → x.reader ≡ o → IsSome o → IfSome o (λ r. a ≡ read_of s r) → (r : Reader) × (x.reader ≡ Some r) × (a ≡ read_of s r)
    rd None e none gave = absurd (cc)
    rd (Some r) e some gave = (r, e, gave)

-- a reader that is sent to another range reads what it read
seek-keeps : (w start : ℕ) (stop : Option ℕ) (o : Option Reader) → follows w (cond (is_some (sought_in start stop o)) (sought_in start stop o) o) ≡ follows w o
seek-keeps w start stop None = refl
seek-keeps w start stop (Some (Part x place)) = refl
seek-keeps w start stop (Some (Whole id body from to done)) =
    elim (nat_lt start (length body) && is_forward start stop) as (λ b. let o : Option Reader = cond b (Some (Whole id body start (end_or stop (length body)) false)) None in follows w (cond (is_some o) o (Some (Whole id body from to done))) ≡ 0) [ true ↦ refl | false ↦ refl ]

pub seeks-to : (d : Option Decision) (x y : Request) (p : Option (Meta × Reader)) (start : ℕ) (stop : Option ℕ) (s : Store) → y ≡ cond (is_some (sought_in start stop x.reader)) (with_sought start stop x) x → MovesStore (Some (with_pair d p x)) s [] (Some (with_pair d p y)) s
seeks-to d x y p start end s now limits m =
    let b = is_some (sought_in start end x.reader) in
    stop limits (Some (with_pair d p x)) (at_call (Some (with_pair d p x)) s m) (at_call (Some (with_pair d p y)) s m) (record {
      count = λ w. ap (λ (r : Option Reader). follows w r + follows w (pair_reader p)) (ap (λ (z : Request). z.reader) now ∙ reader b) ∙ ap (λ n. n + follows w (pair_reader p)) (seek-keeps w start end x.reader);
      write = ap (λ (z : Request). z.write) now ∙ write b;
      owed = refl;
      store = refl;
      tracked = refl;
    })
  where
    reader : (b : Bool) → (cond b (with_sought start end x) x).reader ≡ cond b (sought_in start end x.reader) x.reader
    reader true = refl
    reader false = refl

    write : (b : Bool) → (cond b (with_sought start end x) x).write ≡ x.write
    write true = refl
    write false = refl

-- events of locks, of a request that keeps its readers and its write
pub turns-quietly : (x y : Ongoing) (s : Store) (events : List Event) → AreQuiet events → y.pair ≡ x.pair → y.request.reader ≡ x.request.reader → y.request.write ≡ x.request.write → MovesStore (Some x) s events (Some y) s
turns-quietly x y s events quiet held reads made limits m =
    quietly limits (Some x) events (at_call (Some x) s m) (at_call (Some y) s m) quiet refl (record {
      count = λ w. (λ i. follows w (reads i) + follows w (pair_reader (held i)));
      write = made;
      owed = refl;
      store = refl;
      tracked = refl;
    })

-- a reader that goes
pub reader-goes : (x y : Ongoing) (s u : Store) (events : List Event) → events ≡ [] → y.pair ≡ x.pair → y.request.reader ≡ None → y.request.write ≡ x.request.write → u ≡ left_by x.request.reader s → MovesStore (Some x) s events (Some y) u
reader-goes x y s u events none held reads made left limits m =
    let q : Option Ongoing = Some x in
    let first = at_call q s m in
    let last = at_call (Some y) u m in
    let l : ℕ → ℕ = reads_of (Some y) in
    subst (λ xs. Moves limits q s m xs (Some y) u m) (sym none)
    (leaves limits q x.request.reader l [] first last (λ w.
    let b : follows w (pair_reader y.pair) ≡ follows w (pair_reader x.pair) = ap (λ o. follows w (pair_reader o)) held in
    let c : follows w y.request.reader ≡ 0 = ap (follows w) reads in
    let goal : follows w x.request.reader + follows w (pair_reader x.pair) ≡ follows w y.request.reader + follows w (pair_reader y.pair) + follows w x.request.reader = omega arith in goal)
    (stop limits q (after_leave l x.request.reader first) last (record { count = λ w. refl; write = made; owed = refl; store = left; tracked = refl })))

-- a request is given back: its pair, its write, its reader
pub ends : (x : Ongoing) (s u : Store) (write permit : Option ℕ) (old mid events : List Event) → write ≡ x.request.write → permit ≡ permit_of x.request.held → old ≡ [] → mid ≡ old ++ drop_of write → events ≡ mid ++ each E.LetGo permit → u ≡ store_ended x s
    → MovesStore (Some x) s events None u
ends x s u write permit old mid events a b none one is to limits m =
    let q : Option Ongoing = Some x in
    let o = x.request.write in
    let g = each E.LetGo permit in
    let first = at_call q s m in
    let last = at_call None u m in
    let l : ℕ → ℕ = λ w. follows w x.request.reader in
    let z : ℕ → ℕ = λ w. 0 in
    let second = after_leave l (pair_reader x.pair) first in
    let third : At = record second { write = None; store = dropped_by o second.store } in
    subst (λ xs. Moves limits q s m xs None u m) (sym (is ∙ ap (λ es. es ++ g) (one ∙ ap (λ es. es ++ drop_of write) none ∙ ap drop_of a)))
    (leaves limits q (pair_reader x.pair) l (drop_of o ++ g) first last (λ w. refl)
    (drops limits q o g second last refl refl
    (leaves limits q x.request.reader z g third last (λ w. let goal : follows w x.request.reader ≡ 0 + follows w x.request.reader = omega arith in goal)
    (quietly limits q g (after_leave z x.request.reader third) last (quiet-each E.LetGo permit (λ _. tt)) refl (record { count = λ w. refl; write = refl; owed = refl; store = to; tracked = refl })))))

-- a request is switched off: its pair goes, its permit is released, its write is dropped, and its reader goes
drop-last : (o : Option ℕ) → drop_of o ++ [] ≡ drop_of o
drop-last None = refl
drop-last (Some w) = refl

pub switches-off : (x y : Ongoing) (s u : Store) (write permit : Option ℕ) (old events : List Event) → write ≡ x.request.write → old ≡ [] → events ≡ old ++ each E.Release permit ++ drop_of write → y.pair ≡ None → y.request.reader ≡ None → y.request.write ≡ None
    → u ≡ store_ended x s → MovesStore (Some x) s events (Some y) u
switches-off x y s u write permit old events a none is held reads made to limits m =
    let q : Option Ongoing = Some x in
    let o = x.request.write in
    let first = at_call q s m in
    let last = at_call (Some y) u m in
    let l : ℕ → ℕ = λ w. follows w x.request.reader in
    let z : ℕ → ℕ = reads_of (Some y) in
    let second = after_leave l (pair_reader x.pair) first in
    let third : At = record second { write = None; store = dropped_by o second.store } in
    subst (λ xs. Moves limits q s m xs (Some y) u m) (sym (is ∙ (λ i. none i ++ each E.Release permit ++ drop_of (a i)) ∙ ap (λ es. each E.Release permit ++ es) (sym (drop-last o))))
    (leaves limits q (pair_reader x.pair) l (each E.Release permit ++ (drop_of o ++ [])) first last (λ w. refl)
    (releases limits q permit (drop_of o ++ []) second last
    (drops limits q o [] second last refl refl
    (leaves limits q x.request.reader z [] third last (λ w.
    let b : follows w (pair_reader y.pair) ≡ 0 = ap (λ o. follows w (pair_reader o)) held in
    let c : follows w y.request.reader ≡ 0 = ap (follows w) reads in
    let goal : follows w x.request.reader ≡ follows w y.request.reader + follows w (pair_reader y.pair) + follows w x.request.reader = omega arith in goal)
    (stop limits q (after_leave z x.request.reader third) last (record { count = λ w. refl; write = made; owed = refl; store = to; tracked = refl }))))))

-- nothing is found, and it is switched off; then its pair goes
pub defers : (x y : Ongoing) (s u : Store) (k : ℕ) (a : Answer) (permit : Option ℕ) (events : List Event) → pair_of a ≡ None → None ≡ find s k → events ≡ E.Look k a ∷ (each E.Release permit ++ drop_of x.request.write) → y.pair ≡ None → y.request.reader ≡ None → y.request.write ≡ None
    → u ≡ left_by (pair_reader x.pair) (left_by x.request.reader (dropped_by x.request.write s)) → MovesStore (Some x) s events (Some y) u
defers x y s u k a permit events told found is held reads made to limits m =
    let q : Option Ongoing = Some x in
    let o = x.request.write in
    let first = at_call q s m in
    let last = at_call (Some y) u m in
    let l : ℕ → ℕ = λ w. follows w (pair_reader x.pair) in
    let z : ℕ → ℕ = reads_of (Some y) in
    let second : At = record first { write = None; store = dropped_by o first.store } in
    let third = after_leave l x.request.reader second in
    subst (λ xs. Moves limits q s m xs (Some y) u m) (sym (is ∙ ap (λ es. E.Look k a ∷ (each E.Release permit ++ es)) (sym (drop-last o))))
    (does limits q (E.Look k a) (each E.Release permit ++ (drop_of o ++ [])) first last (told ∙ found)
    (releases limits q permit (drop_of o ++ []) first last
    (drops limits q o [] first last refl refl
    (leaves limits q x.request.reader l [] second last (λ w. let goal : follows w x.request.reader + follows w (pair_reader x.pair) ≡ follows w (pair_reader x.pair) + follows w x.request.reader = omega arith in goal)
    (leaves limits q (pair_reader x.pair) z [] third last (λ w.
    let b : follows w (pair_reader y.pair) ≡ 0 = ap (λ o. follows w (pair_reader o)) held in
    let c : follows w y.request.reader ≡ 0 = ap (follows w) reads in
    let goal : follows w (pair_reader x.pair) ≡ follows w y.request.reader + follows w (pair_reader y.pair) + follows w (pair_reader x.pair) = omega arith in goal)
    (stop limits q (after_leave z (pair_reader x.pair) third) last (record { count = λ w. refl; write = made; owed = refl; store = to; tracked = refl })))))))

-- a stale body is still valid: its meta is set if the body is stored, and the permit is released
unchanged : (f : Meta → Meta) (s : Store) (k : ℕ) → is_some (store.complete_body (get s.slots k)) ≡ false → meta_changed f s k ≡ s
unchanged f s k none = ap (λ xs. record s { slots = xs }) (by (get s.slots k) none)
  where
    in-slot : (x : store.Slot) (b : Option store.Stored) → is_some b ≡ false → store.meta_changed_in f s.slots k x b ≡ s.slots
    in-slot x None none = refl
    in-slot x (Some b) none = absurd (cc)

    by : (o : Option store.Slot) → is_some (store.complete_body o) ≡ false → store.meta_changed_on f s.slots k o ≡ s.slots
    by None none = refl
    by (Some x) none = in-slot x x.body none

pub renews : (x y : Ongoing) (s u : Store) (k : Key) (j : ℕ) (m n : Meta) (r : Result Bool ErrorType) (o : Option ℕ) (old mid events : List Event) → old ≡ [] → mid ≡ old ++ renewing j n r → events ≡ mid ++ each E.Release o → y.pair ≡ x.pair → y.request.reader ≡ x.request.reader → y.request.write ≡ x.request.write
    → x.request.key ≡ Some k → j ≡ slot k → n ≡ m → IfOk r (λ b. b ≡ has_body s x.request.key) → OnOk r (u ≡ with_meta_of m x.request.key s) → OnErr r (u ≡ s) → MovesStore (Some x) s events (Some y) u
renews x y s u k j m n r o old mid events none one is held reads made key at copy there set refused limits t =
    subst (λ es. Moves limits (Some x) s t es (Some y) u t) (sym (is ∙ ap (λ es. es ++ each E.Release o) (one ∙ ap (λ es. es ++ renewing j n r) none))) (by r there set refused)
  where
    same : (a : At) → ((w : ℕ) → a.count w ≡ readers_in w x) → a.write ≡ x.request.write → a.owed ≡ None → u ≡ a.store → a.tracked ≡ t → IsSame a (at_call (Some y) u t)
    same a count write owed to tracked = record {
      count = λ w. (λ i. follows w (reads i) + follows w (pair_reader (held i))) ∙ sym (count w);
      write = made ∙ sym write;
      owed = sym owed;
      store = to;
      tracked = sym tracked;
    }

    quiet : (u ≡ s) → MovesBy limits (Some x) (each E.Release o) (at_call (Some x) s t) (at_call (Some y) u t)
    quiet to = quietly limits (Some x) (each E.Release o) (at_call (Some x) s t) (at_call (Some y) u t) (quiet-each E.Release o (λ _. tt)) refl (same (at_call (Some x) s t) (λ w. refl) refl refl to refl)

    set-as : u ≡ with_meta_of m x.request.key s → u ≡ meta_set m s (slot k)
    set-as to = to ∙ ap (λ q. with_meta_of m q s) key

    by : (r : Result Bool ErrorType) → IfOk r (λ b. b ≡ has_body s x.request.key) → OnOk r (u ≡ with_meta_of m x.request.key s) → OnErr r (u ≡ s) → MovesBy limits (Some x) (renewing j n r ++ each E.Release o) (at_call (Some x) s t) (at_call (Some y) u t)
    by (Ok true) there set refused =
        let second = after_event (E.Renew j n) (at_call (Some x) s t) in
        does limits (Some x) (E.Renew j n) (each E.Release o) (at_call (Some x) s t) (at_call (Some y) u t) tt
        (quietly limits (Some x) (each E.Release o) second (at_call (Some y) u t) (quiet-each E.Release o (λ _. tt)) refl (same second (λ w. refl) refl refl (set-as set ∙ (λ i. meta_set (sym copy i) s (sym at i))) refl))
    by (Ok false) there set refused = quiet (set-as set ∙ unchanged (λ old. in_place_of old m) s (slot k) (sym (there ∙ ap (has_body s) key)))
    by (Err e) there set refused = quiet refused

-- one of two ways
pub push-some : (f : ℕ → Event) (o : Option ℕ) (n : ℕ) (old new : List Event) → o ≡ Some n → new ≡ old ++ f n ∷ [] → new ≡ old ++ each f o
push-some f o n old new is e = e ∙ ap (λ q. old ++ each f q) (sym is)

pub push-none : (f : ℕ → Event) (o : Option ℕ) (old new : List Event) → o ≡ None → new ≡ old → new ≡ old ++ each f o
push-none f o old new is e = e ∙ sym (append-none old) ∙ ap (λ q. old ++ each f q) (sym is)
  where
    append-none : (xs : List Event) → xs ++ [] ≡ xs
    append-none [] = refl
    append-none (e ∷ xs) = ap (λ ys. e ∷ ys) (append-none xs)

-- an expiry
pub expires : (x : Ongoing) (s u : Store) (j k now : ℕ) (old events : List Event) → j ≡ k → old ≡ [] → events ≡ old ++ E.Expire j now ∷ [] → u ≡ meta_changed (expired_at now) s k → MovesStore (Some x) s events (Some x) u
expires x s u j k now old events at none is to =
    one-event x x s u (E.Expire j now) old events none is (λ limits m. tt) (λ m. record { count = λ w. refl; write = refl; owed = refl; store = to ∙ ap (meta_changed (expired_at now) s) (sym at); tracked = refl })

-- a removal, and what is untracked with it
pub purges : (x : Ongoing) (s u : Store) (m m' : Tracked) (limits : Limits) (k : Key) (n : Option ℕ) (goes : Bool) (events : List Event) → events ≡ E.Purge (slot k) ∷ untrack_of goes k n → u ≡ purged s (slot k) → m' ≡ cond goes (remove m (entry_of k n)) m
    → Moves limits (Some x) s m events (Some x) u m'
purges x s u m m' limits k n goes events is to gone =
    subst (λ es. Moves limits (Some x) s m es (Some x) u m') (sym is)
    (does limits (Some x) (E.Purge (slot k)) (untrack_of goes k n) (at_call (Some x) s m) (at_call (Some x) u m') tt (untracks goes gone))
  where
    second : At
    second = after_event (E.Purge (slot k)) (at_call (Some x) s m)

    last : At
    last = at_call (Some x) u m'

    untracks : (b : Bool) → m' ≡ cond b (remove m (entry_of k n)) m → MovesBy limits (Some x) (untrack_of b k n) second last
    untracks false same = stop limits (Some x) second last (record { count = λ w. refl; write = refl; owed = refl; store = to; tracked = same })
    untracks true gone =
        does limits (Some x) (E.Untrack (entry_of k n)) [] second last (λ j names.
        let same : (slot k == j) ≡ true = sym (names_only (slot k) (entry_of k n) (entry_names k n) j) ∙ names in
        ap store.complete_body (get-unset s.slots (slot k) j ∙ ap (λ b. cond b None (get s.slots j)) same))
        (stop limits (Some x) (after_event (E.Untrack (entry_of k n)) second) last (record { count = λ w. refl; write = refl; owed = refl; store = to; tracked = gone }))
