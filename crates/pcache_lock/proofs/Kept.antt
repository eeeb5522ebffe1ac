-- What a deed leaves of its lock (how many read locks name it, and its publications) and of the numbers given.
use Rattle.std.proofs.Common.{is_some}
use Rattle.pcache_lock.specs.Permits.{publications_at, readers_at}
use Rattle.pcache_lock.specs.Waiting.{publications_with}
use Rattle.pcache_lock.proofs.Words.{◌≡◌, ◌+◌, ◌-◌, ◌^◌, ℕ, Bool, true, false, ◌||◌, Option, None, Some, List, [], cond, refl, ap, ◌∙◌, arith, min, nat_lt, get, insert, remove, nat_tests, PermitState, LockStatus, is_aged, Core, is_named, without_reader, spent, released_status, dropped_status, Locks, kept, left, permit_dropped, reader_dropped, released_on, with_read_lock, without_entry, after_poll, permit_state, table_at, Deed, Granted, Joined, Released, LetGo, Aged, Left, Polled, Published, Made, ReadLocked, Unlocked, Does}
use Rattle.pcache_lock.specs.declared.lock.outcome.PermitState.TheVariants as stage
use Rattle.pcache_lock.proofs.PastWaits.{left_by, turned}

-- a permit is given, of a lock with a new number
abbrev pub gives : Deed → Bool
gives (Granted slot m stale now) = true
gives (Made m age stale now) = true
gives _ = false

-- after one more deed that was done to the lock
abbrev pub readers_by : Deed → ℕ → ℕ
readers_by (Granted slot m stale now) n = 0
readers_by (Made m age stale now) n = 0
readers_by (Joined slot m now) n = min (n + 1) (2 ^ 128 - 1)
readers_by (ReadLocked m) n = min (n + 1) (2 ^ 128 - 1)
readers_by (Left m) n = n - 1
readers_by _ n = n

abbrev pub publications_by : Deed → ℕ → List (List ℕ) → List (List ℕ)
publications_by (Granted slot m stale now) n ps = []
publications_by (Made m age stale now) n ps = []
publications_by (Published m tokens) n ps = publications_with n tokens ps
publications_by _ n ps = ps

-- a lock that is written back, or gone
unread : (held more : Bool) → (held || more) ≡ false → more ≡ false
unread true more e = cc
unread false more e = e

read-left : (f : Core → Core) (c : Core) → readers_at (left_by f (Some c)) ≡ (f c).readers
read-left f c = by (is_named (f c)) refl
  where
    by : (b : Bool) → is_named (f c) ≡ b → readers_at (cond b (Some (f c)) None) ≡ (f c).readers
    by true e = refl
    by false e = let none = unread (f c).held (nat_lt 0 (f c).readers) e in grind (arith, nat_tests)

pub readers-then : (age : ℕ) (deed : Deed) (o : Option Core) → (gives deed ≡ false → is_some o ≡ true) → readers_at (turned age deed o) ≡ readers_by deed (readers_at o)
readers-then age (Granted slot m stale now) o there = refl
readers-then age (Made m own stale now) o there = refl
readers-then age deed None there = let no : false ≡ true = there refl in absurd (cc)
readers-then age (Released m reason) (Some c) there = read-left (λ c. spent c (released_status reason c.status)) c
readers-then age (LetGo m) (Some c) there = read-left (λ c. spent c (dropped_status c.status)) c
readers-then age (Left m) (Some c) there = read-left without_reader c
readers-then age deed (Some c) there = refl

-- only a lock that was known is known after a deed that gives no permit
pub there-before : (age : ℕ) (deed : Deed) (o : Option Core) → gives deed ≡ false → is_some (turned age deed o) ≡ true → is_some o ≡ true
there-before age deed (Some c) old there = refl
there-before age (Granted slot m stale now) None old there = absurd (cc)
there-before age (Made m own stale now) None old there = absurd (cc)
there-before age deed None old there = absurd (cc)

kept-left : (d : Core) (b : Bool) → is_some (cond b (Some d) None) ≡ true → publications_at (cond b (Some d) None) ≡ d.publications
kept-left d true there = refl
kept-left d false there = absurd (cc)

pub publications-then : (age : ℕ) (deed : Deed) (o : Option Core) → is_some o ≡ true → is_some (turned age deed o) ≡ true → publications_at (turned age deed o) ≡ publications_by deed (readers_at o) (publications_at o)
publications-then age deed None known there = absurd (cc)
publications-then age (Released m reason) (Some c) known there = let d : Core = spent c (released_status reason c.status) in kept-left d (is_named d) there
publications-then age (LetGo m) (Some c) known there = let d : Core = spent c (dropped_status c.status) in kept-left d (is_named d) there
publications-then age (Left m) (Some c) known there = let d : Core = without_reader c in kept-left d (is_named d) there
publications-then age deed (Some c) known there = refl

-- the next number
abbrev pub next_by : Deed → ℕ → ℕ
next_by (Granted slot m stale now) n = n + 1
next_by (Made m age stale now) n = n + 1
next_by _ n = n

next-kept : (t : Locks) (m : ℕ) (d : Core) → (kept t m d).next ≡ t.next
next-kept t m d = elim (is_named d) as (λ b. (cond b (record t { cores = insert t.cores m d }) (record t { cores = remove t.cores m; current = without_entry m d.slot t.current })).next ≡ t.next) [ true ↦ refl | false ↦ refl ]

next-left : (t : Locks) (m : ℕ) (c : Core) → (left t m c).next ≡ t.next
next-left t m c = elim (is_aged c.status) as (λ b. (cond b t (record t { current = without_entry m c.slot t.current })).next ≡ t.next) [ true ↦ refl | false ↦ refl ]

next-read : (t : Locks) (m : ℕ) (o : Option Core) → (with_read_lock t m o).next ≡ t.next
next-read t m None = refl
next-read t m (Some c) = refl

next-released : (t : Locks) (m : ℕ) (s : LockStatus) (o : Option Core) → (released_on t m s o).next ≡ t.next
next-released t m s None = refl
next-released t m s (Some c) = next-kept (left t m c) m (spent c (released_status s c.status)) ∙ next-left t m c

next-dropped : (t : Locks) (m : ℕ) (o : Option Core) → (permit_dropped t m o).next ≡ t.next
next-dropped t m None = refl
next-dropped t m (Some c) = next-kept t m (spent c (dropped_status c.status))

next-unread : (t : Locks) (m : ℕ) (o : Option Core) → (reader_dropped t m o).next ≡ t.next
next-unread t m None = refl
next-unread t m (Some c) = next-kept t m (without_reader c)

next-at : (s : PermitState) (t : Locks) (m : ℕ) (c : Core) → (table_at s t m c).next ≡ t.next
next-at stage.Over t m c = refl
next-at stage.Old t m c = refl
next-at stage.Held t m c = refl

next-polled : (t : Locks) (now m : ℕ) (o : Option Core) → (after_poll t now m o).next ≡ t.next
next-polled t now m None = refl
next-polled t now m (Some c) = next-at (permit_state now c) t m c

pub next-then : (deed : Deed) (s t : Locks) → Does deed s t → t.next ≡ next_by deed s.next
next-then (Granted slot m stale now) s t h = ap (λ u. u.next) h.2
next-then (Joined slot m now) s t h = ap (λ u. u.next) h.1 ∙ next-read s m (get s.cores m)
next-then (Released m reason) s t h = ap (λ u. u.next) h.1 ∙ next-released s m reason (get s.cores m)
next-then (LetGo m) s t h = ap (λ u. u.next) h ∙ next-dropped s m (get s.cores m)
next-then (Aged m now) s t h = ap (λ u. u.next) h.1 ∙ next-polled s now m (get s.cores m)
next-then (Left m) s t h = ap (λ u. u.next) h ∙ next-unread s m (get s.cores m)
next-then (Polled m now) s t h = ap (λ u. u.next) h.1
next-then (Published m tokens) s t h = ap (λ u. u.next) h
next-then (Made m own stale now) s t h = ap (λ u. u.next) h.1
next-then (ReadLocked m) s t h = ap (λ u. u.next) h ∙ next-read s m (get s.cores m)
next-then (Unlocked m reason) s t h = ap (λ u. u.next) h.1
