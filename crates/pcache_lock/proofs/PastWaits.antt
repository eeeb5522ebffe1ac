-- What a table knows of a lock is what its past says.
use Rattle.std.proofs.Common.{inl, inr}
use Rattle.pcache_lock.specs.PastWaits.{held_since, is_held, status_by, status_said, given_by, given_at, is_late, stage_by, ReturnsBy, EndsByPastAlways, StatusByPastAlways}
use Rattle.pcache_lock.proofs.Words.{◌≡◌, ◌==◌, ℕ, Bool, true, false, ◌||◌, Option, None, Some, List, [], ◌∷◌, cond, refl, sym, ◌∙◌, ap, subst, arith, nat_cmp, nat_cmp_total, unsigned_tied, FinMap, get, insert, remove, get-insert, get-remove, get-empty, nat_tests, UnusableFill, PermitState, LockStatus, IsReason, is_aged, is_waiting, Core, Watch, new_core, is_named, with_reader, without_reader, spent, released_status, dropped_status, Locks, no_locks_from, with_read_lock, without_entry, kept, left, released_on, permit_dropped, reader_dropped, changed, ended, after_poll, polled, table_at, permit_state, answer_at, told_or_pending, watched, watch_at, aged, is_old, with_publication, is_old_at, Deed, Granted, Joined, Released, LetGo, Aged, Left, Polled, Published, Made, ReadLocked, Unlocked, Does, IsPastOf, PastLeads, number_of}
use Rattle.pcache_lock.specs.declared.lock.outcome.PermitState.TheVariants as stage
use Rattle.pcache_lock.specs.declared.lock.status.LockStatus.TheVariants as status
use Rattle.pcache_lock.proofs.Calls.{reason_ends}

-- Each deed turns its own lock alone.
pub written : (cores : FinMap nat_cmp Core) (m : ℕ) (d : Core) (n : ℕ) → get (insert cores m d) n ≡ cond (n == m) (Some d) (get cores n)
written cores m d n = get-insert nat_cmp_total cores m d n ∙ ap (λ b. cond b (Some d) (get cores n)) (unsigned_tied n m)

gone : (cores : FinMap nat_cmp Core) (m n : ℕ) → get (remove cores m) n ≡ cond (n == m) None (get cores n)
gone cores m n = get-remove nat_cmp_total cores m n ∙ ap (λ b. cond b None (get cores n)) (unsigned_tied n m)

-- a lock that is written back, or gone
abbrev pub left_of : Core → Option Core
left_of d = cond (is_named d) (Some d) None

kept-by : (b : Bool) (t : Locks) (m : ℕ) (d : Core) (n : ℕ) → get (cond b (record t { cores = insert t.cores m d }) (record t { cores = remove t.cores m; current = without_entry m d.slot t.current })).cores n ≡ cond (n == m) (cond b (Some d) None) (get t.cores n)
kept-by true t m d n = written t.cores m d n
kept-by false t m d n = gone t.cores m n

at-kept : (t : Locks) (m : ℕ) (d : Core) (n : ℕ) → get (kept t m d).cores n ≡ cond (n == m) (left_of d) (get t.cores n)
at-kept t m d n = kept-by (is_named d) t m d n

pub same_by : (cores : FinMap nat_cmp Core) (m n : ℕ) (b : Bool) → (n == m) ≡ b → get cores n ≡ cond b (get cores m) (get cores n)
same_by cores m n false e = refl
same_by cores m n true e = ap (get cores) (let is : n ≡ m = grind (arith, nat_tests) in is)

unknown : (cores : FinMap nat_cmp Core) (m n : ℕ) → get cores m ≡ None → get cores n ≡ cond (n == m) None (get cores n)
unknown cores m n e = same_by cores m n (n == m) refl ∙ ap (λ o. cond (n == m) o (get cores n)) e

abbrev pub turned_by : (Core → Core) → Option Core → Option Core
turned_by f None = None
turned_by f (Some c) = Some (f c)

abbrev pub left_by : (Core → Core) → Option Core → Option Core
left_by f None = None
left_by f (Some c) = left_of (f c)

pub changed_at : (f : Core → Core) (cores : FinMap nat_cmp Core) (m n : ℕ) (o : Option Core) → get cores m ≡ o → get (changed f cores m o) n ≡ cond (n == m) (turned_by f o) (get cores n)
changed_at f cores m n None e = unknown cores m n e
changed_at f cores m n (Some c) e = written cores m (f c) n

pub read_at : (t : Locks) (m n : ℕ) (o : Option Core) → get t.cores m ≡ o → get (with_read_lock t m o).cores n ≡ cond (n == m) (turned_by with_reader o) (get t.cores n)
read_at t m n None e = unknown t.cores m n e
read_at t m n (Some c) e = written t.cores m (with_reader c) n

left-cores : (b : Bool) (t : Locks) (current : FinMap nat_cmp ℕ) (n : ℕ) → get (cond b t (record t { current = current })).cores n ≡ get t.cores n
left-cores true t current n = refl
left-cores false t current n = refl

pub released_at : (t : Locks) (m : ℕ) (reason : LockStatus) (n : ℕ) (o : Option Core) → get t.cores m ≡ o → get (released_on t m reason o).cores n ≡ cond (n == m) (left_by (λ c. spent c (released_status reason c.status)) o) (get t.cores n)
released_at t m reason n None e = unknown t.cores m n e
released_at t m reason n (Some c) e =
    let d : Core = spent c (released_status reason c.status) in
    at-kept (left t m c) m d n
    ∙ ap (cond (n == m) (left_of d)) (left-cores (is_aged c.status) t (without_entry m c.slot t.current) n)

pub dropped_at : (t : Locks) (m n : ℕ) (o : Option Core) → get t.cores m ≡ o → get (permit_dropped t m o).cores n ≡ cond (n == m) (left_by (λ c. spent c (dropped_status c.status)) o) (get t.cores n)
dropped_at t m n None e = unknown t.cores m n e
dropped_at t m n (Some c) e = at-kept t m (spent c (dropped_status c.status)) n

pub unread_at : (t : Locks) (m n : ℕ) (o : Option Core) → get t.cores m ≡ o → get (reader_dropped t m o).cores n ≡ cond (n == m) (left_by without_reader o) (get t.cores n)
unread_at t m n None e = unknown t.cores m n e
unread_at t m n (Some c) e = at-kept t m (without_reader c) n

aged-by : (s : PermitState) (t : Locks) (m n : ℕ) (c : Core) → is_old s ≡ true → get (table_at s t m c).cores n ≡ cond (n == m) (Some (aged c)) (get t.cores n)
aged-by stage.Over t m n c old = cc
aged-by stage.Old t m n c old = written t.cores m (aged c) n
aged-by stage.Held t m n c old = cc

pub aged_at : (t : Locks) (now m n : ℕ) (o : Option Core) → get t.cores m ≡ o → is_old_at now o ≡ true → get (after_poll t now m o).cores n ≡ cond (n == m) (turned_by aged o) (get t.cores n)
aged_at t now m n None e old = unknown t.cores m n e
aged_at t now m n (Some c) e old = aged-by (permit_state now c) t m n c old

-- what a deed makes of its lock
abbrev pub turned : ℕ → Deed → Option Core → Option Core
turned age (Granted slot m stale now) o = Some (new_core (Some slot) age stale now)
turned age (Joined slot m now) o = turned_by with_reader o
turned age (Released m reason) o = left_by (λ c. spent c (released_status reason c.status)) o
turned age (LetGo m) o = left_by (λ c. spent c (dropped_status c.status)) o
turned age (Aged m now) o = turned_by aged o
turned age (Left m) o = left_by without_reader o
turned age (Polled m now) o = o
turned age (Published m tokens) o = turned_by (with_publication tokens) o
turned age (Made m own stale now) o = Some (new_core None own stale now)
turned age (ReadLocked m) o = turned_by with_reader o
turned age (Unlocked m reason) o = turned_by (ended reason) o

pub turns : (deed : Deed) (s t : Locks) (n : ℕ) → Does deed s t → get t.cores n ≡ cond (n == number_of deed) (turned s.age_timeout deed (get s.cores (number_of deed))) (get s.cores n)
turns (Granted slot m stale now) s t n h =
    let c : Core = new_core (Some slot) s.age_timeout stale now in
    ap (λ u. get u.cores n) h.2 ∙ written s.cores s.next c n ∙ ap (λ x. cond (n == x) (Some c) (get s.cores n)) (sym h.1)
turns (Joined slot m now) s t n h = ap (λ u. get u.cores n) h.1 ∙ read_at s m n (get s.cores m) refl
turns (Released m reason) s t n h = ap (λ u. get u.cores n) h.1 ∙ released_at s m reason n (get s.cores m) refl
turns (LetGo m) s t n h = ap (λ u. get u.cores n) h ∙ dropped_at s m n (get s.cores m) refl
turns (Aged m now) s t n h = ap (λ u. get u.cores n) h.1 ∙ aged_at s now m n (get s.cores m) refl h.0
turns (Left m) s t n h = ap (λ u. get u.cores n) h ∙ unread_at s m n (get s.cores m) refl
turns (Polled m now) s t n h = ap (λ u. get u.cores n) h.1 ∙ same_by s.cores m n (n == m) refl
turns (Published m tokens) s t n h = ap (λ u. get u.cores n) h ∙ changed_at (with_publication tokens) s.cores m n (get s.cores m) refl
turns (Made m own stale now) s t n h =
    let c : Core = new_core None own stale now in
    ap (λ u. get u.cores n) h.1 ∙ written s.cores s.next c n ∙ ap (λ x. cond (n == x) (Some c) (get s.cores n)) (sym h.0)
turns (ReadLocked m) s t n h = ap (λ u. get u.cores n) h ∙ read_at s m n (get s.cores m) refl
turns (Unlocked m reason) s t n h = ap (λ u. get u.cores n) h.1 ∙ changed_at (ended reason) s.cores m n (get s.cores m) refl

pub own_by : {A B : Type 0} (f : A → B) (g : ℕ → A) (m n : ℕ) (y : B) (b : Bool) → (n == m) ≡ b → cond b (f (g m)) y ≡ cond b (f (g n)) y
own_by f g m n y false e = refl
own_by f g m n y true e = ap (λ k. f (g k)) (let is : m ≡ n = grind (arith, nat_tests) in is)

-- The age at which permits are too old stays.
pub age_read : (t : Locks) (m : ℕ) (o : Option Core) → (with_read_lock t m o).age_timeout ≡ t.age_timeout
age_read t m None = refl
age_read t m (Some c) = refl

age-kept : (b : Bool) (t : Locks) (m : ℕ) (d : Core) → (cond b (record t { cores = insert t.cores m d }) (record t { cores = remove t.cores m; current = without_entry m d.slot t.current })).age_timeout ≡ t.age_timeout
age-kept true t m d = refl
age-kept false t m d = refl

age-left : (b : Bool) (t : Locks) (current : FinMap nat_cmp ℕ) → (cond b t (record t { current = current })).age_timeout ≡ t.age_timeout
age-left true t current = refl
age-left false t current = refl

pub age_released : (t : Locks) (m : ℕ) (reason : LockStatus) (o : Option Core) → (released_on t m reason o).age_timeout ≡ t.age_timeout
age_released t m reason None = refl
age_released t m reason (Some c) =
    let d : Core = spent c (released_status reason c.status) in
    age-kept (is_named d) (left t m c) m d ∙ age-left (is_aged c.status) t (without_entry m c.slot t.current)

pub age_dropped : (t : Locks) (m : ℕ) (o : Option Core) → (permit_dropped t m o).age_timeout ≡ t.age_timeout
age_dropped t m None = refl
age_dropped t m (Some c) = let d : Core = spent c (dropped_status c.status) in age-kept (is_named d) t m d

pub age_unread : (t : Locks) (m : ℕ) (o : Option Core) → (reader_dropped t m o).age_timeout ≡ t.age_timeout
age_unread t m None = refl
age_unread t m (Some c) = age-kept (is_named (without_reader c)) t m (without_reader c)

age-stage : (s : PermitState) (t : Locks) (m : ℕ) (c : Core) → (table_at s t m c).age_timeout ≡ t.age_timeout
age-stage stage.Over t m c = refl
age-stage stage.Old t m c = refl
age-stage stage.Held t m c = refl

pub age_polled : (t : Locks) (now m : ℕ) (o : Option Core) → (after_poll t now m o).age_timeout ≡ t.age_timeout
age_polled t now m None = refl
age_polled t now m (Some c) = age-stage (permit_state now c) t m c

pub age-then : (deed : Deed) (s t : Locks) → Does deed s t → t.age_timeout ≡ s.age_timeout
age-then (Granted slot m stale now) s t h = ap (λ u. u.age_timeout) h.2
age-then (Joined slot m now) s t h = ap (λ u. u.age_timeout) h.1 ∙ age_read s m (get s.cores m)
age-then (Released m reason) s t h = ap (λ u. u.age_timeout) h.1 ∙ age_released s m reason (get s.cores m)
age-then (LetGo m) s t h = ap (λ u. u.age_timeout) h ∙ age_dropped s m (get s.cores m)
age-then (Aged m now) s t h = ap (λ u. u.age_timeout) h.1 ∙ age_polled s now m (get s.cores m)
age-then (Left m) s t h = ap (λ u. u.age_timeout) h ∙ age_unread s m (get s.cores m)
age-then (Polled m now) s t h = ap (λ u. u.age_timeout) h.1
age-then (Published m tokens) s t h = ap (λ u. u.age_timeout) h
age-then (Made m own stale now) s t h = ap (λ u. u.age_timeout) h.1
age-then (ReadLocked m) s t h = ap (λ u. u.age_timeout) h ∙ age_read s m (get s.cores m)
age-then (Unlocked m reason) s t h = ap (λ u. u.age_timeout) h.1

age-said : (past : List Deed) (start age : ℕ) (t : Locks) → PastLeads past (no_locks_from start age) t → t.age_timeout ≡ age
age-said [] start age t h = ap (λ u. u.age_timeout) h
age-said (deed ∷ past) start age t h = age-then deed h.0 t h.1.1 ∙ age-said past start age h.0 h.1.0

-- What is known of a lock.
abbrev pub Knows : Bool → LockStatus → ℕ × ℕ → Option Core → Type 0
Knows held s given None = held ≡ false
Knows held s given (Some c) = (c.held ≡ held) × (c.status ≡ s) × ((c.start, c.age_timeout) ≡ given) × (held ≡ false → is_waiting s ≡ false)

unheld : (a b : Bool) → (a || b) ≡ false → a ≡ false
unheld true b e = e
unheld false b e = refl

release-ends : (reason s : LockStatus) → IsReason reason → is_waiting (released_status reason s) ≡ false
release-ends reason s is = elim (is_aged s) as (λ b. is_waiting (cond b status.AgeTimeout reason) ≡ false) [ true ↦ refl | false ↦ reason_ends reason is ]

drop-ends : (s : LockStatus) → is_waiting (dropped_status s) ≡ false
drop-ends status.Waiting = refl
drop-ends s = refl

knows-left : (b : Bool) (d : Core) (held : Bool) (s : LockStatus) (given : ℕ × ℕ) → is_named d ≡ b → Knows held s given (Some d) → Knows held s given (cond b (Some d) None)
knows-left true d held s given e k = k
knows-left false d held s given e k = sym k.0 ∙ unheld d.held _ e

knows-by : (age : ℕ) (deed : Deed) (u t : Locks) → Does deed u t → (held : Bool) (s : LockStatus) (given : ℕ × ℕ) (o : Option Core) → Knows held s given o → Knows (held_since deed held) (status_by deed s) (given_by age deed given) (turned age deed o)
knows-by age (Granted slot m stale now) u t h held s given o k = (refl, refl, refl, λ e. cc)
knows-by age (Joined slot m now) u t h held s given None k = k
knows-by age (Joined slot m now) u t h held s given (Some c) k = k
knows-by age (Released m reason) u t h held s given None k = refl
knows-by age (Released m reason) u t h held s given (Some c) k =
    let d : Core = spent c (released_status reason c.status) in
    knows-left (is_named d) d false (released_status reason s) given refl (refl, ap (released_status reason) k.1, k.2, λ _. release-ends reason s h.0)
knows-by age (LetGo m) u t h held s given None k = refl
knows-by age (LetGo m) u t h held s given (Some c) k =
    let d : Core = spent c (dropped_status c.status) in
    knows-left (is_named d) d false (dropped_status s) given refl (refl, ap dropped_status k.1, k.2, λ _. drop-ends s)
knows-by age (Aged m now) u t h held s given None k = k
knows-by age (Aged m now) u t h held s given (Some c) k = (k.0, refl, k.2, λ _. refl)
knows-by age (Left m) u t h held s given None k = k
knows-by age (Left m) u t h held s given (Some c) k = knows-left (is_named (without_reader c)) (without_reader c) held s given refl k
knows-by age (Polled m now) u t h held s given o k = k
knows-by age (Published m tokens) u t h held s given None k = k
knows-by age (Published m tokens) u t h held s given (Some c) k = k
knows-by age (Made m own stale now) u t h held s given o k = (refl, refl, refl, λ e. cc)
knows-by age (ReadLocked m) u t h held s given None k = k
knows-by age (ReadLocked m) u t h held s given (Some c) k = k
knows-by age (Unlocked m reason) u t h held s given None k = k
knows-by age (Unlocked m reason) u t h held s given (Some c) k = (k.0, refl, k.2, λ _. reason_ends reason h.0)

knows-cond : (b held0 held1 : Bool) (s0 s1 : LockStatus) (given0 given1 : ℕ × ℕ) (o0 o1 : Option Core) → Knows held1 s1 given1 o1 → Knows held0 s0 given0 o0
    → Knows (cond b held1 held0) (cond b s1 s0) (cond b given1 given0) (cond b o1 o0)
knows-cond true held0 held1 s0 s1 given0 given1 o0 o1 k1 k0 = k1
knows-cond false held0 held1 s0 s1 given0 given1 o0 o1 k1 k0 = k0

knows : (past : List Deed) (start age : ℕ) (t : Locks) (n : ℕ) → PastLeads past (no_locks_from start age) t → Knows (is_held n past) (status_said n past) (given_at age n past) (get t.cores n)
knows [] start age t n h = subst (Knows false status.Waiting (0, 0)) (sym (ap (λ u. get u.cores n) h ∙ get-empty nat_cmp n)) refl
knows (deed ∷ past) start age t n h =
    let m = number_of deed in
    let s : Locks = h.0 in
    let before = knows past start age s n h.1.0 in
    let is : get t.cores n ≡ cond (n == m) (turned age deed (get s.cores n)) (get s.cores n) =
    turns deed s t n h.1.1
    ∙ ap (λ a. cond (n == m) (turned a deed (get s.cores m)) (get s.cores n)) (age-said past start age s h.1.0)
    ∙ own_by (turned age deed) (get s.cores) m n (get s.cores n) (n == m) refl in
    subst (Knows (is_held n (deed ∷ past)) (status_said n (deed ∷ past)) (given_at age n (deed ∷ past))) (sym is)
    (knows-cond (n == m) (is_held n past) (held_since deed (is_held n past)) (status_said n past) (status_by deed (status_said n past)) (given_at age n past) (given_by age deed (given_at age n past)) (get s.cores n) (turned age deed (get s.cores n))
    (knows-by age deed s t h.1.1 (is_held n past) (status_said n past) (given_at age n past) (get s.cores n) before) before)

-- What a poll returns.
returns-held : (o : Option UnusableFill) → ReturnsBy stage.Held (told_or_pending o)
returns-held None = inl refl
returns-held (Some fill) = inr (fill, refl)

returns-stage : (s : PermitState) (w : Watch) → ReturnsBy s (answer_at s w)
returns-stage stage.Over w = refl
returns-stage stage.Old w = refl
returns-stage stage.Held w = returns-held w.told

-- the stage of a permit is the one that the past says
pub stage-is : (now : ℕ) (held : Bool) (s : LockStatus) (given : ℕ × ℕ) (c : Core) → Knows held s given (Some c) → permit_state now c ≡ stage_by held s (is_late now given)
stage-is now held s given c k =
    ap (λ b. stage_by b c.status (is_late now (c.start, c.age_timeout))) k.0
    ∙ ap (λ x. stage_by held x (is_late now (c.start, c.age_timeout))) k.1
    ∙ ap (λ g. stage_by held s (is_late now g)) k.2

returns-known : (now : ℕ) (fills : Option (List UnusableFill)) (w : Option Watch) (held : Bool) (s : LockStatus) (given : ℕ × ℕ) (o : Option Core) → Knows held s given o → ReturnsBy (stage_by held s (is_late now given)) (polled now fills w o)
returns-known now fills w held s given None k = subst (λ b. ReturnsBy (stage_by b s (is_late now given)) (polled now fills w None)) (sym k) refl
returns-known now fills w held s given (Some c) k = subst (λ x. ReturnsBy x (polled now fills w (Some c))) (stage-is now held s given c k) (returns-stage (permit_state now c) (watched c (watch_at c fills w)))

pub known-by : (t : Locks) (past : List Deed) → IsPastOf t past → (n : ℕ) → Knows (is_held n past) (status_said n past) (given_at t.age_timeout n past) (get t.cores n)
known-by t past is n = subst (λ a. Knows (is_held n past) (status_said n past) (given_at a n past) (get t.cores n)) (sym (age-said past is.0 is.1.0 t is.1.1)) (knows past is.0 is.1.0 t n is.1.1)

pub ends_by_past : EndsByPastAlways
ends_by_past t past is now n fills w = returns-known now fills w (is_held n past) (status_said n past) (given_at t.age_timeout n past) (get t.cores n) (known-by t past is n)

pub status_by_past : StatusByPastAlways
status_by_past t past is n c at = (subst (Knows (is_held n past) (status_said n past) (given_at t.age_timeout n past)) at (known-by t past is n)).1
