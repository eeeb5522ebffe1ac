-- Every deed leads from a tidy table to a tidy one.
use Rattle.pcache_lock.specs.Locks.{with_free_permit}
use Rattle.pcache_lock.specs.PastLaws.{OneWaitsAlways, AskFindsTheWaitingAlways}
use Rattle.pcache_table.proofs.Sharded.{get-remove-at, get-remove-off}
use Rattle.pcache_lock.proofs.Words.{◌≡◌, ℕ, Bool, true, false, ◌&&◌, ◌||◌, Option, None, Some, List, [], ◌∷◌, cond, refl, sym, ◌∙◌, ap, subst, arith, list_any, nat_cmp, eq_by_cmp, get, insert, remove, get-empty, PermitState, LockStatus, IsReason, is_free, is_waiting, is_aged, Core, new_core, is_named, with_reader, without_reader, spent, dropped_status, Locks, no_locks_from, with_read_lock, without_entry, kept, released_on, permit_dropped, reader_dropped, changed, ended, after_poll, table_at, permit_state, aged, with_publication, waiting_slot, waits_under, Deed, Granted, Joined, Released, LetGo, Aged, Left, Polled, Published, Made, ReadLocked, Unlocked, Does, PastLeads, is_unlocking, by_test, get-insert-at, get-insert-off}
use Rattle.pcache_lock.specs.declared.lock.outcome.PermitState.TheVariants as stage
use Rattle.pcache_lock.specs.declared.lock.status.LockStatus.TheVariants as status
use Rattle.pcache_lock.proofs.Tidy.{Tidy, Stands, is_open, or_kept, put_tidy, left_tidy, none_some, asked_tidy, found, asked_waits}

-- a permit let go
drop_open : (held : Bool) (s : LockStatus) → (is_free s || (held && is_waiting s)) ≡ true → (is_free (dropped_status s) || (false && is_waiting (dropped_status s))) ≡ true
drop_open held status.Waiting h = refl
drop_open held status.Dangling h = refl
drop_open held status.AgeTimeout h = refl
drop_open true status.Done h = h
drop_open false status.Done h = h
drop_open true status.TransientError h = h
drop_open false status.TransientError h = h
drop_open true status.GiveUp h = h
drop_open false status.GiveUp h = h
drop_open true status.WaitTimeout h = h
drop_open false status.WaitTimeout h = h

never : {P : Type 0} → false ≡ true → P
never h = cc

-- a poll
not_both : {P : Type 0} (b : Bool) → (b && false) ≡ true → P
not_both true h = never h
not_both false h = never h

pub or_first : (a b : Bool) → a ≡ true → (a || b) ≡ true
or_first a b e = ap (λ x. x || b) e

pub or_second : (a b : Bool) → b ≡ true → (a || b) ≡ true
or_second true b e = refl
or_second false b e = e

-- a permit whose final status was set no longer waits
pub reason_ends : (s : LockStatus) → IsReason s → is_waiting s ≡ false
reason_ends status.Waiting r = absurd r
reason_ends status.Done r = refl
reason_ends status.TransientError r = refl
reason_ends status.GiveUp r = refl
reason_ends status.Dangling r = refl
reason_ends status.WaitTimeout r = absurd r
reason_ends status.AgeTimeout r = refl

module _ (unlocks : Bool) where
  pub start_tidy_from : (start age : ℕ) → Tidy unlocks (no_locks_from start age)
  start_tidy_from start age = record {
    entries = λ slot n h. none_some (get (no_locks_from start age).current slot) n (get-empty nat_cmp slot) h;
    waiting = λ slot n h. none_some (waits_under (no_locks_from start age) n) slot (ap waiting_slot (get-empty nat_cmp n)) h;
    unused = λ n le. get-empty nat_cmp n;
  }

  -- a lock written back, or gone with its entry
  kept_by : (b : Bool) (t : Locks) (n : ℕ) (c d : Core) → get t.cores n ≡ Some c → d.slot ≡ c.slot → ((unlocks || is_open c) ≡ true → (unlocks || is_open d) ≡ true) → ((d.held && is_waiting d.status) ≡ true → (c.held && is_waiting c.status) ≡ true) → Tidy unlocks t
      → Tidy unlocks (cond b (record t { cores = insert t.cores n d }) (record t { cores = remove t.cores n; current = without_entry n d.slot t.current }))
  kept_by true t n c d is e o w tidy = put_tidy unlocks t n c d is e o w tidy
  kept_by false t n c d is e o w tidy = left_tidy unlocks t n c (remove t.cores n) (without_entry n d.slot t.current) is (λ m off. get-remove-off t.cores n m off) (ap waiting_slot (get-remove-at t.cores n)) (ap (λ s. without_entry n s t.current) e) tidy

  pub kept_tidy : (t : Locks) (n : ℕ) (c d : Core) → get t.cores n ≡ Some c → d.slot ≡ c.slot → ((unlocks || is_open c) ≡ true → (unlocks || is_open d) ≡ true) → ((d.held && is_waiting d.status) ≡ true → (c.held && is_waiting c.status) ≡ true) → Tidy unlocks t → Tidy unlocks (kept t n d)
  kept_tidy t n c d is e o w tidy = kept_by (is_named d) t n c d is e o w tidy

  -- one more read lock
  read_tidy : (t : Locks) (n : ℕ) (o : Option Core) → get t.cores n ≡ o → Tidy unlocks t → Tidy unlocks (with_read_lock t n o)
  read_tidy t n None is tidy = tidy
  read_tidy t n (Some c) is tidy = put_tidy unlocks t n c (with_reader c) is refl (λ h. h) (λ h. h) tidy

  drop_tidy : (t : Locks) (n : ℕ) (o : Option Core) → get t.cores n ≡ o → Tidy unlocks t → Tidy unlocks (permit_dropped t n o)
  drop_tidy t n None is tidy = tidy
  drop_tidy t n (Some c) is tidy = kept_tidy t n c (spent c (dropped_status c.status)) is refl (or_kept unlocks (is_open c) (is_open (spent c (dropped_status c.status))) (λ h. drop_open c.held c.status h)) (λ h. never h) tidy

  unread_tidy : (t : Locks) (n : ℕ) (o : Option Core) → get t.cores n ≡ o → Tidy unlocks t → Tidy unlocks (reader_dropped t n o)
  unread_tidy t n None is tidy = tidy
  unread_tidy t n (Some c) is tidy = kept_tidy t n c (without_reader c) is refl (λ h. h) (λ h. h) tidy

  -- a permit released: its entry goes first
  left_by : (b : Bool) (t : Locks) (n : ℕ) (c d : Core) → get t.cores n ≡ Some c → d.slot ≡ c.slot → d.held ≡ false → Tidy unlocks t
      → Tidy unlocks (cond b (record t { cores = insert t.cores n d; current = without_entry n c.slot t.current })
      (record t { cores = remove t.cores n; current = without_entry n d.slot (without_entry n c.slot t.current) }))
  left_by b t n c d is e gone tidy =
      let none : waiting_slot (get (insert t.cores n d) n) ≡ None = ap waiting_slot (get-insert-at t.cores n d) ∙ ap (λ h. cond (h && is_waiting d.status) d.slot None) gone in
      let first = left_tidy unlocks t n c (insert t.cores n d) (without_entry n c.slot t.current) is (λ m off. get-insert-off t.cores n d m off) none refl tidy in
      elim b as (λ b. Tidy unlocks (cond b (record t { cores = insert t.cores n d; current = without_entry n c.slot t.current })
      (record t { cores = remove t.cores n; current = without_entry n d.slot (without_entry n c.slot t.current) }))) [
        | true ↦ first
        | false ↦ left_tidy unlocks (record t { cores = insert t.cores n d; current = without_entry n c.slot t.current }) n d (remove t.cores n) (without_entry n d.slot (without_entry n c.slot t.current))
            (get-insert-at t.cores n d) (λ m off. get-remove-off t.cores n m off ∙ sym (get-insert-off t.cores n d m off)) (ap waiting_slot (get-remove-at t.cores n)) refl first
      ]

  release_by : (b : Bool) (t : Locks) (n : ℕ) (reason : LockStatus) (c : Core) → get t.cores n ≡ Some c → Tidy unlocks t
      → Tidy unlocks (kept (cond b t (record t { current = without_entry n c.slot t.current })) n (spent c (cond b status.AgeTimeout reason)))
  release_by true t n reason c is tidy = kept_tidy t n c (spent c status.AgeTimeout) is refl (or_kept unlocks (is_open c) true (λ h. refl)) (λ h. never h) tidy
  release_by false t n reason c is tidy = left_by (is_named (spent c reason)) t n c (spent c reason) is refl refl tidy

  release_tidy : (t : Locks) (n : ℕ) (reason : LockStatus) (o : Option Core) → get t.cores n ≡ o → Tidy unlocks t → Tidy unlocks (released_on t n reason o)
  release_tidy t n reason None is tidy = tidy
  release_tidy t n reason (Some c) is tidy = release_by (is_aged c.status) t n reason c is tidy

  poll_by : (s : PermitState) (t : Locks) (n : ℕ) (c : Core) → get t.cores n ≡ Some c → Tidy unlocks t → Tidy unlocks (table_at s t n c)
  poll_by stage.Over t n c is tidy = tidy
  poll_by stage.Old t n c is tidy = put_tidy unlocks t n c (aged c) is refl (or_kept unlocks (is_open c) true (λ h. refl)) (λ h. not_both c.held h) tidy
  poll_by stage.Held t n c is tidy = tidy

  poll_tidy : (t : Locks) (now n : ℕ) (o : Option Core) → get t.cores n ≡ o → Tidy unlocks t → Tidy unlocks (after_poll t now n o)
  poll_tidy t now n None is tidy = tidy
  poll_tidy t now n (Some c) is tidy = poll_by (permit_state now c) t n c is tidy

  -- a publication
  publish_tidy : (t : Locks) (n : ℕ) (tokens : List ℕ) (o : Option Core) → get t.cores n ≡ o → Tidy unlocks t → Tidy unlocks (record t { cores = changed (with_publication tokens) t.cores n o })
  publish_tidy t n tokens None is tidy = tidy
  publish_tidy t n tokens (Some c) is tidy = put_tidy unlocks t n c (with_publication tokens c) is refl (λ h. h) (λ h. h) tidy

  -- a permit under no key
  made_tidy : (t : Locks) (age : ℕ) (stale : Bool) (now : ℕ) → Tidy unlocks t → Tidy unlocks (with_free_permit t age stale now)
  made_tidy t age stale now tidy =
      let c : Core = new_core None age stale now in
      record {
        entries = λ slot m h.
            let old = tidy.entries slot m h in
            by_test m t.next (eq_by_cmp nat_cmp m t.next) refl
            (λ same. absurd (subst (Stands unlocks slot) (ap (get t.cores) same ∙ tidy.unused t.next (omega arith)) old))
            (λ off. subst (Stands unlocks slot) (sym (get-insert-off t.cores t.next c m off)) old);
        waiting = λ slot m h. by_test m t.next (eq_by_cmp nat_cmp m t.next) refl
            (λ same. none_some (waiting_slot (get (insert t.cores t.next c) m)) slot (ap waiting_slot (ap (get (insert t.cores t.next c)) same ∙ get-insert-at t.cores t.next c)) h)
            (λ off. tidy.waiting slot m (ap waiting_slot (sym (get-insert-off t.cores t.next c m off)) ∙ h));
        unused = λ m le. by_test m t.next (eq_by_cmp nat_cmp m t.next) refl
            (λ same. absurd (omega arith))
            (λ off. get-insert-off t.cores t.next c m off ∙ tidy.unused m (omega arith));
      }

  -- a permit whose final status is set, which takes no other one's place
  unlock_tidy : (t : Locks) (n : ℕ) (reason : LockStatus) (o : Option Core) → get t.cores n ≡ o → IsReason reason → unlocks ≡ true → Tidy unlocks t → Tidy unlocks (record t { cores = changed (ended reason) t.cores n o })
  unlock_tidy t n reason None is r allowed tidy = tidy
  unlock_tidy t n reason (Some c) is r allowed tidy =
      put_tidy unlocks t n c (ended reason c) is refl (λ _. ap (λ b. b || is_open (ended reason c)) allowed)
      (λ h. not_both c.held (ap (λ b. c.held && b) (sym (reason_ends reason r)) ∙ h)) tidy

  pub deed_tidy : (deed : Deed) (s t : Locks) → Does deed s t → (is_unlocking deed ≡ true → unlocks ≡ true) → Tidy unlocks s → Tidy unlocks t
  deed_tidy (Granted slot n stale now) s t h _ tidy = subst (Tidy unlocks) (sym h.2) (asked_tidy unlocks s slot stale now h.0 tidy)
  deed_tidy (Joined slot n now) s t h _ tidy = subst (Tidy unlocks) (sym h.1) (read_tidy s n (get s.cores n) refl tidy)
  deed_tidy (Released n reason) s t h _ tidy = subst (Tidy unlocks) (sym h.1) (release_tidy s n reason (get s.cores n) refl tidy)
  deed_tidy (LetGo n) s t h _ tidy = subst (Tidy unlocks) (sym h) (drop_tidy s n (get s.cores n) refl tidy)
  deed_tidy (Aged n now) s t h _ tidy = subst (Tidy unlocks) (sym h.1) (poll_tidy s now n (get s.cores n) refl tidy)
  deed_tidy (Left n) s t h _ tidy = subst (Tidy unlocks) (sym h) (unread_tidy s n (get s.cores n) refl tidy)
  deed_tidy (Polled n now) s t h _ tidy = subst (Tidy unlocks) (sym h.1) tidy
  deed_tidy (Published n tokens) s t h _ tidy = subst (Tidy unlocks) (sym h) (publish_tidy s n tokens (get s.cores n) refl tidy)
  deed_tidy (Made n age stale now) s t h _ tidy = subst (Tidy unlocks) (sym h.1) (made_tidy s age stale now tidy)
  deed_tidy (ReadLocked n) s t h _ tidy = subst (Tidy unlocks) (sym h) (read_tidy s n (get s.cores n) refl tidy)
  deed_tidy (Unlocked n reason) s t h may tidy = subst (Tidy unlocks) (sym h.1) (unlock_tidy s n reason (get s.cores n) refl h.0 (may refl) tidy)

  pub past_tidy : (past : List Deed) (s t : Locks) → PastLeads past s t → (list_any is_unlocking past ≡ true → unlocks ≡ true) → Tidy unlocks s → Tidy unlocks t
  past_tidy [] s t h may tidy = subst (Tidy unlocks) (sym h) tidy
  past_tidy (deed ∷ before) s t h may tidy =
      deed_tidy deed h.0 t h.1.1 (λ e. may (or_first (is_unlocking deed) (list_any is_unlocking before) e)) (past_tidy before s h.0 h.1.0 (λ e. may (or_second (is_unlocking deed) (list_any is_unlocking before) e)) tidy)

pub any_tidy : (past : List Deed) (start age : ℕ) (t : Locks) → PastLeads past (no_locks_from start age) t → Tidy true t
any_tidy past start age t h = past_tidy true past (no_locks_from start age) t h (λ _. refl) (start_tidy_from true start age)

pub one_waits : OneWaitsAlways
one_waits t past is slot n m a b =
    let tidy = any_tidy past is.0 is.1.0 t is.1.1 in
    let e : Some n ≡ Some m = sym (tidy.waiting slot n a) ∙ tidy.waiting slot m b in
    cc e

pub finds_the_waiting : AskFindsTheWaitingAlways
finds_the_waiting t past is none slot n =
    let tidy = past_tidy false past (no_locks_from is.0 is.1.0) t is.1.1 (λ e. sym none ∙ e) (start_tidy_from false is.0 is.1.0) in
    (λ a. asked_waits t tidy slot n a, λ b. found false t tidy slot n b)
