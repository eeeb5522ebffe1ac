-- What a wait returns, and what a writer publishes (own).
use Rattle.std.specs.Prelude.{false, ℕ, ◌≡◌, ◌<◌, ◌-◌, ◌==◌, nat_le, ◌&&◌, ◌||◌, ◌++◌, Bool, true, Option, Some, None, List, [], ◌∷◌, length, drop, cond, slice_get, unwrap_or}
use Rattle.std.specs.Option.{option_or}
use Rattle.std.specs.FinMap.{get, insert}
use Rattle.pcache_base.specs.declared.fills.UnusableFill.{UnusableFill}
use Rattle.pcache_base.specs.declared.poll.Poll.{Poll}
use Rattle.pcache_base.specs.declared.poll.Poll.TheVariants.{Ready, Pending}
use Rattle.pcache_base.specs.Fills.{first_match}
use Rattle.pcache_lock.specs.declared.lock.outcome.WaitOutcome.{WaitOutcome}
use Rattle.pcache_lock.specs.declared.lock.outcome.WaitOutcome.TheVariants.{Released, AgeTimeout, Abandoned}
use Rattle.pcache_lock.specs.declared.lock.outcome.PermitState.{PermitState}
use Rattle.pcache_lock.specs.declared.lock.outcome.PermitState.TheVariants.{Over, Old, Held}
use Rattle.pcache_lock.specs.declared.lock.status.LockStatus.{LockStatus}
use Rattle.pcache_lock.specs.declared.lock.status.LockStatus.TheVariants as status
use Rattle.pcache_lock.specs.Statuses.{is_aged, is_waiting}
use Rattle.pcache_lock.specs.Permits.{Core, Reader, Watch, is_locked}
use Rattle.pcache_lock.specs.Locks.{Locks, changed}

-- the permit was held for too long; a moment before its start counts as no time
abbrev pub is_expired : ℕ → Core → Bool
is_expired now c = nat_le c.age_timeout (now - c.start)

-- a permit is over; or else too old, also if it was found so before; or else held
abbrev pub permit_state : ℕ → Core → PermitState
permit_state now c = cond (is_locked c) (cond (is_aged c.status || is_expired now c) Old Held) Over

-- the permit has been held for too long
abbrev pub is_old : PermitState → Bool
is_old Over = false
is_old Old = true
is_old Held = false

-- of the first publication that has any of the fills, the first fill of the list
abbrev pub first_told : List UnusableFill → List (List ℕ) → Option UnusableFill
first_told fills [] = None
first_told fills (p ∷ ps) = option_or (first_match p fills) (first_told fills ps)

-- what a reader watches for from its first poll on: the fills passed to that poll, in the publications from the one
-- on that was current then
abbrev pub first_watch : Core → List UnusableFill → Watch
first_watch c fills = record { fills = fills; seen = length c.publications - 1; told = None }

-- what a reader watches for: from its first poll on the fills of that poll
abbrev pub watch_at : Core → Option (List UnusableFill) → Option Watch → Watch
watch_at c fills None = first_watch c (unwrap_or fills [])
watch_at c fills (Some w) = w

-- the reader looks at the publications since then; a fill that it was told of remains
abbrev pub watched : Core → Watch → Watch
watched c w = record w {
  seen = length c.publications;
  told = option_or w.told (first_told w.fills (drop w.seen c.publications));
}

-- a poll of a held permit: abandoned for the fill that the reader was told of, or pending
abbrev pub told_or_pending : Option UnusableFill → Poll WaitOutcome
told_or_pending None = Pending
told_or_pending (Some fill) = Ready (Abandoned fill)

-- what a poll returns
abbrev pub answer_at : PermitState → Watch → Poll WaitOutcome
answer_at Over w = Ready Released
answer_at Old w = Ready AgeTimeout
answer_at Held w = told_or_pending w.told

-- what a poll returns, of a lock that may not be known any more
abbrev pub polled : ℕ → Option (List UnusableFill) → Option Watch → Option Core → Poll WaitOutcome
polled now fills w None = Ready Released
polled now fills w (Some c) = answer_at (permit_state now c) (watched c (watch_at c fills w))

-- the reader after a poll
abbrev pub reader_at : PermitState → Reader → Watch → Reader
reader_at Over r w = r
reader_at Old r w = r
reader_at Held r w = record r { watch = Some w }

-- the reader after a poll
abbrev pub reader_polled : ℕ → Option (List UnusableFill) → Reader → Option Core → Reader
reader_polled now fills r None = r
reader_polled now fills r (Some c) = reader_at (permit_state now c) r (watched c (watch_at c fills r.watch))

-- the table after a poll: that a permit is too old is recorded
abbrev pub aged : Core → Core
aged c = record c { status = status.AgeTimeout }

-- the lock after a poll that found its permit in this stage
abbrev pub table_at : PermitState → Locks → ℕ → Core → Locks
table_at Over t n c = t
table_at Old t n c = record t { cores = insert t.cores n (aged c) }
table_at Held t n c = t

-- the table after a poll
abbrev pub after_poll : Locks → ℕ → ℕ → Option Core → Locks
after_poll t now n None = t
after_poll t now n (Some c) = table_at (permit_state now c) t n c

-- the status of a lock for a reader: too old as soon as that moment has come
abbrev pub status_at : ℕ → Core → LockStatus
status_at now c = cond (is_waiting c.status && is_expired now c) status.AgeTimeout c.status

-- the status of a lock for a reader; a lock that is not known is dangling
abbrev pub status_seen : ℕ → Option Core → LockStatus
status_seen now None = status.Dangling
status_seen now (Some c) = status_at now c

-- the current publication has no token
abbrev pub says_nothing : Option (List ℕ) → Bool
says_nothing None = true
says_nothing (Some tokens) = length tokens == 0

-- if the current publication has a token, there is room for one more publication
abbrev pub HasRoom : List (List ℕ) → ℕ → Type 0
HasRoom ps capacity = says_nothing (slice_get ps (length ps - 1)) ≡ false → length ps < capacity

-- a publication replaces the current one. The earlier ones are kept only if a read lock may still look at them.
-- Publishing nothing when nothing is published changes nothing.
abbrev pub publications_with : ℕ → List ℕ → List (List ℕ) → List (List ℕ)
publications_with readers tokens ps =
    cond (length tokens == 0 && says_nothing (slice_get ps (length ps - 1))) ps
    (cond (readers == 0) (tokens ∷ []) (ps ++ tokens ∷ []))

-- a lock with one more publication
abbrev pub with_publication : List ℕ → Core → Core
with_publication tokens c = record c { publications = publications_with c.readers tokens c.publications }

-- the table after a permit published tokens
abbrev pub published : Locks → ℕ → List ℕ → Locks
published t n tokens = record t { cores = changed (with_publication tokens) t.cores n (get t.cores n) }

-- whether a permit that is known has been held for too long at this moment
abbrev pub expired_at : ℕ → Option Core → Bool
expired_at now None = false
expired_at now (Some c) = is_expired now c
