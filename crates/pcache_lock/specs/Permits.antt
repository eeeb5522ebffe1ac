-- Permits, read locks, and what a table knows of a lock (own).
use Rattle.std.specs.Prelude.{ℕ, ◌+◌, ◌-◌, ◌^◌, min, nat_lt, ◌&&◌, ◌||◌, Bool, true, false, Option, None, Some, List, [], cond}
use Rattle.pcache_base.specs.declared.fills.UnusableFill.{UnusableFill}
use Rattle.pcache_lock.specs.declared.lock.status.LockStatus.{LockStatus}
use Rattle.pcache_lock.specs.declared.lock.status.LockStatus.TheVariants.{Waiting, Dangling, AgeTimeout}
use Rattle.pcache_lock.specs.Statuses.{is_aged, is_pending}

-- what a contract sees of a permit
pub record Permit : Type 0 where
  pub number : ℕ
  pub stale_writer : Bool  -- it was asked for to replace a stale entry

-- what a reader watches for from its first poll on
pub record Watch : Type 0 where
  pub fills : List UnusableFill  -- the fills that it cannot use
  pub seen : ℕ  -- how many of the permit's publications it has looked at
  pub told : Option UnusableFill  -- the one that it was told of

-- what a contract sees of a read lock
pub record Reader : Type 0 where
  pub number : ℕ  -- of the lock that it waits for
  pub watch : Option Watch

-- what a table knows of a lock
pub record Core : Type 0 where
  pub slot : Option ℕ  -- the slot of the key for which it was given
  pub status : LockStatus
  pub start : ℕ  -- the moment when its permit was given
  pub age_timeout : ℕ  -- the age in nanoseconds at which it is too old
  pub stale_writer : Bool
  pub held : Bool  -- its permit is not spent
  pub readers : ℕ  -- how many read locks name it
  pub publications : List (List ℕ)  -- the current one is the last

-- a lock whose permit is given now
abbrev pub new_core : Option ℕ → ℕ → Bool → ℕ → Core
new_core slot age_timeout stale now = record {
  slot = slot;
  status = Waiting;
  start = now;
  age_timeout = age_timeout;
  stale_writer = stale;
  held = true;
  readers = 0;
  publications = [];
}

-- the permit or a read lock still names it
abbrev pub is_named : Core → Bool
is_named c = c.held || nat_lt 0 c.readers

-- the permit is held, and its final status was not set yet
abbrev pub is_locked : Core → Bool
is_locked c = c.held && is_pending c.status

-- how many read locks name a lock that may not be known, and its publications
abbrev pub readers_at : Option Core → ℕ
readers_at None = 0
readers_at (Some c) = c.readers

abbrev pub publications_at : Option Core → List (List ℕ)
publications_at None = []
publications_at (Some c) = c.publications

-- one more read lock, up to the largest number of 128 bits; one read lock less
abbrev pub with_reader : Core → Core
with_reader c = record c { readers = min (c.readers + 1) (2 ^ 128 - 1) }

abbrev pub without_reader : Core → Core
without_reader c = record c { readers = c.readers - 1 }

-- the permit is gone
abbrev pub spent : Core → LockStatus → Core
spent c status = record c { status = status; held = false }

-- the status that a permit leaves which is released with a reason, and one that is let go
abbrev pub released_status : LockStatus → LockStatus → LockStatus
released_status reason status = cond (is_aged status) AgeTimeout reason

abbrev pub dropped_status : LockStatus → LockStatus
dropped_status status = cond (is_pending status) Dangling status
