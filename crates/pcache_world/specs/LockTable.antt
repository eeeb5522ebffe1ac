-- The lock table, and the locks that requests hold, agree with the deeds (own).
use Rattle.std.specs.Prelude.{◌≡◌, ◌≢◌, ℕ, ◌-◌, ◌≤◌, ◌==◌, true, if◌then◌else◌, Option, None, Some, is_some, List, [], length, drop, slice_get, unwrap_or}
use Rattle.std.specs.Option.{option_or}
use Rattle.std.specs.Ordering.{nat_cmp}
use Rattle.std.specs.FinMap.{FinMap, get}
use Rattle.pcache_base.specs.Totals.{total}
use Rattle.pcache_lock.specs.Deeds as table
use Rattle.pcache_lock.specs.Locks.{Locks}
use Rattle.pcache_lock.specs.Past.{IsPastOf}
use Rattle.pcache_lock.specs.PastWaits.{given_at, is_held, status_said}
use Rattle.pcache_lock.specs.Permits.{Reader, Watch, publications_at, readers_at}
use Rattle.pcache_lock.specs.Waiting.{first_told}
use Rattle.pcache_lock.specs.declared.lock.permit.Locked.{Locked}
use Rattle.pcache_lock.specs.declared.lock.permit.Locked.TheVariants.{Write, Read}
use Rattle.pcache_history.specs.Deeds.{Deed, done, shown, publication, who_holds}
use Rattle.pcache_history.specs.Ongoing.{Ongoing}
use Rattle.pcache_history.specs.Rules.{permit_of}

-- how many read locks of a lock are held: by one request, and by all
abbrev pub locks_read : ℕ → Option Locked → ℕ
locks_read l None = 0
locks_read l (Some (Write p)) = 0
locks_read l (Some (Read rd)) = if rd.number == l then 1 else 0

-- the same for an open request
abbrev pub locks_read_in : ℕ → Ongoing → ℕ
locks_read_in l x = locks_read l x.request.held

-- how many read locks of a lock are held by all
abbrev pub read_locks : FinMap nat_cmp Ongoing → ℕ → ℕ
read_locks all l = total (locks_read_in l) all

-- the last of the publications that a table keeps
abbrev pub last_of : List (List ℕ) → List ℕ
last_of ps = unwrap_or (slice_get ps (length ps - 1)) []

-- a past of the table says of each lock what the deeds say: whether its permit is held, its status, and when it was given
pub record SaysAs (past done : List table.Deed) : Type 0 where
  pub held : (l : ℕ) → is_held l past ≡ is_held l done
  pub status : (l : ℕ) → status_said l past ≡ status_said l done
  pub given : (age l : ℕ) → given_at age l past ≡ given_at age l done

-- the table agrees with the deeds, with n read locks on each lock
pub record IsTable (ds : List Deed) (n : ℕ → ℕ) (t : Locks) : Type 0 where
  -- the table's own past, which also has that read locks were let go
  pub past : List table.Deed
  pub led : IsPastOf t past
  pub says : SaysAs past (done ds)
  pub readers : (l : ℕ) → readers_at (get t.cores l) ≡ n l
  -- the current publication is the last one that is kept
  pub said : (l : ℕ) → is_some (get t.cores l) ≡ true → last_of (publications_at (get t.cores l)) ≡ publication l ds

-- a reader of the request r that was not polled has looked at nothing; one that was polled is told, at its next poll, by
-- the publications that it has to look at
pub record IsWatching (r l : ℕ) (ds : List Deed) (w : Watch) (ps : List (List ℕ)) : Type 0 where
  pub seen : w.seen ≤ length ps
  pub some : shown r l ds ≢ []
  pub told : option_or w.told (first_told w.fills (drop w.seen ps)) ≡ first_told w.fills (shown r l ds)

-- the same, of a reader that was not polled or was
abbrev pub IsWatch : ℕ → ℕ → List Deed → Option Watch → List (List ℕ) → Type 0
IsWatch r l ds None ps = shown r l ds ≡ []
IsWatch r l ds (Some w) ps = IsWatching r l ds w ps

-- a permit that the request r holds is its own, and what it reads watches as the deeds say
pub record Holds (r : ℕ) (ds : List Deed) (t : Locks) (mine : Option Locked) : Type 0 where
  pub permit : (p : ℕ) → permit_of mine ≡ Some p → who_holds p ds ≡ Some r
  pub watch : (rd : Reader) → mine ≡ Some (Read rd) → is_some (get t.cores rd.number) ≡ true → IsWatch r rd.number ds rd.watch (publications_at (get t.cores rd.number))
