-- For the prover: which permits wait, by a lock table (own).
use Rattle.std.specs.Prelude.{◌≡◌, List}
use Rattle.pcache_lock.specs.Deeds.{Deed}
use Rattle.pcache_lock.specs.Locks.{Locks}
use Rattle.pcache_lock.specs.Past.{IsPastOf}
use Rattle.pcache_lock.specs.PastLaws.{UnlocksNone}
use Rattle.pcache_lock.specs.Waits as table
use Rattle.pcache_history.specs.declared.entry.Event.{Event}
use Rattle.pcache_history.specs.Waiting.{Waiting, AreGiven, waiting_after, waiting_in}

abbrev pub waiting_of : Locks → Waiting
waiting_of t = record { under = table.waits_under t; asked = t.next }

-- a past led to it in which no permit was unlocked while it was held
pub record IsReached (t : Locks) : Type 0 where
  pub past : List Deed
  pub led : IsPastOf t past
  pub unlocks : UnlocksNone past

-- the table agrees with the events
pub record IsLocked (es : List Event) (t : Locks) : Type 0 where
  pub reached : IsReached t
  pub waiting : waiting_of t ≡ waiting_in es

-- a call changed the table as its events say, and gave the locks that it asked for
pub record LocksMoved (t : Locks) (events : List Event) (t' : Locks) : Type 0 where
  pub reached : IsReached t'
  pub given : AreGiven (waiting_of t) events
  pub waiting : waiting_of t' ≡ waiting_after events (waiting_of t)
