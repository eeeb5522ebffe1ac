-- Which permits wait, and what a request for a lock is given (own). A permit waits from when it is given until it is
-- released, let go, or found too old.
use Rattle.std.specs.Prelude.{◌≡◌, ◌≢◌, ℕ, ◌+◌, ◌==◌, Bool, true, false, if◌then◌else◌, Option, None, Some, List, [], ◌∷◌}
use Rattle.pcache_history.specs.declared.entry.Event.{Event}
use Rattle.pcache_history.specs.declared.entry.Event.TheVariants.{Ask, Release, LetGo, Aged}

-- the slot of the key for which each permit waits, if it does; and how many permits were given
pub record Waiting : Type 0 where
  pub under : ℕ → Option ℕ
  pub asked : ℕ

-- no permit waits, and none was given
abbrev pub none_waiting : Waiting
none_waiting = record { under = λ l. None; asked = 0 }

-- How one event changes them.

abbrev pub waits_at : ℕ → Event → Option ℕ → Option ℕ
waits_at l (Ask k n true) before = if n == l then Some k else before
waits_at l (Release n) before = if n == l then None else before
waits_at l (LetGo n) before = if n == l then None else before
waits_at l (Aged n) before = if n == l then None else before
waits_at l _ before = before

-- how many permits were given, after one event
abbrev pub count_asked : Event → ℕ → ℕ
count_asked (Ask k n true) before = before + 1
count_asked _ before = before

-- both after one event
abbrev pub then_waiting : Event → Waiting → Waiting
then_waiting e w = record { under = λ l. waits_at l e (w.under l); asked = count_asked e w.asked }

-- after these events, listed oldest first; and by a history, whose events are listed newest first
abbrev pub waiting_after : List Event → Waiting → Waiting
waiting_after [] w = w
waiting_after (e ∷ events) w = waiting_after events (then_waiting e w)

-- both by a history
abbrev pub waiting_in : List Event → Waiting
waiting_in [] = none_waiting
waiting_in (e ∷ es) = then_waiting e (waiting_in es)

-- a key with no waiting permit
abbrev pub NoneWaits : Waiting → ℕ → Type 0
NoneWaits w k = (l : ℕ) → w.under l ≢ Some k

-- what a request for the lock of a key is given: the permit, with the next number, if none waits for the key; otherwise a
-- read lock on the one that does
abbrev pub Gets : Waiting → ℕ → ℕ → Bool → Type 0
Gets w k n true = NoneWaits w k × (n ≡ w.asked)
Gets w k n false = w.under n ≡ Some k

-- the lock that an event asks for is the one that is given then
abbrev pub IsGiven : Waiting → Event → Type 0
IsGiven w (Ask k n is_permit) = Gets w k n is_permit
IsGiven w _ = Unit {0}

-- each lock that these events ask for is the one that is given then
abbrev pub AreGiven : Waiting → List Event → Type 0
AreGiven w [] = Unit {0}
AreGiven w (e ∷ events) = IsGiven w e × AreGiven (then_waiting e w) events

-- events that say nothing of locks
abbrev pub IsOfNoLock : Event → Type 0
IsOfNoLock (Ask k n is_permit) = ⊥
IsOfNoLock (Release n) = ⊥
IsOfNoLock (LetGo n) = ⊥
IsOfNoLock (Aged n) = ⊥
IsOfNoLock _ = Unit {0}

-- no event of the list concerns locks
abbrev pub AreOfNoLock : List Event → Type 0
AreOfNoLock [] = Unit {0}
AreOfNoLock (e ∷ events) = IsOfNoLock e × AreOfNoLock events
