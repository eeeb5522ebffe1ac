-- What holds of the past of each table of locks (own).
use Rattle.std.specs.Prelude.{ℕ, Bool, true, false, ◌≡◌, ◌==◌, ◌++◌, Option, Some, None, List, [], ◌∷◌, cond}
use Rattle.std.specs.List.{list_any}
use Rattle.pcache_lock.specs.declared.lock.permit.Locked.{Locked}
use Rattle.pcache_lock.specs.declared.lock.permit.Locked.TheVariants.{Write, Read}
use Rattle.pcache_lock.specs.Locks.{Locks, holder, lock_given}
use Rattle.pcache_lock.specs.Waits.{AskFindsTheWaiting, NothingRemains, OneWaits, waits_under}
use Rattle.pcache_lock.specs.Deeds.{Deed, Granted, Joined, Released, LetGo, Aged, Made, Unlocked}
use Rattle.pcache_lock.specs.Past.{Does, IsPastOf}

-- the key for which a permit waits, after one more deed
abbrev pub waits_after : ℕ → Deed → Option ℕ → Option ℕ
waits_after n (Granted slot m stale now) before = cond (n == m) (Some slot) before
waits_after n (Released m reason) before = cond (n == m) None before
waits_after n (LetGo m) before = cond (n == m) None before
waits_after n (Aged m now) before = cond (n == m) None before
waits_after n (Made m age_timeout stale now) before = cond (n == m) None before
waits_after n (Unlocked m reason) before = cond (n == m) None before
waits_after n _ before = before

-- the slot of the key for which a permit waits, by its number: it was given for that key, and since then neither released,
-- nor let go, nor found too old, nor unlocked
abbrev pub waits_for : ℕ → List Deed → Option ℕ
waits_for n [] = None
waits_for n (deed ∷ past) = waits_after n deed (waits_for n past)

-- no permit waits for the key
abbrev pub NoneWaits : List Deed → ℕ → Type 0
NoneWaits past slot = (n : ℕ) → waits_for n past ≡ Some slot → ⊥

-- a request for a key's lock is given the permit where none waits for that key, and else a read lock on the one that does
abbrev pub Gets : List Deed → ℕ → Locked → Type 0
Gets past slot (Write permit) = NoneWaits past slot
Gets past slot (Read read) = waits_for read.number past ≡ Some slot

-- so is the next request for any key
abbrev pub GivesByPast : Locks → List Deed → Type 0
GivesByPast t past = (slot : ℕ) (stale : Bool) → Gets past slot (lock_given t stale (holder t slot))

-- and so was each one before
abbrev pub IsGiven : Deed → List Deed → Type 0
IsGiven (Granted slot m stale now) past = NoneWaits past slot
IsGiven (Joined slot m now) past = waits_for m past ≡ Some slot
IsGiven _ past = Unit {0}

abbrev pub AllGiven : List Deed → Type 0
AllGiven [] = Unit {0}
AllGiven (deed ∷ past) = IsGiven deed past × AllGiven past

-- the final status of a lock was set while its permit was held
abbrev pub is_unlocking : Deed → Bool
is_unlocking (Unlocked m reason) = true
is_unlocking _ = false

-- that never happened
abbrev pub UnlocksNone : List Deed → Type 0
UnlocksNone past = list_any is_unlocking past ≡ false

-- at most one permit of a key waits
abbrev pub AtMostOneWaits : List Deed → Type 0
AtMostOneWaits past = (slot n m : ℕ) → waits_for n past ≡ Some slot → waits_for m past ≡ Some slot → n ≡ m

-- the key and the number of a permit that was given for a key
abbrev pub grant_of : Deed → Option (ℕ × ℕ)
grant_of (Granted slot m stale now) = Some (slot, m)
grant_of _ = None

-- a permit ends: it is released, let go, found too old, or unlocked
abbrev pub ends : ℕ → Deed → Bool
ends n (Released m reason) = n == m
ends n (LetGo m) = n == m
ends n (Aged m now) = n == m
ends n (Unlocked m reason) = n == m
ends n _ = false

-- one fetch at a time: of two permits that were given for one key the first ended before the second was given
abbrev pub OneFetchAtATime : List Deed → Type 0
OneFetchAtATime past = (later between before : List Deed) (second first : Deed) (slot m n : ℕ)
    → past ≡ later ++ (second ∷ (between ++ (first ∷ before)))
    → grant_of first ≡ Some (slot, n) → grant_of second ≡ Some (slot, m) → list_any (ends n) between ≡ true

-- the laws of each table and its past. Which lock a request is given is said where none was unlocked: a lock that is
-- unlocked remains the current one of its key until its permit is released
abbrev pub GivesByPastAlways : Type 0
GivesByPastAlways = (t : Locks) (past : List Deed) → IsPastOf t past → UnlocksNone past → GivesByPast t past

abbrev pub AllGivenAlways : Type 0
AllGivenAlways = (t : Locks) (past : List Deed) → IsPastOf t past → UnlocksNone past → AllGiven past

abbrev pub AtMostOneWaitsAlways : Type 0
AtMostOneWaitsAlways = (t : Locks) (past : List Deed) → IsPastOf t past → AtMostOneWaits past

abbrev pub OneFetchAtATimeAlways : Type 0
OneFetchAtATimeAlways = (t : Locks) (past : List Deed) → IsPastOf t past → OneFetchAtATime past

abbrev pub OneWaitsAlways : Type 0
OneWaitsAlways = (t : Locks) (past : List Deed) → IsPastOf t past → OneWaits t

abbrev pub AskFindsTheWaitingAlways : Type 0
AskFindsTheWaitingAlways = (t : Locks) (past : List Deed) → IsPastOf t past → UnlocksNone past → AskFindsTheWaiting t

abbrev pub NothingRemainsAlways : Type 0
NothingRemainsAlways = (t : Locks) (past : List Deed) → IsPastOf t past → NothingRemains t

-- whichever deed is done to whichever table, those permits wait after it that the deed says
abbrev pub WaitsAfterEachDeed : Type 0
WaitsAfterEachDeed = (deed : Deed) (s t : Locks) (n : ℕ) → Does deed s t → waits_under t n ≡ waits_after n deed (waits_under s n)
