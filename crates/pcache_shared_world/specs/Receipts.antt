-- What a receipt says of a history, and what is known of all receipts at the end (own).
use Rattle.std.specs.Prelude.{◌≡◌, ℕ, ◌+◌, ◌-◌, List, [], ◌∷◌, ◌++◌, map, length, reverse, Some, slice_get}
use Rattle.std.specs.List.{All}
use Rattle.pcache_evict.specs.Tracked.{Evicted, Tracked}
use Rattle.pcache_history.specs.Events.{evicts, tracked}
use Rattle.pcache_history.specs.History.{events_of}
use Rattle.pcache_history.specs.Log.{Log, HasLegal, events_in}
use Rattle.pcache_history.specs.declared.entry.Entry.{Entry}
use Rattle.pcache_history.specs.declared.entry.Event.{Event}
use Rattle.pcache_shared_world.specs.declared.receipt.Receipt.{Receipt}
use Rattle.pcache_shared_world.specs.Views.{times, numbers, Rises}

-- the receipt of the entry with this number among those added to a history of s entries
abbrev pub receipt_of : ℕ → ℕ × Entry → Receipt
receipt_of s c = record { index = s + c.0; call = c.1.call; reply = c.1.reply }

-- the entry has the receipt's call and reply
abbrev pub IsOf : Entry → Receipt → Type 0
IsOf e r = (e.call ≡ r.call) × (e.reply ≡ r.reply)

-- an entry with the receipt's call and reply is in the history at the receipt's index
abbrev pub IsIn : List Entry → Receipt → Type 0
IsIn history r = (e : Entry) × (slice_get history r.index ≡ Some e) × IsOf e r

-- the lists, one after the other
abbrev pub joined : {X : Type 0} → List (List X) → List X
joined [] = []
joined (x ∷ xs) = x ++ joined xs

abbrev pub indices_of : List Receipt → List ℕ
indices_of receipts = map (λ (r : Receipt). r.index) receipts

-- the indices of a history of m entries that one of s entries does not have
abbrev pub indices_from : ℕ → ℕ → List ℕ
indices_from s m = map (λ k. s + k) (numbers (m - s))

-- the receipts are those of the entries added to the history since the start: each is in it, in a share the indices increase, and
-- each added index is that of exactly one receipt
pub record AreReceipts (start history : List Entry) (all : List (List Receipt)) : Type 0 where
  pub stand : All (IsIn history) (joined all)
  pub rise : All (λ rs. Rises (indices_of rs)) all
  pub once : (p : ℕ) → times p (indices_of (joined all)) ≡ times p (indices_from (length start) (length history))

-- the totals of evicted entries after these events, listed newest first, if these entries were tracked before them
abbrev pub evicted_of : Tracked → Evicted → List Event → Evicted
evicted_of m before [] = before
evicted_of m before (e ∷ es) = evicts (tracked m es) e (evicted_of m before es)

-- the totals of a world after these entries more
abbrev pub evicted_after : Log → List Entry → Evicted
evicted_after log more = evicted_of (tracked log.start (events_in log)) log.evicted (events_of (reverse more))

-- the world has the old history and perhaps more entries, with the same entries at the start, the same limits, and the same age of
-- permits that are too old; its totals of evicted entries are the old ones with what these entries evicted
pub record HasGrown (old new : Log) : Type 0 where
  pub more : List Entry
  pub history : new.history ≡ old.history ++ more
  pub start : new.start ≡ old.start
  pub limits : new.limits ≡ old.limits
  pub age : new.age ≡ old.age
  pub evicted : new.evicted ≡ evicted_after old more

-- `Holds` holds of the state that the world has reached, by calls that make a legal history
abbrev pub HasReached : Log → (Log → Type 0) → Type 0
HasReached opened Holds = (log : Log) × HasLegal log × HasGrown opened log × Holds log
