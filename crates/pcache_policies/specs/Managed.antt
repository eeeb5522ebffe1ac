-- A manager over a queue that goes by a policy: what a policy says of an order of entries, and what the manager's calls make of the
-- order, the limits and the totals (own).
use Rattle.std.specs.Prelude.{◌≡◌, ℕ, ◌+◌, ◌-◌, ◌^◌, ◌⊎◌, Bool, Option, None, Some, List, [], ◌∷◌, ◌++◌, length, min}
use Rattle.std.specs.FinMap as fin
use Rattle.pcache_evict.specs.declared.eviction.entry_key.CacheEntryKey.{CacheEntryKey}
use Rattle.pcache_evict.specs.declared.eviction.policy.EvictionPolicy.{EvictionPolicy}
use Rattle.pcache_evict.specs.Tracked.{Limits, Evicted, limits_of, raised}
use Rattle.pcache_evict.specs.Recency.{Recency, weight}
use Rattle.pcache_evict.specs.Listed.{map_of}
use Rattle.pcache_evict.specs.Policy.{Policy, Shown}
use Rattle.pcache_policies.specs.declared.queue.Seen.{Seen}
use Rattle.pcache_policies.specs.Queue.{Queue, IsOnce, plain, rest_of, reseen, seen_of}
use Rattle.pcache_policies.specs.Leaving.{HasRoom, Coming, Run}

-- the way of a queue: the name of its policy, all entries of an order, the order without any, and how a manager shows it
-- how room is made for so many entries of this weight together, and which entries go
-- whether the order remembers a key, and where a new entry comes in, its key remembered or not
-- what a use makes of an entry of which this is known, and a use that gives it this weight
-- the order with this record of an entry, and the order without an entry
pub record Way (Order : Type 0) : Type 1 where
  pub policy : EvictionPolicy
  pub whole : Order → Queue
  pub none : Order
  pub shown : Order → Shown
  pub MakesRoom : Limits → ℕ → ℕ → Order → List CacheEntryKey → Order → Type 0
  pub is_known : CacheEntryKey → Order → Bool
  pub entered : Bool → CacheEntryKey → ℕ → Order → Order
  pub used : CacheEntryKey → Seen → Order → Order
  pub readmitted : CacheEntryKey → Seen → ℕ → Order → Order
  pub reseen_in : CacheEntryKey → Seen → Order → Order
  pub rest_in : CacheEntryKey → Order → Order

-- the entries with their weights alone
abbrev pub entries_in : {O : Type 0} → Way O → O → Recency
entries_in w o = plain (w.whole o)

-- room is made, and then a new entry comes in, as one whose key was remembered if it was before that; one for which there is no
-- room although no entry is left goes itself
pub record Comes {O : Type 0} (w : Way O) (limits : Limits) (o : O) (k : CacheEntryKey) (n : ℕ) (t : O) (out : List CacheEntryKey) : Type 0 where
  pub left : O
  pub gone : List CacheEntryKey
  pub room : w.MakesRoom limits n 1 o gone left
  pub ends : (HasRoom limits n 1 (entries_in w left) × (t ≡ w.entered (w.is_known k o) k n left) × (out ≡ gone)) ⊎ ((¬ HasRoom limits n 1 (entries_in w left)) × (t ≡ left) × (out ≡ gone ++ k ∷ []))

-- an access is a use; a new entry comes in, even if there is no room
abbrev pub accessed : {O : Type 0} → Way O → Option Seen → CacheEntryKey → ℕ → O → O
accessed w None k n o = w.entered (w.is_known k o) k n o
accessed w (Some v) k n o = w.used k v o

-- an entry that is admitted again gets its new weight, which is a use; a new one comes in
abbrev pub Admitted : {O : Type 0} → Way O → Option Seen → Limits → O → CacheEntryKey → ℕ → O → List CacheEntryKey → Type 0
Admitted w None limits o k n t out = Comes w limits o k n t out
Admitted w (Some v) limits o k n t out = w.MakesRoom limits 0 0 (w.readmitted k v n o) out t

-- an increment raises the weight in place, which is no use; a new entry comes in
abbrev pub Incremented : {O : Type 0} → Way O → Option Seen → Limits → O → CacheEntryKey → ℕ → Option ℕ → O → List CacheEntryKey → Type 0
Incremented w None limits o k delta cap t out = Comes w limits o k (raised delta cap None) t out
Incremented w (Some v) limits o k delta cap t out = w.MakesRoom limits 0 0 (w.reseen_in k (record v { weight = raised delta cap (Some v.weight) }) o) out t

-- the way of a queue as a policy
abbrev pub policy_of : {O : Type 0} → Way O → Policy O
policy_of w = record {
  entries = entries_in w;
  none = w.none;
  Accesses = λ o k n t. t ≡ accessed w (seen_of k (w.whole o)) k n o;
  Admits = λ limits o k n t out. Admitted w (seen_of k (w.whole o)) limits o k n t out;
  Increments = λ limits o k delta cap t out. Incremented w (seen_of k (w.whole o)) limits o k delta cap t out;
  Removes = λ o k t. t ≡ w.rest_in k o;
}

-- ---- the manager

-- the order, the limits, and what was evicted so far
pub record Managed (O : Type 0) : Type 0 where
  pub order : O
  pub limits : Limits
  pub evicted : Evicted

-- a new manager with these limits, which goes by the policy of the way
abbrev pub empty_manager : {O : Type 0} → Way O → ℕ → Option ℕ → Managed O
empty_manager w limit watermark = record { order = w.none; limits = limits_of w.policy limit watermark; evicted = record { weight = 0; count = 0 } }

-- the totals after entries of this weight went
abbrev pub IsCounted : {O : Type 0} → Way O → Managed O → ℕ → Managed O → List CacheEntryKey → Type 0
IsCounted w old before new out =
    (new.limits ≡ old.limits) × (new.evicted.weight ≡ min (old.evicted.weight + (before - weight (entries_in w new.order))) (2 ^ 64 - 1)) × (new.evicted.count ≡ min (old.evicted.count + length out) (2 ^ 64 - 1))

-- entries of this order go until the limits hold
pub record KeepsLimits {O : Type 0} (w : Way O) (old : Managed O) (from : O) (new : Managed O) (out : List CacheEntryKey) : Type 0 where
  pub room : w.MakesRoom old.limits 0 0 from out new.order
  pub counted : IsCounted w old (weight (entries_in w from)) new out

-- a new entry comes in, and what goes is counted
pub record Admits {O : Type 0} (w : Way O) (old : Managed O) (k : CacheEntryKey) (n : ℕ) (new : Managed O) (out : List CacheEntryKey) : Type 0 where
  pub comes : Comes w old.limits old.order k n new.order out
  pub counted : IsCounted w old (n + weight (entries_in w old.order)) new out

-- what an admission and an increment do, with the totals
abbrev pub Admission : {O : Type 0} → Way O → Option Seen → Managed O → CacheEntryKey → ℕ → Managed O → List CacheEntryKey → Type 0
Admission w None old k n new out = Admits w old k n new out
Admission w (Some v) old k n new out = KeepsLimits w old (w.readmitted k v n old.order) new out

abbrev pub Increment : {O : Type 0} → Way O → Option Seen → Managed O → CacheEntryKey → ℕ → Option ℕ → Managed O → List CacheEntryKey → Type 0
Increment w None old k delta most new out = Admits w old k (raised delta most None) new out
Increment w (Some v) old k delta most new out = KeepsLimits w old (w.reseen_in k (record v { weight = raised delta most (Some v.weight) }) old.order) new out

-- a failed call leaves every entry with its weight, and the totals; the order of the entries may have changed
pub record HasFailed {O : Type 0} (w : Way O) (old new : Managed O) : Type 0 where
  pub same : map_of (entries_in w new.order) ≡ map_of (entries_in w old.order)
  pub limits : new.limits ≡ old.limits
  pub evicted : new.evicted ≡ old.evicted

-- the same, but that this entry has this weight
pub record HasFailedWith {O : Type 0} (w : Way O) (k : CacheEntryKey) (v : Seen) (old new : Managed O) : Type 0 where
  pub same : map_of (entries_in w new.order) ≡ map_of (plain (reseen k v (w.whole old.order)))
  pub limits : new.limits ≡ old.limits
  pub evicted : new.evicted ≡ old.evicted

-- ---- what holds of every way

-- to make room, entries leave one by one while the limits do not hold, and it ends when there is room or nothing is left; a use, an
-- entry that comes in and one that is set or goes leave the others with their weights
pub record Lawful {O : Type 0} (w : Way O) : Type 0 where
  pub runs : (limits : Limits) (coming : Queue) (size count : ℕ) → Coming (plain coming) size count → (o t : O) (out rest : List CacheEntryKey) (left : Recency) → w.MakesRoom limits size count o out t
      → IsOnce (coming ++ w.whole o) → (IsOnce (coming ++ w.whole t) → Run limits rest (plain (coming ++ w.whole t)) left) → Run limits (out ++ rest) (plain (coming ++ w.whole o)) left
  pub ended : (limits : Limits) (size count : ℕ) (o t : O) (out : List CacheEntryKey) → w.MakesRoom limits size count o out t → HasRoom limits size count (entries_in w t) ⊎ (w.whole t ≡ [])
  pub rests : (limits : Limits) (size count : ℕ) (o : O) → HasRoom limits size count (entries_in w o) → w.MakesRoom limits size count o [] o
  pub entered : (known : Bool) (k : CacheEntryKey) (n : ℕ) (o : O) → seen_of k (w.whole o) ≡ None → map_of (entries_in w (w.entered known k n o)) ≡ map_of ((k, n) ∷ entries_in w o)
  pub heavier : (known : Bool) (k : CacheEntryKey) (n : ℕ) (o : O) → weight (entries_in w (w.entered known k n o)) ≡ n + weight (entries_in w o)
  pub used : (k : CacheEntryKey) (v : Seen) (o : O) → IsOnce (w.whole o) → seen_of k (w.whole o) ≡ Some v → map_of (entries_in w (w.used k v o)) ≡ map_of (entries_in w o)
  pub readmitted : (k : CacheEntryKey) (v : Seen) (n : ℕ) (o : O) → IsOnce (w.whole o) → seen_of k (w.whole o) ≡ Some v → map_of (entries_in w (w.readmitted k v n o)) ≡ fin.insert (map_of (entries_in w o)) k n
  pub once : (k : CacheEntryKey) (v : Seen) (n : ℕ) (o : O) → IsOnce (w.whole o) → IsOnce (w.whole (w.readmitted k v n o))
  pub reseen : (k : CacheEntryKey) (v : Seen) (o : O) → w.whole (w.reseen_in k v o) ≡ reseen k v (w.whole o)
  pub rest : (k : CacheEntryKey) (o : O) → w.whole (w.rest_in k o) ≡ rest_of k (w.whole o)
