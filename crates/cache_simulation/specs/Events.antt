-- The events of a trace's requests, and how they change what a manager tracks (own).
use Rattle.std.specs.Prelude.{◌≡◌, ℕ, Bool, true, false, ◌&&◌, ◌||◌, not, List, [], ◌∷◌, sum_by, if◌then◌else◌}
use Rattle.std.specs.List.{list_any}
use Rattle.std.specs.Ordering.{eq_by_cmp}
use Rattle.std.specs.FinMap.{insert, contains_key}
use Rattle.pcache_evict.specs.declared.eviction.entry_key.CacheEntryKey.{CacheEntryKey}
use Rattle.pcache_evict.specs.Entry.{entry_cmp}
use Rattle.pcache_evict.specs.Tracked.{Tracked, Limits, IsFair, without}

-- a request for a body of some size: a stored one serves it; or it is added, and these are evicted; or a stored one is past its
-- time, so that it is removed and added anew, and these are evicted; or it is not stored
pub data Event : Type 0 where
  Hit : CacheEntryKey → ℕ → Event
  Came : CacheEntryKey → ℕ → List CacheEntryKey → Event
  Renewed : CacheEntryKey → ℕ → List CacheEntryKey → Event
  Passed : CacheEntryKey → ℕ → Event

-- a body is added, anew or not
abbrev pub comes : Bool → CacheEntryKey → ℕ → List CacheEntryKey → Event
comes true k n out = Renewed k n out
comes false k n out = Came k n out

-- the size of an event's entry, in bytes
abbrev pub size_in : Event → ℕ
size_in (Hit k n) = n
size_in (Came k n out) = n
size_in (Renewed k n out) = n
size_in (Passed k n) = n

-- the entry was found
abbrev pub is_hit : Event → Bool
is_hit (Hit k n) = true
is_hit (Came k n out) = false
is_hit (Renewed k n out) = false
is_hit (Passed k n) = false

-- what is tracked after an event: a hit is of a tracked entry, and what is evicted is a fair eviction
abbrev pub Leads : Limits → Tracked → Event → Tracked → Type 0
Leads limits m (Hit k n) m' = (contains_key m k ≡ true) × (m' ≡ m)
Leads limits m (Came k n out) m' = IsFair limits (insert m k n) out × (m' ≡ without out (insert m k n))
Leads limits m (Renewed k n out) m' = IsFair limits (insert m k n) out × (m' ≡ without out (insert m k n))
Leads limits m (Passed k n) m' = m' ≡ m

-- what is tracked after a run of events
abbrev pub RunsTo : Limits → Tracked → List Event → Tracked → Type 0
RunsTo limits m [] after = after ≡ m
RunsTo limits m (e ∷ es) after = (m' : Tracked) × Leads limits m e m' × RunsTo limits m' es after

-- an entry stands after a past (the last event first) if it was added and has not left since
abbrev pub stands : CacheEntryKey → List Event → Bool
stands k [] = false
stands k (Hit j n ∷ past) = stands k past
stands k (Passed j n ∷ past) = stands k past
stands k (Came j n out ∷ past) = (eq_by_cmp entry_cmp k j || stands k past) && not (list_any (eq_by_cmp entry_cmp k) out)
stands k (Renewed j n out ∷ past) = (eq_by_cmp entry_cmp k j || stands k past) && not (list_any (eq_by_cmp entry_cmp k) out)

-- each hit of these events is of an entry that stands when it is made
abbrev pub HitsStand : List Event → List Event → Type 0
HitsStand past [] = Unit {0}
HitsStand past (Hit k n ∷ es) = (stands k past ≡ true) × HitsStand (Hit k n ∷ past) es
HitsStand past (Came k n out ∷ es) = HitsStand (Came k n out ∷ past) es
HitsStand past (Renewed k n out ∷ es) = HitsStand (Renewed k n out ∷ past) es
HitsStand past (Passed k n ∷ es) = HitsStand (Passed k n ∷ past) es

-- the number of hits of these events
abbrev pub hits_of : List Event → ℕ
hits_of es = sum_by (λ e. if is_hit e then 1 else 0) es

-- the number of bytes of the bodies that were found
abbrev pub hit_bytes_of : List Event → ℕ
hit_bytes_of es = sum_by (λ e. if is_hit e then size_in e else 0) es

-- the number of bytes of all bodies that were asked for
abbrev pub bytes_of : List Event → ℕ
bytes_of es = sum_by size_in es
