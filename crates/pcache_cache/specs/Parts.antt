-- A store, an eviction manager and a lock table as one value, and their invariant (own).
use Rattle.std.specs.Prelude.{◌≡◌, ℕ, ◌≤◌, not, Bool, true, false, List, Option, Some, None, IfErr, IfSome, OnOk, Result, cond}
use Rattle.std.specs.FinMap.{get}
use Rattle.pcache_base.specs.Key.{Key, slot}
use Rattle.pcache_base.specs.declared.error.ErrorType.{ErrorType}
use Rattle.pcache_base.specs.declared.error.ErrorType.TheVariants.{OutOfMemory}
use Rattle.pcache_evict.specs.Entry.{id_of}
use Rattle.pcache_evict.specs.Tracked.{Tracked, Limits, Evicted}
use Rattle.pcache_evict.specs.declared.eviction.entry_key.CacheEntryKey.{CacheEntryKey}
use Rattle.pcache_lock.specs.Deeds.{Deed}
use Rattle.pcache_lock.specs.Locks.{Locks}
use Rattle.pcache_request.specs.Finishing.{entry_slot}
use Rattle.pcache_request.specs.Replacing.{tracked_before_end}
use Rattle.pcache_request.specs.Requests.{Request}
use Rattle.pcache_request.specs.Sides.{LockSide, ManagerSide, StoreSide}
use Rattle.pcache_request.specs.StorePasts.{Past}
use Rattle.pcache_request.specs.declared.cache.finish.WriteEnd.{WriteEnd}
use Rattle.pcache_store.specs.Finishes.{body_number}
use Rattle.pcache_store.specs.Past.{Note, Wrote}
use Rattle.pcache_store.specs.Notes.{noted}
use Rattle.pcache_store.specs.Store.{Store, Stored, complete_body, is_told, is_write_under, wrote}
use Rattle.pcache_store.specs.Totals.{stored_bytes, slots}
use Rattle.pcache_cache.specs.Fetching.{PurgesSeen}
use Rattle.pcache_cache.specs.Weighing.{body_weight, stored_weight}
use Rattle.pcache_cache.specs.declared.weighing.Weighing.{Weighing}

pub record Parts : Type 0 where
  pub store : Store
  -- what was done to the store, the newest first
  pub past : List Note
  -- what an entry weighs
  pub weighing : Weighing
  -- what the manager tracks, its limits, and the totals of what it evicted
  pub tracked : Tracked
  pub limits : Limits
  pub evicted : Evicted
  pub locks : Locks
  -- what was done to the lock table, the newest first
  pub deeds : List Deed
  -- what it has seen of purges
  pub purges : PurgesSeen

-- its parts, as the calls of a request are lent them
abbrev pub store_of : Parts → StoreSide
store_of p = record { store = p.store; past = Some p.past }

abbrev pub manager_of : Parts → ManagerSide
manager_of p = record { tracked = p.tracked; limits = p.limits; evicted = p.evicted }

abbrev pub locks_of : Parts → LockSide
locks_of p = record { locks = p.locks; deeds = Some p.deeds }

-- a call adds this to a past
abbrev pub Adds : {A : Type 0} → (Option (List A) → Option (List A)) → List A → List A → Type 0
Adds noted old new = Some new ≡ noted (Some old)

-- each key with a complete body has an entry of its own, with the number of the write that stored the body, tracked with
-- exactly what the body weighs
abbrev pub TracksExactly : Weighing → Store → Tracked → Type 0
TracksExactly how s m = (k : ℕ) (b : Stored) → complete_body (get s.slots k) ≡ Some b
    → (e : CacheEntryKey) × (entry_slot e ≡ k) × (get m e ≡ Some (body_weight how b)) × (id_of e ≡ b.meta.entry_id)

-- the complete bodies are within the limits: the sum of their lengths, that of their weights, and their number
pub record IsBounded (how : Weighing) (limits : Limits) (s : Store) : Type 0 where
  pub bytes : stored_bytes s ≤ limits.weight
  pub weights : stored_weight how s ≤ limits.weight
  pub count : IfSome limits.watermark (λ most. slots s ≤ most)

-- the invariant
pub record IsKept (how : Weighing) (limits : Limits) (m : Tracked) (s : Store) : Type 0 where
  pub exact : TracksExactly how s m
  pub bounded : IsBounded how limits s
  pub newest : s.newest ≡ true  -- a look-up prefers the newest response

-- a call failed for want of memory, and nothing was done
pub record LacksMemory {A : Type 0} (result : Result A ErrorType) (r s : Request) (p q : Parts) : Type 0 where
  pub failed : OnOk result ⊥
  pub kind : IfErr result (λ e. e ≡ OutOfMemory)
  pub request : s ≡ r
  pub same : q ≡ p

-- a request's write, if it has one, is a write of this store and of the request's key
abbrev pub is_own_write : Store → Option Key → Option ℕ → Bool
is_own_write s k None = true
is_own_write s None (Some w) = false
is_own_write s (Some k) (Some w) = is_write_under (slot k) w (get s.writes w)

-- a request may end its write: it uses the manager, and the write is its own
pub record MayEnd (s : Store) (r : Request) : Type 0 where
  pub uses : r.uses.eviction ≡ true
  pub own : is_own_write s r.key r.write ≡ true

-- whether a request's write takes more bytes: there is one, and its end was not announced
abbrev pub takes_bytes : Store → Option ℕ → Bool
takes_bytes s None = false
takes_bytes s (Some w) = not (is_told (get s.writes w))

-- the store after bytes were offered to it
abbrev pub written_by : Option ℕ → List ℕ → Bool → Store → Store
written_by None bytes eof s = s
written_by (Some w) bytes eof s = cond (is_told (get s.writes w)) s (wrote s w bytes eof)

-- what that adds to the store's past
abbrev pub written_past : Store → Option ℕ → List ℕ → Bool → Past → Past
written_past s None bytes eof p = p
written_past s (Some w) bytes eof p = cond (is_told (get s.writes w)) p (noted (Some (Wrote w bytes eof)) p)

-- the number of the body that the end of a write of this key replaces, if one is complete
abbrev pub replaced_in : Store → Option Key → Option ℕ
replaced_in s None = None
replaced_in s (Some k) = body_number s (slot k)

-- what is tracked when the write of a request that ended so has its entry admitted: if its body was stored, without the entry of
-- the body that it replaced
abbrev pub tracked_at_end : Parts → Request → WriteEnd → Tracked
tracked_at_end p r how = tracked_before_end r r.key (replaced_in p.store r.key) how p.tracked
