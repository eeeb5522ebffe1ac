-- What calls report of what they did (own).
use Rattle.std.specs.Prelude.{◌≡◌, ℕ, Bool, true, false, Option, Some, None, cond, option_map}
use Rattle.std.specs.FinMap.{contains_key}
use Rattle.pcache_base.specs.CompactKey.{compact_of}
use Rattle.pcache_base.specs.Key.{Key, slot}
use Rattle.pcache_base.specs.declared.key.CompactCacheKey.{CompactCacheKey}
use Rattle.pcache_evict.specs.Entry.{entry_with}
use Rattle.pcache_evict.specs.declared.eviction.entry_key.CacheEntryKey.{CacheEntryKey}
use Rattle.pcache_lock.specs.Locks.{Locks, lock_given, holder, is_permit, number_of_lock}
use Rattle.pcache_lock.specs.declared.lock.permit.Locked.{Locked}
use Rattle.pcache_lock.specs.declared.lock.status.LockStatus.{LockStatus}
use Rattle.pcache_evict.specs.Policy.{Rules, Shown}
use Rattle.pcache_evict.specs.Tracked.{Tracked, added}
use Rattle.pcache_store.specs.Purge.{entry_read}
use Rattle.pcache_store.specs.Store.{Reader, reader_weight}
use Rattle.pcache_store.specs.declared.storage.PurgeOutcome.{PurgeOutcome}
use Rattle.pcache_store.specs.declared.storage.PurgeOutcome.TheVariants.{NotFound, Purged, Expired}
use Rattle.pcache_request.specs.Requests.{Request, entry_of, asks_for_hit, asks_as_stale, counts_found}
use Rattle.pcache_request.specs.declared.phase.HitStatus.{HitStatus}
use Rattle.pcache_request.specs.declared.cache.report.LockName.{LockName}
use Rattle.pcache_request.specs.declared.cache.report.AskedLock.{AskedLock}
use Rattle.pcache_request.specs.declared.cache.report.Access.{Access}
use Rattle.pcache_request.specs.declared.cache.report.ReleasedLock.{ReleasedLock}
use Rattle.pcache_request.specs.declared.cache.finish.WriteEnd.{WriteEnd}
use Rattle.pcache_request.specs.declared.cache.finish.WriteEnd.TheVariants as end

-- a lock by its number, and whether it is the permit
abbrev pub name_of : Locked → LockName
name_of l = record { number = number_of_lock l; is_permit = is_permit l }

-- the report of asking for the lock of a key while this one is held
abbrev pub asked_with : Bool → Locks → Key → Option Locked → AskedLock
asked_with stale t k h = record { given = name_of (lock_given t stale (holder t (slot k))); replaced = option_map name_of h }

-- the lock that a found pair asks for
abbrev pub asked_by_found : HitStatus → Locks → Request → Option AskedLock
asked_by_found s t r = cond (asks_for_hit s r) (option_map (λ k. asked_with (asks_as_stale s r.phase) t k r.held) r.key) None

-- the access of a key's hit, in a storage where entries may have numbers
abbrev pub access_of : Bool → Key → Reader → Access
access_of numbers k h = record { entry = entry_of k (entry_read numbers h); weight = reader_weight h }

-- the tracked entries after an access
abbrev pub noted_in : Tracked → Access → Tracked
noted_in m a = added m a.entry a.weight

-- the access of a found hit that counts
abbrev pub access_by_found : HitStatus → Reader → Option ℕ → Request → Option Access
access_by_found s h id r = cond (counts_found s h r) (option_map (λ k. record { entry = entry_of k id; weight = reader_weight h }) r.key) None

-- the same by a reader of a storage where entries may have numbers
abbrev pub access_by_hit : Bool → HitStatus → Reader → Request → Option Access
access_by_hit numbers s h r = access_by_found s h (entry_read numbers h) r

-- an access changed the order of a manager as its rules say; without one the order is as before
abbrev pub IsNotedIn : Rules → Shown → Option Access → Shown → Type 0
IsNotedIn rules before None after = after ≡ before
IsNotedIn rules before (Some a) after = rules.Accesses before a.entry a.weight after

-- a use of an entry changed the order so; where the entry was not tracked, it is out again
abbrev pub IsUsedIn : Bool → Rules → Shown → Access → Shown → Type 0
IsUsedIn true rules before a after = rules.Accesses before a.entry a.weight after
IsUsedIn false rules before a after = (between : Shown) × rules.Accesses before a.entry a.weight between × rules.Removes between a.entry after

-- the same of an access of which no entry remains that was not tracked
abbrev pub IsKeptIn : Rules → Tracked → Shown → Option Access → Shown → Type 0
IsKeptIn rules tracked before None after = after ≡ before
IsKeptIn rules tracked before (Some a) after = IsUsedIn (contains_key tracked a.entry) rules before a after

-- the entry of a body that was stored and not withdrawn
abbrev pub entry_stored : Option Key → Option ℕ → WriteEnd → Option CacheEntryKey
entry_stored k id end.Nothing = None
entry_stored k id (end.Stored f) = option_map (λ k. entry_of k id) k
entry_stored k id (end.Dropped e) = None
entry_stored k id (end.Withdrawn e) = None

-- the entry that a removal removes from a manager in use
abbrev pub untracked : Bool → CompactCacheKey → PurgeOutcome → Option CacheEntryKey
untracked uses k NotFound = None
untracked uses k (Purged id) = cond uses (Some (entry_with k id)) None
untracked uses k Expired = None

abbrev pub untracked_for : Bool → Option Key → PurgeOutcome → Option CacheEntryKey
untracked_for uses None o = None
untracked_for uses (Some k) o = untracked uses (compact_of k) o

-- a lock that was released with a status
abbrev pub released_as : LockStatus → Locked → ReleasedLock
released_as s l = record { lock = name_of l; status = s }
