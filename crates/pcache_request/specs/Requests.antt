-- What a request is, and the rows of its phase table: how each call changes the request, the store, the lock table
-- and the tracked entries (own, after the phases of pingora-cache).
use Rattle.std.specs.Prelude.{ℕ, ◌≡◌, ◌&&◌, List, Bool, true, false, not, Option, Some, None, cond, IsSome, option_map}
use Rattle.std.specs.FinMap.{remove}
use Rattle.pcache_base.specs.Key.{Key, slot}
use Rattle.pcache_base.specs.CompactKey.{compact_of}
use Rattle.pcache_base.specs.declared.key.CompactCacheKey.{CompactCacheKey}
use Rattle.pcache_meta.specs.Meta.{Meta, internal_changed, provenance_of}
use Rattle.pcache_base.specs.declared.reason.NoCacheReason.{NoCacheReason}
use Rattle.pcache_base.specs.declared.reason.NoCacheReason.TheVariants as reason
use Rattle.pcache_evict.specs.declared.eviction.entry_key.CacheEntryKey.{CacheEntryKey}
use Rattle.pcache_evict.specs.Entry.{entry_with}
use Rattle.pcache_evict.specs.Tracked.{Tracked, added}
use Rattle.pcache_lock.specs.Locks.{Locks, lock_given, holder, after_request, let_go, released}
use Rattle.pcache_lock.specs.declared.lock.permit.Locked.{Locked}
use Rattle.pcache_lock.specs.declared.lock.permit.Locked.TheVariants.{Write, Read}
use Rattle.pcache_lock.specs.declared.lock.status.LockStatus.{LockStatus}
use Rattle.pcache_response.specs.Counted.{Counted}
use Rattle.pcache_store.specs.Purge.{entry_given, entry_read}
use Rattle.pcache_store.specs.Store.{Store, Reader, find, find_write, followed, left, begun, dropped, counts_access, reader_weight, is_whole, body_length}
use Rattle.pcache_store.specs.declared.storage.PurgeOutcome.{PurgeOutcome}
use Rattle.pcache_store.specs.declared.storage.PurgeOutcome.TheVariants.{NotFound, Purged, Expired}
use Rattle.pcache_request.specs.declared.phase.CachePhase.{CachePhase}
use Rattle.pcache_request.specs.declared.phase.CachePhase.TheVariants as phase
use Rattle.pcache_request.specs.declared.phase.HitStatus.{HitStatus}
use Rattle.pcache_request.specs.declared.phase.HitStatus.TheVariants as status
use Rattle.pcache_request.specs.declared.phase.InUse.{InUse}
use Rattle.pcache_request.specs.Digest.{Digest, empty_digest, time_added}
use Rattle.pcache_request.specs.Phases.{IsFilling, is_treated_as_miss, is_stale_phase, is_fresh}

-- a request, as its contracts see it
pub record Request : Type 0 where
  pub phase : CachePhase
  pub uses : InUse
  pub key : Option Key
  pub meta : Option Meta
  pub held : Option Locked
  pub reader : Option Reader
  pub write : Option ℕ
  -- the number of the entry that the write fills, if entries have numbers
  pub entry : Option ℕ
  -- for how many nanoseconds it waits altogether, and how often it may look up again, if that is limited
  pub wait_timeout : Option ℕ
  pub max_retries : Option ℕ
  -- the moment of the first poll of the read lock that was polled last
  pub waits_since : Option ℕ
  -- what was created before this moment is no variant of its key
  pub valid_after : Option ℕ
  -- the variance of the stale meta that its meta replaces
  pub stale_variance : Option (List ℕ)
  -- the count of the body's bytes, if their number is limited
  pub size : Option Counted
  -- the length in bytes of the longest head that it stores, if that is limited
  pub head_limit : Option ℕ
  -- why its response was predicted not to be cacheable, if the cache was bypassed for that
  pub predicted : Option NoCacheReason
  -- an admission policy is in use
  pub has_policy : Bool
  pub digest : Digest

-- the parts that a request uses before it is enabled: none
abbrev pub nothing_used : InUse
nothing_used = record { eviction = false; predictor = false; lock = false }

-- a request before caching is turned on
abbrev pub new_request : Request
new_request = record { phase = phase.Disabled reason.NeverEnabled; uses = nothing_used; key = None; meta = None; held = None; reader = None; write = None; entry = None; wait_timeout = None; max_retries = None; waits_since = None; valid_after = None; stale_variance = None; size = None; head_limit = None; predicted = None; has_policy = false; digest = empty_digest }

-- a request that was just enabled
abbrev pub enabled_request : InUse → Request
enabled_request uses = record { phase = phase.Uninit; uses = uses; key = None; meta = None; held = None; reader = None; write = None; entry = None; wait_timeout = None; max_retries = None; waits_since = None; valid_after = None; stale_variance = None; size = None; head_limit = None; predicted = None; has_policy = false; digest = empty_digest }

-- a request that is enabled keeps its digest
abbrev pub enabled_with : InUse → Request → Request
enabled_with uses r = let made : Request = enabled_request uses in record made { digest = r.digest }

-- in each phase after CacheKey there is a key
abbrev pub HasKey : {K : Type 0} → CachePhase → Option K → Type 0
HasKey (phase.Disabled r) k = Unit {0}
HasKey phase.Uninit k = Unit {0}
HasKey _ k = IsSome k

-- a disabled request holds nothing that has to be given back
abbrev pub IsClear : {H R W : Type 0} → CachePhase → Option H → Option R → Option W → Type 0
IsClear (phase.Disabled r) h d w = (h ≡ None) × (d ≡ None) × (w ≡ None)
IsClear _ h d w = Unit {0}

-- a request that holds nothing which has to be given back
abbrev pub HoldsNothing : Request → Type 0
HoldsNothing r = (r.held ≡ None) × (r.reader ≡ None) × (r.write ≡ None) × (r.entry ≡ None)

-- a write is held only in a phase that fills, together with the meta that it began with
abbrev pub IsWriting : {M W : Type 0} → CachePhase → Option M → Option W → Type 0
IsWriting p m None = Unit {0}
IsWriting p m (Some w) = IsFilling p × IsSome m

-- the store or table after a reader is let go, a write dropped, or a lock let go, if there is one
abbrev pub left_by : Option Reader → Store → Store
left_by None s = s
left_by (Some r) s = left s r

-- whether a request's reader has given all that it was to give, and the length of the body that it reads, if that is known
abbrev pub whole_by : Option Reader → Store → Bool
whole_by None s = false
whole_by (Some r) s = is_whole s r

abbrev pub length_by : Option Reader → Store → Option ℕ
length_by None s = None
length_by (Some r) s = body_length s r

abbrev pub dropped_by : Option ℕ → Store → Store
dropped_by None s = s
dropped_by (Some w) s = dropped s w

abbrev pub let_go_by : Option Locked → Locks → Locks
let_go_by None t = t
let_go_by (Some l) t = let_go t l

-- a held lock is released: a permit with a status; a read lock is let go
abbrev pub settled : LockStatus → Option Locked → Locks → Locks
settled s None t = t
settled s (Some (Write p)) t = released t p.number s
settled s (Some (Read r)) t = let_go t (Read r)

-- the key is set
abbrev pub with_key : Key → Request → Request
with_key k r = record r { phase = phase.CacheKey; key = Some k }

-- what the store has for a request
abbrev pub found_for : Store → Option Key → Option (Meta × Reader)
found_for s None = None
found_for s (Some k) = find s (slot k)

-- a lock that is asked for is held; a lock held before is let go once the new one was given
abbrev pub with_lock : Bool → Locks → Option Key → Request → Request
with_lock stale t None r = r
with_lock stale t (Some k) r = record r { held = Some (lock_given t stale (holder t (slot k))) }

-- the lock table after the lock of a key was asked for; a lock held before is let go
abbrev pub table_asked : Bool → ℕ → Option Key → Option Locked → Locks → Locks
table_asked stale now None h t = t
table_asked stale now (Some k) h t = let_go_by h (after_request t (slot k) stale now (holder t (slot k)))

-- the entry of a key, with the number of its body or write if there is one
abbrev pub entry_of : Key → Option ℕ → CacheEntryKey
entry_of k id = entry_with (compact_of k) id

-- the phase after a found pair with this status
abbrev pub phase_found : HitStatus → CachePhase → CachePhase
phase_found status.Fresh p = phase.Hit
phase_found status.ForceFresh p = phase.Hit
phase_found status.Expired p = phase.Stale
phase_found status.ForceExpired p = phase.Stale
phase_found status.ForceExpiredServeStale p = phase.Stale
phase_found status.ForceMiss p = p
phase_found status.FailedHitFilter p = p

-- a found pair asks for the lock if it is not served as it is and one is in use
abbrev pub asks_for_hit : HitStatus → Request → Bool
asks_for_hit s r = r.uses.lock && not (is_fresh s)

-- it asks in order to replace a stale body if the request is stale then
abbrev pub asks_as_stale : HitStatus → CachePhase → Bool
asks_as_stale s p = is_stale_phase (phase_found s p)

-- the request after the lock that a found pair asks for was given
abbrev pub locked_found : HitStatus → Locks → Request → Request
locked_found s t r = cond (asks_for_hit s r) (with_lock (asks_as_stale s r.phase) t r.key r) r

-- the lock table after that
abbrev pub table_found : HitStatus → ℕ → Request → Locks → Locks
table_found s now r t = cond (asks_for_hit s r) (table_asked (asks_as_stale s r.phase) now r.key r.held t) t

-- the request with the meta and the reader of a found pair
abbrev pub placed : HitStatus → Meta → Reader → Request → Request
placed s m h r = record r {
  phase = phase_found s r.phase;
  meta = cond (is_treated_as_miss s) None (Some m);
  reader = cond (is_treated_as_miss s) None (Some h);
}

-- the row of a found pair: its meta and its reader are taken, and the lock is held
abbrev pub found_row : HitStatus → Meta → Reader → Locks → Request → Request
found_row s m h t r = placed s m h (locked_found s t r)

-- a hit that is treated as a miss and a reader that is replaced are let go
abbrev pub store_found : HitStatus → Reader → Request → Store → Store
store_found s h r st = left_by r.reader (cond (is_treated_as_miss s) (left st h) st)

-- a hit counts if it counts as accessed and is not treated as a miss
abbrev pub counts_hit : HitStatus → Reader → Bool
counts_hit s h = counts_access h && not (is_treated_as_miss s)

-- an access is recorded for a hit that counts, if the manager is in use
abbrev pub counts_found : HitStatus → Reader → Request → Bool
counts_found s h r = r.uses.eviction && counts_hit s h

-- the tracked entries after that: an access is recorded for a hit that counts
abbrev pub tracked_found_at : HitStatus → Reader → Option ℕ → Request → Option Key → Tracked → Tracked
tracked_found_at s h id r None m = m
tracked_found_at s h id r (Some k) m = cond (counts_found s h r) (added m (entry_of k id) (reader_weight h)) m

abbrev pub tracked_found : HitStatus → Reader → Option ℕ → Request → Tracked → Tracked
tracked_found s h id r m = tracked_found_at s h id r r.key m

-- the same by a reader of a storage where entries may have numbers
abbrev pub tracked_by_hit : Bool → HitStatus → Reader → Request → Tracked → Tracked
tracked_by_hit numbers s h r m = tracked_found s h (entry_read numbers h) r m

-- the reader is ended
abbrev pub without_reader : Request → Request
without_reader r = record r { reader = None }

-- the request goes on as a miss; a reader is kept
abbrev pub missed : Request → Request
missed r = record r { phase = phase.Miss; meta = None; stale_variance = None }

-- a meta may be set: of a response to store, in Miss or in place of a stale one
abbrev pub MayTakeMetaIn : CachePhase → Option Meta → Type 0
MayTakeMetaIn phase.Miss m = Unit {0}
MayTakeMetaIn phase.Stale m = IsSome m
MayTakeMetaIn _ m = ⊥

abbrev pub MayTakeMeta : Request → Type 0
MayTakeMeta r = MayTakeMetaIn r.phase r.meta

-- a meta in place of a stale one keeps the moment from which that one's body came, and the body is fetched again
abbrev pub phase_with_meta : CachePhase → CachePhase
phase_with_meta phase.Stale = phase.Expired
phase_with_meta p = p

-- a meta with the moment from which the old one's body came
abbrev pub with_provenance_of : Option Meta → Meta → Meta
with_provenance_of None m = m
with_provenance_of (Some old) m = internal_changed (λ x. record x { provenance = Some (provenance_of old) }) m

-- the meta that is set: one that replaces a stale one keeps the moment from which the body came
abbrev pub meta_taken : CachePhase → Option Meta → Meta → Meta
meta_taken phase.Stale old m = with_provenance_of old m
meta_taken _ old m = m

-- the variance of the stale meta
abbrev pub variance_in : Option Meta → Option (List ℕ)
variance_in None = None
variance_in (Some m) = m.variance

-- the variance of the stale meta that is replaced
abbrev pub variance_left : CachePhase → Option Meta → Option (List ℕ)
variance_left phase.Stale old = variance_in old
variance_left _ old = None

-- the row of setting a meta
abbrev pub with_meta : Meta → Request → Request
with_meta m r = record r { phase = phase_with_meta r.phase; meta = Some (meta_taken r.phase r.meta m); stale_variance = variance_left r.phase r.meta }

-- a write may begin
abbrev pub MayWrite : Request → Type 0
MayWrite r = IsFilling r.phase × IsSome r.meta × (r.write ≡ None)

-- the write that begins, of the request's key and meta
abbrev pub begun_for : Option Key → Option Meta → Store → Store
begun_for (Some k) (Some m) s = begun s (slot k) m
begun_for (Some k) None s = s
begun_for None m s = s

-- the reader that follows the request's write
abbrev pub followed_for : Option Key → ℕ → Store → Option (Meta × Reader)
followed_for None n s = None
followed_for (Some k) n s = find_write s (slot k) (Some n)

-- the reader of a found pair
abbrev pub reader_in : Option (Meta × Reader) → Option Reader
reader_in p = option_map (λ q. q.1) p

-- the request after its write n began, where s is the store then
abbrev pub writing : Bool → ℕ → Option ℕ → Store → Request → Request
writing streams n id s r = cond streams (record r { write = Some n; entry = id; held = None; reader = reader_in (followed_for r.key n s) }) (record r { write = Some n; entry = id })

-- the store after the request's write began, and its reader follows it if the storage allows that
abbrev pub store_writing : Bool → ℕ → Request → Store → Store
store_writing streams n r s =
    let t = begun_for r.key r.meta s in
    cond streams (left_by r.reader (followed t (followed_for r.key n t))) t

-- the request after it began its write in this store, which may be read while it is made, and where entries may have numbers
abbrev pub write_begun : Bool → Bool → Store → Request → Request
write_begun streams numbers s r = writing streams s.next (entry_given numbers s.next) (begun_for r.key r.meta s) r

-- the store after it
abbrev pub store_begun : Bool → Store → Request → Store
store_begun streams s r = store_writing streams s.next r s

-- what a reader that follows the write finds
abbrev pub begin_followed : Store → Request → Option (Meta × Reader)
begin_followed s r = followed_for r.key s.next (begun_for r.key r.meta s)

-- the request after its write began, if its reader could not follow it: the permit is released
abbrev pub begun_unfollowed : Bool → Store → Request → Request
begun_unfollowed numbers s r = record r { write = Some s.next; entry = entry_given numbers s.next; held = None }

-- the tracked entries after a removal: without the removed entry
abbrev pub tracked_gone : Bool → CompactCacheKey → PurgeOutcome → Tracked → Tracked
tracked_gone uses k NotFound m = m
tracked_gone uses k (Purged id) m = cond uses (remove m (entry_with k id)) m
tracked_gone uses k Expired m = m

-- whether a removal or an expiry found anything
abbrev pub is_removed_by : PurgeOutcome → Bool
is_removed_by NotFound = false
is_removed_by (Purged id) = true
is_removed_by Expired = true

-- the tracked entries after a removal of the request's key
abbrev pub tracked_gone_for : Bool → Option Key → PurgeOutcome → Tracked → Tracked
tracked_gone_for uses None o m = m
tracked_gone_for uses (Some k) o m = tracked_gone uses (compact_of k) o m

-- the request after a look-up took so many nanoseconds
abbrev pub with_look_up_time : ℕ → Request → Request
with_look_up_time n r = let d : Digest = r.digest in record r { digest = record d { look_ups = time_added d.look_ups n } }
