-- The entry of a body that a newer one takes the place of (own): the end of the write that replaces the body takes this entry
-- out of the manager before it admits the new one, if it is told the body's number.
use Rattle.std.specs.Prelude.{ℕ, Option, Some, None, Bool, cond}
use Rattle.std.specs.FinMap.{remove}
use Rattle.pcache_base.specs.CompactKey.{compact_of}
use Rattle.pcache_base.specs.Key.{Key}
use Rattle.pcache_base.specs.declared.key.CompactCacheKey.{CompactCacheKey}
use Rattle.pcache_evict.specs.Entry.{entry_with}
use Rattle.pcache_evict.specs.Tracked.{Tracked}
use Rattle.pcache_request.specs.Requests.{Request}
use Rattle.pcache_store.specs.declared.storage.MissFinishType.{MissFinishType}
use Rattle.pcache_store.specs.declared.storage.MissFinishType.TheVariants.{Created}
use Rattle.pcache_request.specs.declared.cache.finish.WriteEnd.{WriteEnd}
use Rattle.pcache_request.specs.declared.cache.finish.WriteEnd.TheVariants as end

-- the tracked entries without that of this key with this number, if one is named and a manager is in use
abbrev pub without_entry : Bool → CompactCacheKey → Option ℕ → Tracked → Tracked
without_entry used k None m = m
without_entry used k (Some n) m = cond used (remove m (entry_with k (Some n))) m

-- what is tracked when a write that ended so has its entry admitted: a write whose body was stored, though its admission may
-- have failed, has replaced the body with this number; a write that was dropped has replaced nothing
abbrev pub tracked_before : Bool → Key → Option ℕ → WriteEnd → Tracked → Tracked
tracked_before used k replaced end.Nothing m = m
tracked_before used k replaced (end.Stored f) m = without_entry used (compact_of k) replaced m
tracked_before used k replaced (end.Dropped e) m = m
tracked_before used k replaced (end.Withdrawn e) m = without_entry used (compact_of k) replaced m

-- the same for the write of a request
abbrev pub tracked_before_end : Request → Option Key → Option ℕ → WriteEnd → Tracked → Tracked
tracked_before_end r None replaced how m = m
tracked_before_end r (Some k) replaced how m = tracked_before r.uses.eviction k replaced how m

-- what the end of a write returned, with this weight in its place if one is given
abbrev pub weighed : Option ℕ → MissFinishType → MissFinishType
weighed None kind = kind
weighed (Some n) kind = Created n

-- the same of each write
abbrev pub weighed_each : Option ℕ → (ℕ → MissFinishType) → ℕ → MissFinishType
weighed_each weight finishes w = weighed weight (finishes w)
