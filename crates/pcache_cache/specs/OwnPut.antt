-- A put of a cache, and its write (own).
use Rattle.std.specs.Prelude.{◌≡◌, true, Option, Some, Result}
use Rattle.pcache_base.specs.declared.error.ErrorType.{ErrorType}
use Rattle.pcache_base.specs.declared.reason.NoCacheReason.{NoCacheReason}
use Rattle.pcache_cache.specs.Parts.{Parts, is_own_write}
use Rattle.pcache_base.specs.Key.{slot}
use Rattle.pcache_evict.specs.Tracked.{Evicted, Tracked}
use Rattle.pcache_request.specs.StorePasts.{Past}
use Rattle.pcache_put.specs.Pasts.{past_after, past_left}
use Rattle.pcache_put.specs.State.{Put, write_in}
use Rattle.pcache_put.specs.Steps.{Done, EndsPut, evicted_ended, stage_begun, store_after, store_left, tracked_before_put}
use Rattle.pcache_put.specs.declared.report.PutEnd.{PutEnd}
use Rattle.pcache_store.specs.Finishes.{body_number}
use Rattle.pcache_store.specs.Readers.{in_memory}
use Rattle.pcache_store.specs.Store.{Store}
use Rattle.pcache_cache.specs.Weighing.{entered_each}

-- a put may end: its write, if it has one, is a write of this store and of the put's key
abbrev pub MayEndPut : {C : Type 0} → Store → Put C → Type 0
MayEndPut s p = is_own_write s (Some p.key) (write_in p.stage) ≡ true

-- the store after a piece of a put did this with this result: a write has the number of its entry, and is dropped if the piece
-- failed
abbrev pub store_put : {C : Type 0} → Put C → Done → Result (Option NoCacheReason) ErrorType → Store → Store
store_put p d answered s = store_left answered (stage_begun p.stage d.began s.next (Some s.next)) (store_after p.key p.stage d.began d.wrote (Some s.next) s)

-- what that adds to the store's past
abbrev pub put_past : {C : Type 0} → Put C → Done → Result (Option NoCacheReason) ErrorType → Store → Past → Past
put_past p d answered s past = past_left answered (stage_begun p.stage d.began s.next (Some s.next)) (past_after p.key p.stage d.began d.wrote (Some s.next) s past)

-- what is tracked when a put that ended so has its entry admitted: if its body was stored, without the entry of the body that it
-- replaced
abbrev pub tracked_at_put_end : {C : Type 0} → Parts → Put C → PutEnd → Tracked
tracked_at_put_end old p how = tracked_before_put p.key (body_number old.store (slot p.key)) how old.tracked

-- a put ended so, and made these parts of those before
abbrev pub EndsOwnPut : {C : Type 0} → Put C → PutEnd → Parts → Parts → Type 0
EndsOwnPut p how old new = EndsPut in_memory p.key p.parser (entered_each old.weighing old.store (write_in p.stage)) old.limits p.stage how old.store new.store (tracked_at_put_end old p how) new.tracked

-- the totals of what was evicted, once a put ended so
abbrev pub evicted_put : {C : Type 0} → Put C → PutEnd → Parts → Evicted
evicted_put p how old = evicted_ended p.key (entered_each old.weighing old.store (write_in p.stage)) p.stage (tracked_at_put_end old p how) old.evicted how
