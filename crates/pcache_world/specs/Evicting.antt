-- For the prover: how a call changes the totals of all that the manager evicted (own): the end of a write adds what its admission
-- evicted, and every other call leaves them unchanged.
use Rattle.std.specs.Prelude.{◌≡◌, Option, List}
use Rattle.pcache_evict.specs.Tracked.{Tracked, Evicted}
use Rattle.pcache_history.specs.declared.call.Act.{Act}
use Rattle.pcache_history.specs.declared.call.Act.TheVariants as C
use Rattle.pcache_history.specs.declared.call.RequestAct.TheVariants as Q
use Rattle.pcache_history.specs.declared.entry.Event.{Event}
use Rattle.pcache_history.specs.Due.{IsOfWorldIn}
use Rattle.pcache_history.specs.Events.{evicted_by}
use Rattle.pcache_history.specs.Ongoing.{Ongoing}
use Rattle.pcache_world.specs.State.{State}

abbrev pub AddsEvicted : Act → Option Ongoing → Tracked → Evicted → List Event → Evicted → Type 0
AddsEvicted (C.Request Q.Finish) q m before events after = IsOfWorldIn q → after ≡ evicted_by m before events
AddsEvicted C.Close q m before events after = after ≡ evicted_by m before events
AddsEvicted act q m before events after = after ≡ before

-- the same of the parts as one value
abbrev pub AddsEvictedIn : Act → Option Ongoing → State → List Event → State → Type 0
AddsEvictedIn act q p events p' = AddsEvicted act q p.tracked p.evicted events p'.evicted
