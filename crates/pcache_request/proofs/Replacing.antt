-- An end of a write that is told of no replaced body leaves the entries as they were before the admission.
use Rattle.std.proofs.Common.{◌≡◌, Bool, Option, None, Some, refl}
use Rattle.pcache_base.specs.Key.{Key}
use Rattle.pcache_evict.specs.Tracked.{Tracked}
use Rattle.pcache_request.specs.Replacing.{tracked_before, tracked_before_end}
use Rattle.pcache_request.specs.Requests.{Request}
use Rattle.pcache_request.specs.declared.cache.finish.WriteEnd.{WriteEnd}
use Rattle.pcache_request.specs.declared.cache.finish.WriteEnd.TheVariants as end

pub none_before : (used : Bool) (k : Key) (how : WriteEnd) (m : Tracked) → tracked_before used k None how m ≡ m
none_before used k end.Nothing m = refl
none_before used k (end.Stored f) m = refl
none_before used k (end.Dropped e) m = refl
none_before used k (end.Withdrawn e) m = refl

pub none_before_end : (r : Request) (key : Option Key) (how : WriteEnd) (m : Tracked) → tracked_before_end r key None how m ≡ m
none_before_end r None how m = refl
none_before_end r (Some k) how m = none_before r.uses.eviction k how m
