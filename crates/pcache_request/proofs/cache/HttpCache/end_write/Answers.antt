use Rattle.std.proofs.Common.{◌≡◌, subst}
use Rattle.pcache_evict.specs.Tracked.{Tracked}
use Rattle.pcache_request.proofs.Replacing.{none_before_end}
use Rattle.pcache_request.specs.WriteEnds.{Ends, evicted_after, finishes_of}
use Rattle.pcache_request.proofs.cache.HttpCache.end_write.Goals as goal

pub returns-clause-ends : goal.returns-clause-ends
returns-clause-ends g c =
    let r = c.args.self.now in
    let end = c.end_write_replacing.result.end in
    let new = c.end_write_replacing.new in
    let state = g.S.StoreMeaning.state in
    let tracked = g.E.EvictionManager.tracked in
    let table = g.L.CacheKeyLock.table in
    let of = g.S.StoreMeaning.finishes c.args.storage.now in
    let same = none_before_end r r.key end (tracked c.args.eviction.now) in
    let e = c.end_write_replacing.ensures.ends in
    record {
      ends = subst (λ (m : Tracked). Ends g.S.StoreMeaning.guarantees r r.key r.write (finishes_of of r.write) (g.E.EvictionManager.limits c.args.eviction.now) end (state c.args.storage.now) (state new.storage) m (tracked new.eviction) (table c.args.lock.now) (table new.lock)) same e.ends;
      past = e.past;
      deeds = e.deeds;
      evicted = subst (λ (m : Tracked). g.E.EvictionManager.evicted new.eviction ≡ evicted_after r r.key (finishes_of of r.write) m (g.E.EvictionManager.evicted c.args.eviction.now) end) same e.evicted;
    }
