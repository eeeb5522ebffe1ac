use Rattle.pcache_request.proofs.Replacing.{none_before}
use Rattle.pcache_put.specs.Steps.{evicted_ended, write_end}
use Rattle.pcache_put.proofs.Words.{◌≡◌, true, subst, Tracked, EndsPut}
use Rattle.pcache_put.proofs.context.CachePutCtx.end_put.Goals as goal

pub returns-clause-ends : goal.returns-clause-ends
returns-clause-ends g c =
    let put = c.args.self.now in
    let end = c.end_put_replacing.result.end in
    let new = c.end_put_replacing.new in
    let state = g.S.StoreMeaning.state in
    let tracked = g.E.EvictionManager.tracked in
    subst (λ (m : Tracked). EndsPut g.S.StoreMeaning.guarantees put.key put.parser (g.S.StoreMeaning.finishes c.args.storage.now) (g.E.EvictionManager.limits c.args.eviction.now) put.stage end (state c.args.storage.now) (state new.storage) m (tracked new.eviction))
    (none_before true put.key (write_end end) (tracked c.args.eviction.now)) c.end_put_replacing.ensures.ends

pub returns-clause-evicted : goal.returns-clause-evicted
returns-clause-evicted g c =
    let put = c.args.self.now in
    let end = c.end_put_replacing.result.end in
    subst (λ (m : Tracked). g.E.EvictionManager.evicted c.end_put_replacing.new.eviction ≡ evicted_ended put.key (g.S.StoreMeaning.finishes c.args.storage.now) put.stage m (g.E.EvictionManager.evicted c.args.eviction.now) end)
    (none_before true put.key (write_end end) (g.E.EvictionManager.tracked c.args.eviction.now)) c.end_put_replacing.ensures.evicted
