use Rattle.std.proofs.Common.{◌≡◌, ap, cond, ◌∙◌}
use Rattle.pcache_evict.specs.Tracked.{evicted_with}
use Rattle.pcache_request.specs.Finishing.{with_entry}
use Rattle.pcache_request.specs.Replacing.{without_entry}
use Rattle.pcache_request.proofs.cache.ending.end_writer.Goals as goal

pub returns-in-Ok-admit_and_purge-clause-evicted : goal.returns-in-Ok-admit_and_purge-clause-evicted
returns-in-Ok-admit_and_purge-clause-evicted g c =
    let gone = c.remove_replaced-compact.ensures in
    let tracked = gone.tracked ∙ ap (λ k. without_entry c.args.is_used k c.args.entering.replaced (g.E.EvictionManager.tracked c.args.eviction.now)) c.in-Ok.ensures.compact in
    c.in-Ok-admit_and_purge.ensures.evicted
    ∙ λ i. cond c.args.is_used (evicted_with (gone.evicted i) (with_entry (c.in-Ok.ensures.answer i) (c.in-Ok.ensures.entry i) (tracked i)) c.in-Ok-admit_and_purge.report.evicted.items) (gone.evicted i)
