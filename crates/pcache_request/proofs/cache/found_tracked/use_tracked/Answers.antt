use Rattle.std.proofs.Common.{◌≡◌, ap, sym, ◌∙◌}
use Rattle.std.specs.FinMap.{remove}
use Rattle.pcache_request.proofs.Untracked.{taken_back}
use Rattle.pcache_request.proofs.cache.found_tracked.use_tracked.Goals as goal

pub returns-then-not-was_tracked-clause-tracked : goal.returns-then-not-was_tracked-clause-tracked
returns-then-not-was_tracked-clause-tracked g c =
    let old = g.E.EvictionManager.tracked c.args.eviction.now in
    let item = c.args.entry.now in
    let used = c.in_ok-was_tracked.ensures in
    c.remove.ensures.tracked ∙ ap (λ m. remove m item) used.ok ∙ taken_back old item c.args.weight (sym used.was ∙ c.if-not-was_tracked.true)
