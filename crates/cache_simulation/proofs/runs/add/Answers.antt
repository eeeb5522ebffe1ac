use Rattle.cache_simulation.proofs.Words.{[], All-same, All-push, StandsIn}
use Rattle.cache_simulation.proofs.runs.add.Goals as goal

pub loop-size-preserved : goal.loop-size-preserved
loop-size-preserved c = λ held.
    All-same (StandsIn c.args.setting [] []) _ _ c.in_ok-push.ensures.items
    (All-push (StandsIn c.args.setting [] []) c.loop-size.caches.items c.in_ok-new.field-0 (c.loop-size.invariant held) c.in_ok-new.ensures.empty)
