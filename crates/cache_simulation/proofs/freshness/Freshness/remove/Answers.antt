use Rattle.cache_simulation.proofs.Words.{◌∙◌, ap, as_nanos, Fresh}
use Rattle.std.specs.FinMap as map
use Rattle.cache_simulation.proofs.FreshMaps.{taken, fresh_of}
use Rattle.cache_simulation.proofs.freshness.Freshness.remove.Goals as goal

pub returns : goal.returns
returns c =
    ap (λ m. fresh_of (as_nanos c.self.inside.time) m) (taken c.self.inside.came.entries c.remove.new.self.entries c.args.item.now c.remove.ensures.updates.0)
    ∙ ap (λ (f : Fresh). fresh_of f.time (map.remove f.came c.args.item.now)) c.self.view_is
