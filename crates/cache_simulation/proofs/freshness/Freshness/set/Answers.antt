use Rattle.cache_simulation.proofs.Words.{◌∙◌, ap, as_nanos, Fresh}
use Rattle.std.specs.FinMap as map
use Rattle.cache_simulation.proofs.FreshMaps.{put, fresh_of}
use Rattle.cache_simulation.proofs.freshness.Freshness.set.Goals as goal

pub returns : goal.returns
returns c =
    record {
      ok = ap (λ m. fresh_of (as_nanos c.self.inside.time) m) (put c.self.inside.came.entries c.insert.new.self.entries c.args.item c.args.now c.in_ok-insert.ensures.updates.0)
          ∙ ap (λ (f : Fresh). fresh_of f.time (map.insert f.came c.args.item c.args.now)) c.self.view_is;
    }
