use Rattle.cache_simulation.proofs.Words.{◌≡◌, take, without}
use Rattle.cache_simulation.proofs.freshness.Freshness.forget.Given as goal

abbrev pub invariant-loop-item : goal.invariant-loop-item
invariant-loop-item l = l.self ≡ record l.fn.self { came = without (take l.item-index l.gone) l.fn.self.came }
