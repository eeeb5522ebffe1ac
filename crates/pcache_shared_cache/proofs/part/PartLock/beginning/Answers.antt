use Rattle.pcache_shared_cache.proofs.Words.{subst, sym, Begun, Placed, StartsWith, first_of}
use Rattle.pcache_shared_cache.proofs.part.PartLock.beginning.Goals as goal

pub returns-clause-starts : goal.returns-clause-starts
returns-clause-starts g c =
    subst (λ (b : Begun). StartsWith c.again.result.log b.first) c.self.view_is (subst (λ (s : Placed). StartsWith s.log (first_of c.self.inside.beginning.log)) (sym c.again.ensures) c.self.invariant.0)
