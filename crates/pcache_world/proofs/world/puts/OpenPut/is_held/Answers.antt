use Rattle.pcache_world.proofs.Words.{IsSome, refl, subst, sym, Ongoing, taking}
use Rattle.pcache_world.proofs.world.puts.OpenPut.is_held.Goals as goal

pub returns-clause-held : goal.returns-clause-held
returns-clause-held g c = (taking c.self.inside.ctx, sym c.self.view_is)

pub returns-clause-some : goal.returns-clause-some
returns-clause-some g c = subst (λ (x : Ongoing). IsSome x.put) c.self.view_is refl
