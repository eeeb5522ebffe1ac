use Rattle.pcache_policies.proofs.Seens.{whole_weight}
use Rattle.pcache_policies.proofs.sieve.HandDiscipline.choose.Goals as goal

pub returns-clause-heavy : goal.returns-clause-heavy
returns-clause-heavy g c = whole_weight c.args.self.now.ring c.prepare.new.self c.len.ensures.once c.in_ok-out.ensures.once c.prepare.ensures.same
