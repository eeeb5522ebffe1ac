use Rattle.pcache_policies.proofs.Managed.{set-with}
use Rattle.pcache_policies.proofs.manager.Manager.keep_limits_or_set.Goals as goal

pub returns-in-Err-clause-err : goal.returns-in-Err-clause-err
returns-in-Err-clause-err g c = set-with g.Q.Discipline.way c.laws.ensures c.args.self.now c.keep_limits.new.self c.set.new.self c.args.item.now c.args.before c.requires c.in-Err.ensures.err c.set.ensures
