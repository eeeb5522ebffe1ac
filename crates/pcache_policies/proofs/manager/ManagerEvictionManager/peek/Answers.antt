use Rattle.pcache_policies.proofs.Words.{◌∙◌}
use Rattle.pcache_policies.proofs.Seens.{there-list}
use Rattle.pcache_policies.proofs.manager.ManagerEvictionManager.peek.Goals as goal

pub returns : goal.returns
returns g c = c.peek.ensures ∙ there-list c.args.item.now (g.Q.Discipline.way.whole c.args.self.now.order)
