use Rattle.std.specs.List.{IsDistinct}
use Rattle.pcache_policies.proofs.Words.{sym, subst, keys_of, entry_eq}
use Rattle.pcache_policies.proofs.Queues.{once-plain}
use Rattle.pcache_policies.proofs.manager.ManagerEvictionManager.entries.Goals as goal

pub returns-clause-once : goal.returns-clause-once
returns-clause-once g c = subst (λ l. IsDistinct entry_eq (keys_of l)) (sym c.in_ok-all.ensures.ok) (once-plain (g.Q.Discipline.way.whole c.args.self.now.order) c.entries.ensures.once)
