use Rattle.pcache_policies.proofs.Words.{◌∙◌, sym, ap, min, ◌^◌, ◌-◌, weight-map_of, entries_in}
use Rattle.pcache_policies.proofs.Queues.{once-plain}
use Rattle.pcache_policies.proofs.manager.ManagerEvictionManager.total_size.Goals as goal

pub returns : goal.returns
returns g c = c.total_size.ensures.value ∙ ap (λ n. min n (2 ^ 64 - 1)) (sym (weight-map_of (entries_in g.Q.Discipline.way c.args.self.now.order) (once-plain (g.Q.Discipline.way.whole c.args.self.now.order) c.total_size.ensures.once)))
