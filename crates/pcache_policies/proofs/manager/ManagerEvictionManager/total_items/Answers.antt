use Rattle.pcache_evict.proofs.Maps.{len-map_of}
use Rattle.pcache_policies.proofs.Words.{◌∙◌, sym, entries_in}
use Rattle.pcache_policies.proofs.Queues.{once-plain, length-plain}
use Rattle.pcache_policies.proofs.manager.ManagerEvictionManager.total_items.Goals as goal

pub returns : goal.returns
returns g c = c.total_items.ensures.value ∙ sym (length-plain (g.Q.Discipline.way.whole c.args.self.now.order)) ∙ sym (len-map_of (entries_in g.Q.Discipline.way c.args.self.now.order) (once-plain (g.Q.Discipline.way.whole c.args.self.now.order) c.total_items.ensures.once))
