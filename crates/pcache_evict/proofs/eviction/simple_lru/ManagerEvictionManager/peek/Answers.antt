use Rattle.pcache_evict.proofs.Words.{◌∙◌, sym, ap, is_some}
use Rattle.pcache_evict.proofs.Maps.{get-map_of}
use Rattle.pcache_evict.proofs.eviction.simple_lru.ManagerEvictionManager.peek.Goals as goal

pub returns : goal.returns
returns g c = c.peek.ensures ∙ ap is_some (sym (get-map_of c.args.self.now.entries c.args.item.now))
