use Rattle.pcache_evict.proofs.Words.{◌∙◌, ap, map_of}
use Rattle.pcache_evict.proofs.Maps.{map-others}
use Rattle.pcache_evict.proofs.eviction.ordered.Simple_lruManagerOrderedManager.remove_in_order.Goals as goal

pub returns-clause-tracked : goal.returns-clause-tracked
returns-clause-tracked g c = ap (λ s. map_of s.entries) c.remove.ensures ∙ map-others c.args.item.now c.args.self.now.entries
