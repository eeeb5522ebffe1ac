use Rattle.pcache_evict.proofs.Words.{refl, ◌∙◌, ap, map_of}
use Rattle.pcache_evict.proofs.Maps.{map-others}
use Rattle.pcache_evict.proofs.eviction.simple_lru.ManagerEvictionManager.remove.Goals as goal

pub returns-clause-tracked : goal.returns-clause-tracked
returns-clause-tracked g c = ap (λ s. map_of s.entries) c.remove.ensures ∙ map-others c.args.item.now c.args.self.now.entries

pub returns-clause-order : goal.returns-clause-order
returns-clause-order g c = (c.args.self.now.entries, c.remove.new.self.entries, refl, refl, ap (λ s. s.entries) c.remove.ensures)
