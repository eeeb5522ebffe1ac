use Rattle.pcache_evict.proofs.Words.{◌∙◌, sym, ap, min, ◌^◌, ◌-◌}
use Rattle.pcache_evict.proofs.Maps.{weight-map_of}
use Rattle.pcache_evict.proofs.eviction.simple_lru.ManagerEvictionManager.total_size.Goals as goal

pub returns : goal.returns
returns g c = c.total_size.ensures.value ∙ ap (λ n. min n (2 ^ 64 - 1)) (sym (weight-map_of c.args.self.now.entries c.total_size.ensures.once))
