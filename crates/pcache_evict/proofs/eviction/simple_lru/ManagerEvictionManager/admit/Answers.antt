use Rattle.pcache_evict.proofs.Words.{refl}
use Rattle.pcache_evict.proofs.Maps.{moved-fair, moved-left, moved-evicted}
use Rattle.pcache_evict.proofs.eviction.simple_lru.ManagerEvictionManager.admit.Goals as goal

pub returns-clause-fair : goal.returns-clause-fair
returns-clause-fair g c = moved-fair c.args.self.now c.admit.new.self c.args.item c.args.size c.in_ok-out.out.items c.in_ok-out.ensures.ok

pub returns-clause-tracked : goal.returns-clause-tracked
returns-clause-tracked g c = moved-left c.args.self.now c.admit.new.self c.args.item c.args.size c.in_ok-out.out.items c.in_ok-out.ensures.ok

pub returns-clause-evicted : goal.returns-clause-evicted
returns-clause-evicted g c = moved-evicted c.args.self.now c.admit.new.self c.args.item c.args.size c.in_ok-out.out.items c.in_ok-out.ensures.ok

pub returns-clause-order : goal.returns-clause-order
returns-clause-order g c = (c.args.self.now.entries, c.admit.new.self.entries, refl, refl, c.in_ok-out.ensures.ok.evicts)
