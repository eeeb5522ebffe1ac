use Rattle.pcache_evict.proofs.Words.{sym, subst, IsOnce}
use Rattle.pcache_evict.proofs.Sharded.{once-all}
use Rattle.pcache_evict.proofs.eviction.sharded_lru.ManagerEvictionManager.entries.Goals as goal

pub returns-clause-once : goal.returns-clause-once
returns-clause-once g c = subst IsOnce (sym c.in_ok-all.ensures.ok) (once-all g.row.N c.args.self.now.shards c.in_ok-all.ensures.placed)
