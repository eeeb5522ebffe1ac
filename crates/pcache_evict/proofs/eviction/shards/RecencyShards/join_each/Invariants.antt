use Rattle.pcache_evict.proofs.Words.{◌≡◌, AreLonger, added_last_all}
use Rattle.pcache_evict.proofs.eviction.shards.RecencyShards.join_each.Given as goal

abbrev pub invariant-loop-item : goal.invariant-loop-item
invariant-loop-item g l =
    record {
      joined : added_last_all g.row.N l.item-iterator.rest.items l.self ≡ added_last_all g.row.N l.fn.entries.items l.fn.self;
      longer : AreLonger l.fn.self l.self;
    }
