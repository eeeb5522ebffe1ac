use Rattle.cache_simulation.proofs.Words.{◌≡◌, take, List, Event, Plays, IsCounted, rules_of, state, Replays, counts_after, place}
use Rattle.cache_simulation.proofs.run.Run.play.Given as goal

abbrev pub invariant-loop-asked : goal.invariant-loop-asked
invariant-loop-asked g l =
    record {
      limits : g.M.EvictionManager.limits l.self.manager ≡ g.M.EvictionManager.limits l.fn.self.manager;
      most : l.self.most ≡ l.fn.self.most;
      replaces : l.self.replaces ≡ l.fn.self.replaces;
      plays : (es : List Event) × IsCounted l.fn.self.counts es l.self.counts
          × Plays (rules_of (g.M.EvictionManager.limits l.fn.self.manager) l.fn.self.most l.fn.self.replaces) (state (g.M.EvictionManager.tracked l.fn.self.manager) l.fn.self.freshness) (take l.asked-index l.requests) es (state (g.M.EvictionManager.tracked l.self.manager) l.self.freshness)
          × Replays g.M.OrderedManager.policy (rules_of (g.M.EvictionManager.limits l.fn.self.manager) l.fn.self.most l.fn.self.replaces) (place (g.M.OrderedManager.order l.fn.self.manager) l.fn.self.freshness) (take l.asked-index l.requests) es (place (g.M.OrderedManager.order l.self.manager) l.self.freshness)
          × ((g.M.EvictionManager.evicted l.self.manager).count ≡ counts_after (g.M.EvictionManager.evicted l.fn.self.manager).count es);
    }
