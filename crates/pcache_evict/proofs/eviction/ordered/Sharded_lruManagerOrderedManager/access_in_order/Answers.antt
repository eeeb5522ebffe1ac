use Rattle.pcache_evict.proofs.Words.{◌∙◌, sym, ap, is_some, map_of, all}
use Rattle.pcache_evict.proofs.ShardMaps.{map-accessed-in, found-map}
use Rattle.pcache_evict.proofs.eviction.ordered.Sharded_lruManagerOrderedManager.access_in_order.Goals as goal

pub returns-clause-was : goal.returns-clause-was
returns-clause-was g c = c.in_ok-was.ensures.was ∙ ap is_some (sym (found-map g.row.N c.args.item.now c.args.self.now.shards c.in_ok-was.ensures.placed))

pub returns-clause-ok : goal.returns-clause-ok
returns-clause-ok g c = ap (λ s. map_of (all s.shards)) c.in_ok-was.ensures.ok ∙ map-accessed-in g.row.N c.args.item.now c.args.size c.args.self.now.shards c.in_ok-was.ensures.placed

pub returns-in_err-was-clause-there : goal.returns-in_err-was-clause-there
returns-in_err-was-clause-there g c = λ has.
    let given = c.in_err-was.ensures.there (ap is_some (sym (found-map g.row.N c.args.item.now c.args.self.now.shards c.in_err-was.ensures.placed)) ∙ has) in
    cc
