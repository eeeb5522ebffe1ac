use Rattle.pcache_evict.proofs.Words.{ap, refl, added_last_all}
use Rattle.pcache_evict.proofs.Cuts.{joins-on, longer-start, longer-joined}
use Rattle.pcache_evict.proofs.eviction.shards.RecencyShards.join_each.Goals as goal

pub loop-item-init : goal.loop-item-init
loop-item-init g c = record {
  joined = ap (λ es. added_last_all g.row.N es c.args.self.now) c.into_iter-item-iterator.ensures.into_iter_gives.0;
  longer = longer-start c.args.self.now c.args.self.now refl;
}

pub loop-item-preserved : goal.loop-item-preserved
loop-item-preserved g c = record {
  joined = joins-on g.row.N c.loop-item.item-iterator.rest.items c.next.new.self.rest.items c.in-Some.item c.in-Some.size c.loop-item.self c.join.new.self _ c.in-Some.ensures.steps.0 c.in_ok-join.ensures.ok c.loop-item.invariant.joined;
  longer = longer-joined g.row.N c.args.self.now c.loop-item.self c.join.new.self c.in-Some.item c.in-Some.size c.join.ensures.placed c.loop-item.invariant.longer c.in_ok-join.ensures.ok;
}
