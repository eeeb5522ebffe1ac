use Rattle.pcache_evict.proofs.Words.{◌∙◌, sym, subst, refl, arith, ShardedLru, limits_of, all, chain}
use Rattle.pcache_evict.proofs.Walks.{Pops, pops-more, pops-room}
use Rattle.pcache_evict.proofs.Chains.{RunsTo, runs-more, runs-done, inside-chain, pop-weight, pop-fewer}
use Rattle.pcache_evict.proofs.eviction.shards.RecencyShards.evict.Goals as goal

pub push_reserved-requires : goal.push_reserved-requires
push_reserved-requires g c =
    let over = c.loop-watermark-test.ensures.over ShardedLru refl (all c.loop-watermark.self) c.weight.ensures.value c.len.ensures.value in
    let room = pops-room _ _ _ _ _ c.loop-watermark.invariant.pops (λ i. over (inside-chain _ g.row.N c.args.place c.loop-watermark.self c.weight.ensures.placed.long c.requires.within i)) c.requires.room in
    omega (arith, c.loop-watermark.invariant.room, c.loop-watermark.out.ok.0)

pub loop-watermark-smaller : goal.loop-watermark-smaller
loop-watermark-smaller g c = let less = pop-fewer _ _ _ _ _ c.in-Some.ensures.some in omega arith

pub loop-watermark-preserved : goal.loop-watermark-preserved
loop-watermark-preserved g c =
    let i = c.loop-watermark.invariant in
    let p = c.in-Some.ensures.some in
    let over = c.loop-watermark-test.ensures.over ShardedLru refl (all c.loop-watermark.self) c.weight.ensures.value c.len.ensures.value in
    record {
      runs = subst (λ out. RunsTo (limits_of ShardedLru c.args.limit c.args.watermark) c.args.self.now out c.pop_first.new.self) (sym c.push_reserved.ensures.items)
          (runs-more _ g.row.N c.args.place c.loop-watermark.out.items c.args.self.now c.loop-watermark.self c.pop_first.new.self c.in-Some.key i.runs over p);
      pops = subst (Pops (limits_of ShardedLru c.args.limit c.args.watermark) (chain g.row.N c.args.place c.args.self.now) (chain g.row.N c.args.place c.pop_first.new.self)) (sym c.push_reserved.ensures.items)
          (pops-more _ _ _ _ (c.in-Some.key, p.size) _ i.pops p.last (λ j. over (inside-chain _ g.row.N c.args.place c.loop-watermark.self c.weight.ensures.placed.long c.requires.within j)));
      lighter = let less = pop-weight _ _ _ _ _ p in let before = i.lighter in omega arith;
      room = c.push_reserved.ensures.capacity ∙ i.room;
    }

pub returns-clause-runs : goal.returns-clause-runs
returns-clause-runs g c = runs-done _ _ _ _ c.loop-watermark.invariant.runs (c.loop-watermark-test.ensures.within ShardedLru refl (all c.loop-watermark.self) c.weight.ensures.value c.len.ensures.value)
