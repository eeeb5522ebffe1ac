use Rattle.pcache_evict.proofs.Words.{◌∙◌, sym, subst, refl, arith, Lru, limits_of}
use Rattle.pcache_evict.proofs.Walks.{Pops, pops-more, pops-room}
use Rattle.pcache_evict.proofs.eviction.recency.RecencyList.evict.Goals as goal

pub push_reserved-requires : goal.push_reserved-requires
push_reserved-requires g c =
    let over = c.loop-watermark-test.ensures.over Lru refl c.loop-watermark.self c.weight.ensures.value c.len.ensures.value in
    let room = pops-room _ _ _ _ _ c.loop-watermark.invariant.pops over c.requires.room in
    omega (arith, c.loop-watermark.invariant.room, c.loop-watermark.out.ok.0)

pub loop-watermark-preserved : goal.loop-watermark-preserved
loop-watermark-preserved g c =
    let i = c.loop-watermark.invariant in
    let over = c.loop-watermark-test.ensures.over Lru refl c.loop-watermark.self c.weight.ensures.value c.len.ensures.value in
    record {
      pops = subst (Pops (limits_of Lru c.args.limit c.args.watermark) c.args.self.now c.pop_last.new.self) (sym c.push_reserved.ensures.items)
          (pops-more _ _ _ _ (c.in-Some.key, c.in-Some.field-0-1) _ i.pops c.in-Some.ensures.last over);
      room = c.push_reserved.ensures.capacity ∙ i.room;
    }

pub returns-clause-evicts : goal.returns-clause-evicts
returns-clause-evicts g c =
    let p = c.loop-watermark.invariant.pops in
    record {
      tail = p.tail;
      split = p.split;
      order = p.order;
      enough = c.loop-watermark-test.ensures.within Lru refl c.loop-watermark.self c.weight.ensures.value c.len.ensures.value;
      shortest = p.shortest;
    }
