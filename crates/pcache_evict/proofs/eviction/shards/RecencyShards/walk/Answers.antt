use Rattle.pcache_evict.specs.Recency.{weight}
use Rattle.pcache_evict.proofs.Words.{arith, sym, subst, length, ◌≤◌, ShardedLru, others, limits_of, Walks}
use Rattle.pcache_evict.proofs.Chains.{steps, walk-starts, walk-stops, walk-next}
use Rattle.pcache_evict.proofs.eviction.shards.RecencyShards.walk.Goals as goal

pub returns-then-not-exceeds : goal.returns-then-not-exceeds
returns-then-not-exceeds g c =
    walk-stops _ c.args.item.now c.args.self.now c.args.from c.args.to c.loop-place.place c.args.start c.loop-place.walk c.loop-place.invariant.order (omega arith) c.loop-place.invariant.walks (c.exceeds.ensures.small ShardedLru c.if-not-exceeds.true)

pub walk-walk-requires-clause-sum : goal.walk-walk-requires-clause-sum
walk-walk-requires-clause-sum g c =
    let i = c.loop-place.invariant in
    let s = steps _ c.args.item.now c.args.self.now c.args.from c.args.to c.loop-place.place c.args.start c.loop-place.walk i.order (omega arith) i.walks c.requires.sum c.requires.count in
    subst (λ l. weight (others c.args.item.now l) ≤ c.loop-place.walk.sum) (sym c.list-list.ensures) s.sum

pub walk-walk-requires-clause-count : goal.walk-walk-requires-clause-count
walk-walk-requires-clause-count g c =
    let i = c.loop-place.invariant in
    let s = steps _ c.args.item.now c.args.self.now c.args.from c.args.to c.loop-place.place c.args.start c.loop-place.walk i.order (omega arith) i.walks c.requires.sum c.requires.count in
    subst (λ l. length (others c.args.item.now l) ≤ c.loop-place.walk.count) (sym c.list-list.ensures) s.count

pub walk-walk-requires-clause-fits : goal.walk-walk-requires-clause-fits
walk-walk-requires-clause-fits g c =
    let i = c.loop-place.invariant in
    let s = steps _ c.args.item.now c.args.self.now c.args.from c.args.to c.loop-place.place c.args.start c.loop-place.walk i.order (omega arith) i.walks c.requires.sum c.requires.count in
    let fits = s.fits in
    let most = c.requires.fits in
    omega arith

pub loop-place-preserved : goal.loop-place-preserved
loop-place-preserved g c =
    let i = c.loop-place.invariant in
    record {
      walks = walk-next _ c.args.item.now c.args.self.now c.args.from c.loop-place.place c.args.start c.loop-place.walk c.walk-walk.result i.order i.walks (c.exceeds.ensures.above ShardedLru c.if-not-exceeds.false) (subst (λ l. Walks (limits_of ShardedLru c.args.limit c.args.watermark) c.args.item.now l c.loop-place.walk c.walk-walk.result) c.list-list.ensures (c.walk-walk.ensures ShardedLru));
      order = let low = i.order in omega arith;
    }

pub loop-place-init : goal.loop-place-init
loop-place-init g c = record {
  walks = walk-starts _ c.args.item.now c.args.self.now c.args.from c.args.start;
  order = omega arith;
}
