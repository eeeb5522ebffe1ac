use Rattle.pcache_evict.proofs.Words.{arith, subst, not-true, not-false, ShardedLru, ArePlaced, all, in_shard, reweighed}
use Rattle.pcache_evict.proofs.Chains.{set-sums}
use Rattle.pcache_evict.proofs.eviction.shards.RecencyShards.fits.Goals as goal

pub returns-clause-inside : goal.returns-clause-inside
returns-clause-inside g c = λ e.
    let sums = set-sums g.row.N c.args.self.now c.args.item.now c.args.size (subst (ArePlaced g.row.N) c.self.view_is c.self.invariant.placed) c.requires.there in
    let first = sums.0 in
    let second = sums.1 in
    c.exceeds.ensures.within ShardedLru (not-true c.exceeds.result e) (all (in_shard g.row.N c.args.item.now (reweighed c.args.item.now c.args.size) c.args.self.now)) (omega (arith, c.requires.sum)) (omega (arith, c.requires.count))

pub returns-clause-outside : goal.returns-clause-outside
returns-clause-outside g c = λ e.
    let sums = set-sums g.row.N c.args.self.now c.args.item.now c.args.size (subst (ArePlaced g.row.N) c.self.view_is c.self.invariant.placed) c.requires.there in
    let first = sums.0 in
    let second = sums.1 in
    c.exceeds.ensures.over ShardedLru (not-false c.exceeds.result e) (all (in_shard g.row.N c.args.item.now (reweighed c.args.item.now c.args.size) c.args.self.now)) (omega (arith, c.requires.sum)) (omega (arith, c.requires.count))
