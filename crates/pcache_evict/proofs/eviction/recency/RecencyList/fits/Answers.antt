use Rattle.pcache_evict.proofs.Words.{arith, not-true, not-false, Lru, moved}
use Rattle.pcache_evict.proofs.Recency.{weight-moved}
use Rattle.pcache_evict.proofs.eviction.recency.RecencyList.fits.Goals as goal

pub returns-clause-inside : goal.returns-clause-inside
returns-clause-inside g c = λ e.
    let whole = weight-moved c.args.item.now c.args.size c.args.self.now in
    c.exceeds.ensures.within Lru (not-true c.exceeds.result e) (moved c.args.item.now c.args.size c.args.self.now) (omega (arith, whole, c.requires.sum)) (omega (arith, c.requires.count))

pub returns-clause-outside : goal.returns-clause-outside
returns-clause-outside g c = λ e.
    let whole = weight-moved c.args.item.now c.args.size c.args.self.now in
    c.exceeds.ensures.over Lru (not-false c.exceeds.result e) (moved c.args.item.now c.args.size c.args.self.now) (omega (arith, whole, c.requires.sum)) (omega (arith, c.requires.count))
