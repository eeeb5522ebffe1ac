use Rattle.pcache_evict.proofs.Words.{arith, subst, sym, ShardedLru, limits_of, IsWithinAsList, ArePlaced, all}
use Rattle.pcache_evict.proofs.Sharded.{placed-reweighed}
use Rattle.pcache_evict.proofs.Chains.{enough-now}
use Rattle.pcache_evict.proofs.eviction.sharded_lru.Manager.set_and_evict.Goals as goal

pub keep_limits-requires : goal.keep_limits-requires
keep_limits-requires g c =
    let within = c.place_of-place.ensures.in_range in (
      omega arith,
      (
        within,
        (
          c.new.ensures.items,
          enough-now (limits_of ShardedLru c.self.inside.limit c.self.inside.watermark) g.row.N c.place_of-place.result _ c.reweigh.new.self
              (subst (ArePlaced g.row.N) (sym c.reweigh.ensures) (placed-reweighed g.row.N c.args.item.now c.args.size c.self.inside.shards c.len.ensures.placed)) within
              (subst (λ s. IsWithinAsList (limits_of ShardedLru c.self.inside.limit c.self.inside.watermark) (all s)) (sym c.reweigh.ensures) (c.fits-fits.ensures.inside c.if-fits.true)),
        ),
      ),
    )
