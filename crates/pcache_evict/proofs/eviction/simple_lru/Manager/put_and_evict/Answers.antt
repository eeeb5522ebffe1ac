use Rattle.pcache_evict.proofs.Words.{sym, subst, vec_capacity, Lru, moved, IsEnough, limits_of}
use Rattle.pcache_evict.proofs.Raised.{enough_inside, moved_less}
use Rattle.pcache_evict.proofs.eviction.simple_lru.Manager.put_and_evict.Goals as goal

pub keep_limits-requires-clause-room : goal.keep_limits-requires-clause-room
keep_limits-requires-clause-room g c =
    let less = moved_less c.args.item c.args.size c.self.inside.list c.allows.ensures.once in
    let inside = c.allows.ensures.inside c.if-allows.true (moved c.args.item c.args.size c.self.inside.list) less.0 less.1 in
    subst (λ l. IsEnough (limits_of Lru c.self.inside.limit c.self.inside.watermark) l (vec_capacity c.new.result)) (sym c.in_ok-put.ensures.ok) (enough_inside _ _ _ inside)
