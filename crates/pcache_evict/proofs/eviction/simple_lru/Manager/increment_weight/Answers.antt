use Rattle.pcache_evict.proofs.Words.{◌∙◌, sym, subst, ap, arith, vec_capacity, Lru, incremented, Listed, IsEnough, IsOnce, limits_of}
use Rattle.pcache_evict.proofs.Raised.{enough_inside, incremented_less}
use Rattle.pcache_evict.proofs.eviction.simple_lru.Manager.increment_weight.Goals as goal

pub keep_limits-requires-clause-room : goal.keep_limits-requires-clause-room
keep_limits-requires-clause-room g c =
    let less = incremented_less c.args.item.now c.args.delta c.args.max_weight c.self.inside.list c.allows.ensures.once (sym c.raise.ensures.was ∙ c.if-raise.true) in
    let short = less.1 in
    let inside = c.allows.ensures.inside c.if-allows.true (incremented c.args.item.now c.args.delta c.args.max_weight c.self.inside.list) less.0 (omega (arith, short)) in
    subst (λ l. IsEnough (limits_of Lru c.self.inside.limit c.self.inside.watermark) l (vec_capacity c.new.result)) (sym (c.raise.ensures.there c.if-raise.true)) (enough_inside _ _ _ inside)

pub returns-then-raise-clause-once : goal.returns-then-raise-clause-once
returns-then-raise-clause-once g c = subst IsOnce (ap (λ (l : Listed). l.entries) c.self.view_is) c.allows.ensures.once
