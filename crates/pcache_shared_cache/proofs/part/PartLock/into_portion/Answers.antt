use Rattle.pcache_shared_cache.proofs.Words.{rules, ◌≡◌, ◌∙◌, refl, sym}
use Rattle.pcache_shared_cache.proofs.part.PartLock.into_portion.Goals as goal

pub returns-then-has_limits : goal.returns-then-has_limits
returns-then-has_limits g c =
    let e = c.into_manager-portion.ensures in
    let has = c.if-has_limits.ensures.0 refl in
    let limits : c.into_manager-portion.result.limits ≡ c.args.self.first.limits = search rules in
    (c.into_cache-cache.result, sym e.limits ∙ limits, c.is_kept.ensures, λ i. record { tracked = e.tracked i; limits = e.limits i; evicted = e.evicted i })
