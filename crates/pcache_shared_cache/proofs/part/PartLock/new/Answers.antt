use Rattle.pcache_shared_cache.proofs.Words.{[], ◌∷◌, List, ap, sym, ◌∙◌, Parts, Placed, first_of}
use Rattle.pcache_shared_cache.proofs.part.PartLock.new.Goals as goal

pub invariant_of-result : goal.invariant_of-result
invariant_of-result g c =
    let policy = sym c.policy-policy.ensures in
    let weight = sym c.limit-limit.ensures in
    let watermark = sym c.watermark-watermark.ensures in
    let log = ap (λ (v : Placed). v.log) (c.see.ensures.seen ∙ c.new-log.ensures) in (
      log ∙ ap (λ (l : List Parts). first_of l ∷ []) (sym log),
      ap (λ (l : List Parts). (first_of l).limits) log ∙ ap (λ (p : Parts). p.limits) c.with_weighing-cache.ensures ∙ (λ i. record { weight = weight i; watermark = watermark i; policy = policy i }),
    )
