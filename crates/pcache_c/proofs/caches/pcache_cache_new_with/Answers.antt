use Rattle.pcache_c.specs.Caches.{MakesCache}
use Rattle.pcache_c.specs.Codes.{hash_at}
use Rattle.pcache_c.proofs.Words.{refl, subst, ◌*◌, OnGood, watermark_at, IsSame}
use Rattle.pcache_c.proofs.Changed.{good}
use Rattle.pcache_c.proofs.caches.pcache_cache_new_with.Goals as goal

pub returns : goal.returns
returns c =
    let r = c.cache_weighing in (
      c.policy_of.result,
      c.policy_of.ensures,
      good c.policy_of.result c.in-Some.policy _ _ _ _ c.in-Some.is refl
          (subst (λ w. OnGood (hash_at c.args.seed.now) r.result (IsSame c.args.cache.now r.new.cache)
          (λ s. MakesCache c.in-Some.policy w c.args.limit (watermark_at c.args.watermark) (c.args.age_timeout_millis * 1000000) c.args.cache.now r.new.cache r.result)) c.weighing_of-weighing.ensures r.ensures),
    )
