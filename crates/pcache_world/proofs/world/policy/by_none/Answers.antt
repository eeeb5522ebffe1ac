use Rattle.std.specs.declared.time.Duration.{Duration}
use Rattle.pcache_put.proofs.Answered.{answered-more}
use Rattle.pcache_world.proofs.Words.{◌≡◌, ℕ, Option, None}
use Rattle.pcache_world.proofs.world.policy.by_none.Goals as goal

pub returns-clause-says : goal.returns-clause-says
returns-clause-says g c = answered-more c.default_cacheable.result _ (0, 0) _ (λ (s : ℕ) (d : Option Duration). d ≡ None) c.args.header c.args.now (λ i. (c.requires.revalidating i, c.requires.erring i)) c.default_cacheable.ensures.says c.requires.none
