use Rattle.pcache_put.proofs.Answered.{answered-more}
use Rattle.cache_script.specs.Lifetimes.{IsOneSecond}
use Rattle.cache_script.proofs.policy.by_one_second.Goals as goal

pub returns-clause-says : goal.returns-clause-says
returns-clause-says g c = answered-more c.default_cacheable.result _ (0, 0) _ IsOneSecond c.args.header c.args.now (λ i. (c.requires.revalidating i, c.requires.erring i)) c.default_cacheable.ensures.says c.requires.one
