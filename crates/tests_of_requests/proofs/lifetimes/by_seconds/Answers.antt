use Rattle.tests_of_requests.specs.Lifetimes.{IsSeconds}
use Rattle.tests_of_requests.proofs.Says.{answered-more}
use Rattle.tests_of_requests.proofs.lifetimes.by_seconds.Goals as goal

pub returns-clause-says : goal.returns-clause-says
returns-clause-says g c = answered-more c.default_cacheable.result _ (0, 0) _ (IsSeconds c.args.seconds) c.args.header c.args.now (λ i. (c.requires.revalidating i, c.requires.erring i)) c.default_cacheable.ensures.says c.requires.lasts
