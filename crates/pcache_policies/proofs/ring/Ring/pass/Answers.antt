use Rattle.pcache_policies.specs.Ring.{clears}
use Rattle.pcache_policies.proofs.Words.{refl}
use Rattle.pcache_policies.proofs.ring.Ring.pass.Goals as goal

pub returns-clause-ok : goal.returns-clause-ok
returns-clause-ok g c = clears c.args.key c.args.seen refl c.in_ok-pass_unused.ensures.ahead c.requires.used c.in_ok-pass_unused.ensures.others.0 c.in_ok-pass_unused.ensures.others.1
