use Rattle.pcache_policies.specs.Ring.{chooses}
use Rattle.pcache_policies.proofs.Words.{refl}
use Rattle.pcache_policies.proofs.ring.Ring.choose.Goals as goal

pub returns-clause-ok : goal.returns-clause-ok
returns-clause-ok g c = chooses c.args.key c.args.seen refl c.in_ok-choose_ahead.ensures.ahead c.requires.idle c.in_ok-choose_ahead.ensures.others.0 c.in_ok-choose_ahead.ensures.others.1
