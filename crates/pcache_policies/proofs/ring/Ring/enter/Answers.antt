use Rattle.pcache_policies.specs.Ring.{left_of}
use Rattle.pcache_policies.specs.Sieve.{Sieve}
use Rattle.pcache_policies.proofs.Words.{◌≡◌, ◌∷◌, ◌∙◌, ap, unused, sieve}
use Rattle.pcache_policies.proofs.ring.Ring.enter.Goals as goal

pub add_ahead-requires : goal.add_ahead-requires
add_ahead-requires g c = c.face.ensures.absent c.args.item c.requires

pub returns-clause-ok : goal.returns-clause-ok
returns-clause-ok g c = ap left_of c.in_ok-add_ahead.ensures.ok ∙ ap (λ (at : Sieve). sieve ((c.args.item, unused c.args.size) ∷ at.ahead) at.passed) c.face.ensures.hand
