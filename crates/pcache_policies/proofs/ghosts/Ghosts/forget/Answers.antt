use Rattle.pcache_policies.proofs.Words.{◌∙◌, ap, keys_of, Queue, forgotten}
use Rattle.pcache_policies.proofs.GhostKeys.{keys-rest}
use Rattle.pcache_policies.proofs.ghosts.Ghosts.forget.Goals as goal

pub returns : goal.returns
returns g c = ap (λ (q : Queue). keys_of q) c.remove.ensures.value ∙ keys-rest c.args.key.now c.self.inside.queue ∙ ap (forgotten c.args.key.now) c.self.view_is
