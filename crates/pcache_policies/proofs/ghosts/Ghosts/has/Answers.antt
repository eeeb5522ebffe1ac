use Rattle.pcache_policies.proofs.Words.{◌∙◌, ap, is_some, is_ghost}
use Rattle.pcache_policies.proofs.GhostKeys.{is_key}
use Rattle.pcache_policies.proofs.ghosts.Ghosts.has.Goals as goal

pub returns : goal.returns
returns g c = c.is_some.ensures ∙ ap is_some c.get.ensures.value ∙ is_key c.args.key.now c.self.inside.queue ∙ ap (is_ghost c.args.key.now) c.self.view_is
