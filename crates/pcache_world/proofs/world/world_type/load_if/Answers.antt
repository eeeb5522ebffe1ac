use Rattle.pcache_world.proofs.Words.{Err, ap, sym, subst, ◌∙◌, HasCause}
use Rattle.pcache_history.specs.declared.call.Reply.TheVariants as R
use Rattle.pcache_world.proofs.FilesCalls.{has-cause}
use Rattle.pcache_world.proofs.world.world_type.load_if.Goals as goal
use Rattle.pcache_world.proofs.world.world_type.load_if.Goals.{in-Ok, in-Err}

pub returns-clause-cause : goal.returns-clause-cause
returns-clause-cause g c = elim c.match-load.branch [
  | in-Ok w ↦ subst (HasCause _ _) (sym w.result-is) tt
  | in-Err w ↦ subst (HasCause _ _) (sym (w.result-is ∙ ap R.Refused w.etype.ensures))
      (has-cause _ _ w.in-Err.refused (λ is. c.load.ensures.unavailable (w.in-Err.is ∙ ap Err is)) (λ is. c.load.ensures.foreign (w.in-Err.is ∙ ap Err is)))
]
