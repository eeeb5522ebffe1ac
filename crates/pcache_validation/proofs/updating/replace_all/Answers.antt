use Rattle.pcache_validation.proofs.Words.{subst}
use Rattle.pcache_validation.proofs.Updates.{Replacing, all_replaced}
use Rattle.pcache_validation.proofs.updating.replace_all.Goals as goal

pub returns-clause-ok : goal.returns-clause-ok
returns-clause-ok c =
    all_replaced c.args.brought.now c.args.updated.now c.names.updated c.keys_len-names.ensures.valid
    (subst (Replacing c.args.brought.now c.args.updated.now c.names.updated) c.in-None.ensures.steps.0 c.names.invariant)
