use Rattle.pcache_validation.proofs.Words.{refl}
use Rattle.pcache_validation.proofs.Updates.{updates}
use Rattle.pcache_validation.proofs.updating.updated.Goals as goal

pub returns-in-Ok-clause-ok : goal.returns-in-Ok-clause-ok
returns-in-Ok-clause-ok c =
    updates c.args.body c.args.new.now c.in_ok-brought.brought c.args.stored.now c.args.stored.now c.in-Ok.updated c.in_ok-brought.ensures.ok refl
    c.in-Ok.ensures.ok
