use Rattle.pcache_validation.proofs.Elements.{leads_first}
use Rattle.pcache_validation.proofs.lists.separator.Goals as goal

pub loop-at-init : goal.loop-at-init
loop-at-init c = leads_first c.args.bytes.now
