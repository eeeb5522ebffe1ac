use Rattle.std.proofs.Common.{ap, ◌∙◌}
use Rattle.pcache_predict.specs.Lists.{seen}
use Rattle.pcache_predict.proofs.Lists.{new-kept, seen-new}
use Rattle.pcache_predict.proofs.marked_keys.MarkedKeys.new.Goals as goal

pub invariant_of-result : goal.invariant_of-result
invariant_of-result g c = new-kept g.row.N c.args.capacity c.in_ok-new.field-0 c.requires c.in_ok-new.ensures.made

pub returns : goal.returns
returns g c = record { ok = ap seen c.in_ok-new.ensures.made ∙ seen-new g.row.N c.args.capacity }
