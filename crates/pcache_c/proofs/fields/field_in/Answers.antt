use Rattle.pcache_c.proofs.Words.{rules, Some, None}
use Rattle.pcache_c.proofs.Lines.{pair_shown}
use Rattle.pcache_c.proofs.fields.field_in.Goals as goal

pub returns-then-left-eq0 : goal.returns-then-left-eq0
returns-then-left-eq0 c = pair_shown c.args.fields.now c.args.index (Some (c.in-Some.field.0.now, c.in-Some.field.1.now)) (search rules)

pub returns : goal.returns
returns c = pair_shown c.args.fields.now c.args.index None (search rules)
