use Rattle.pcache_c.proofs.Words.{rules, Some, None, lowercase}
use Rattle.pcache_c.proofs.Lines.{value_shown}
use Rattle.pcache_c.proofs.fields.value_in.Goals as goal

pub returns-then-left-eq0 : goal.returns-then-left-eq0
returns-then-left-eq0 c = value_shown c.args.fields.now (lowercase c.args.name.now) c.args.index (Some c.in-Some.value.now) (search rules)

pub returns : goal.returns
returns c = value_shown c.args.fields.now (lowercase c.args.name.now) c.args.index None (search rules)
