use Rattle.std.proofs.lemmas.Str.{is_utf8-from_IsUtf8}
use Rattle.pcache_control.proofs.Text.{not_text}
use Rattle.pcache_control.proofs.cache_control.key_of.Goals as goal

pub returns-in_default-clause-ok : goal.returns-in_default-clause-ok
returns-in_default-clause-ok c = not_text c.args.name.now c.in_default.ensures.cases.0

pub returns-clause-text : goal.returns-clause-text
returns-clause-text c = is_utf8-from_IsUtf8 c.args.name.now c.in-Ok.ensures.cases.1
