use Rattle.std.specs.Option.{option_copied}
use Rattle.pcache_put.proofs.Words.{sym, ap, ◌∙◌}
use Rattle.pcache_put.proofs.Declared.{declares_shown, declares_none}
use Rattle.pcache_put.proofs.policy.declared_length.Goals as goal

pub returns-in-Some : goal.returns-in-Some
returns-in-Some c = declares_shown _ _ _ _ _ _ c.headers.ensures c.in-Some.ensures.value c.as_bytes.ensures.value c.spelled_length.ensures

pub returns-in-None : goal.returns-in-None
returns-in-None c = declares_none _ _ _ c.headers.ensures (sym (ap option_copied c.in-None.is) ∙ c.get.ensures.value)
