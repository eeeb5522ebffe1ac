use Rattle.std.proofs.lemmas.Str.{IsUtf8-from_ascii}
use Rattle.pcache_response.proofs.Lengths.{numeral_is_ascii}
use Rattle.pcache_response.proofs.response_parse.spelled_length.Goals as goal

pub returns-in_default : goal.returns-in_default
returns-in_default c = λ h. c.in_default.ensures.cases.0 (IsUtf8-from_ascii c.args.value.now (numeral_is_ascii c.args.value.now h.0))
