use Rattle.pcache_validation.proofs.Words.{ap, ◌∙◌, bytes_of}
use Rattle.pcache_validation.proofs.Shown.{only_shown}
use Rattle.pcache_validation.proofs.fields.only.Goals as goal

pub returns : goal.returns
returns c = ap bytes_of c.only_value.ensures ∙ only_shown c.args.fields.now c.args.name.now
