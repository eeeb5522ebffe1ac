use Rattle.pcache_validation.proofs.Words.{ap, ◌∙◌, bytes_of}
use Rattle.pcache_validation.proofs.Shown.{first_shown}
use Rattle.pcache_validation.proofs.fields.first.Goals as goal

pub returns : goal.returns
returns c = ap bytes_of c.get.ensures.value ∙ first_shown c.args.fields.now c.args.name.now
