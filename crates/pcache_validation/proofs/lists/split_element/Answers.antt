use Rattle.std.proofs.lemmas.List.{take_rest}
use Rattle.pcache_validation.proofs.Words.{◌∙◌}
use Rattle.pcache_validation.proofs.Elements.{elements_at, elements_whole}
use Rattle.pcache_validation.proofs.lists.split_element.Goals as goal

pub returns-in-Some : goal.returns-in-Some
returns-in-Some c = elements_at c.args.bytes.now c.in-Some.at c.in-Some.ensures.parts ∙ simp take_rest

pub returns-in-None : goal.returns-in-None
returns-in-None c = elements_whole c.args.bytes.now c.in-None.ensures.parts
