use Rattle.pcache_control.specs.Control.{directive_given}
use Rattle.pcache_control.proofs.Words.{ap, ◌∙◌, option_map, value_of}
use Rattle.pcache_control.proofs.Found.{lookup_is}
use Rattle.pcache_control.proofs.cache_control.CacheControl.find.Goals as goal

pub returns : goal.returns
unfolding directive_given
returns c = ap (option_map value_of) (c.get.ensures.value ∙ lookup_is c.args.self.now.directives.entries c.args.key.now)
