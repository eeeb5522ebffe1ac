use Rattle.pcache_store.specs.Tag.{number_of_tag}
use Rattle.pcache_store.proofs.Words.{ap, ◌∙◌}
use Rattle.pcache_store.proofs.Tags.{tag_names}
use Rattle.pcache_store.proofs.memory.miss.MemMissHandler.new.Goals as goal

pub invariant_of-result : goal.invariant_of-result
invariant_of-result c = record { named = ap number_of_tag c.from.ensures ∙ tag_names c.args.number c.ranges.number.fits }
