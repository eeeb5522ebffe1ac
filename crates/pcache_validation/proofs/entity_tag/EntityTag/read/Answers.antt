use Rattle.pcache_validation.proofs.Words.{sym, ◌∙◌}
use Rattle.pcache_validation.proofs.TagsRead.{read_is_spelled, spelled_is_read}
use Rattle.pcache_validation.proofs.entity_tag.EntityTag.read.Goals as goal

pub returns-clause-grammar : goal.returns-clause-grammar
returns-clause-grammar c tag =
    (λ read. read_is_spelled c.args.bytes.now tag (sym c.read_tag.ensures ∙ read), λ spells. c.read_tag.ensures ∙ spelled_is_read c.args.bytes.now tag spells)
