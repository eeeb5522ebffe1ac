use Rattle.pcache_meta.proofs.HeaderCuts.{begins_name}
use Rattle.pcache_meta.proofs.header_text.reader.field_of.Goals as goal

pub name_of-requires : goal.name_of-requires
name_of-requires c = begins_name c.args.text.now c.args.line.now c.in_ok-name.name.now c.in_ok-name.rest.now c.requires c.in_ok-name.ensures
