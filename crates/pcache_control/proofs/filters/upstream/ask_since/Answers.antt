use Rattle.pcache_control.proofs.Words.{codes}
use Rattle.pcache_control.proofs.Stored.{asks_since, nothing_stored}
use Rattle.pcache_control.proofs.filters.upstream.ask_since.Goals as goal

pub returns-clause-asks : goal.returns-clause-asks
returns-clause-asks c = asks_since c.copy_field.result c.args.headers.now c.copy_field.new.headers c.headers.result.now c.args.meta.now.header.fields c.headers.ensures c.copy_field.ensures.ok

pub returns-clause-nothing : goal.returns-clause-nothing
returns-clause-nothing c none = c.copy_field.ensures.nothing (nothing_stored c.headers.result.now c.args.meta.now.header.fields (codes "last-modified") c.headers.ensures none)
