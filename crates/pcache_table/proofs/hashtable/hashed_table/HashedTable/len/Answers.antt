use Rattle.pcache_table.proofs.Words.{sym, ◌∙◌, ap}
use Rattle.std.specs.FinMap as map
use Rattle.pcache_table.proofs.HashMaps.{many}
use Rattle.pcache_table.proofs.hashtable.hashed_table.HashedTable.len.Goals as goal

pub returns-clause-value : goal.returns-clause-value
returns-clause-value g c = c.len.ensures.len ∙ sym (many c.self.inside.entries.entries c.len.ensures.unique) ∙ ap map.len c.self.view_is
