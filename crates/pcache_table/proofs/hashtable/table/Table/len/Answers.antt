use Rattle.pcache_table.proofs.Words.{sym, ◌∙◌, ap, length}
use Rattle.std.specs.FinMap as map
use Rattle.pcache_table.proofs.TableMaps.{entries_of}
use Rattle.pcache_table.proofs.hashtable.table.Table.len.Goals as goal

pub returns-clause-value : goal.returns-clause-value
returns-clause-value g c = c.len.ensures.len ∙ ap length (sym (entries_of c.self.inside.tree.entries c.len.ensures.ordered)) ∙ sym (map.len-entries (map.from_entries c.self.inside.tree.entries)) ∙ ap map.len c.self.view_is
