use Rattle.pcache_table.proofs.Words.{sym, ◌∙◌, ap}
use Rattle.std.specs.FinMap as map
use Rattle.pcache_table.proofs.TableMaps.{entries_of}
use Rattle.pcache_table.proofs.hashtable.table.Table.iter.Goals as goal

pub returns : goal.returns
returns g c = c.iter.ensures.rest ∙ sym (entries_of c.self.inside.tree.entries c.iter.ensures.ordered) ∙ ap map.entries c.self.view_is
