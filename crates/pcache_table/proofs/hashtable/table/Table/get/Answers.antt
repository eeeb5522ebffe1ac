use Rattle.pcache_table.proofs.Words.{sym, ◌∙◌, ap}
use Rattle.std.specs.FinMap as map
use Rattle.pcache_table.proofs.TableMaps.{got}
use Rattle.pcache_table.proofs.hashtable.table.Table.get.Goals as goal

pub returns : goal.returns
returns g c = c.get.ensures.value ∙ sym (got c.self.inside.tree.entries c.args.number) ∙ ap (λ m. map.get m c.args.number) c.self.view_is
