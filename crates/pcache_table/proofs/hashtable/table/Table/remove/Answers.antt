use Rattle.pcache_table.proofs.Words.{sym, ◌∙◌, ap}
use Rattle.std.specs.FinMap as map
use Rattle.pcache_table.proofs.TableMaps.{got, removed}
use Rattle.pcache_table.proofs.hashtable.table.Table.remove.Goals as goal

pub returns-clause-before : goal.returns-clause-before
returns-clause-before g c = c.remove.ensures.value ∙ sym (got c.self.inside.tree.entries c.args.number) ∙ ap (λ m. map.get m c.args.number) c.self.view_is

pub returns-clause-removed : goal.returns-clause-removed
returns-clause-removed g c = removed c.self.inside.tree.entries c.remove.new.self.entries c.args.number c.remove.ensures.updates.0 ∙ ap (λ m. map.remove m c.args.number) c.self.view_is
