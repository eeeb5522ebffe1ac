use Rattle.pcache_table.proofs.Words.{sym, ◌∙◌, ap}
use Rattle.std.specs.FinMap as map
use Rattle.pcache_table.proofs.HashMaps.{found, taken}
use Rattle.pcache_table.proofs.hashtable.hashed_table.HashedTable.remove.Goals as goal

pub returns-clause-before : goal.returns-clause-before
returns-clause-before g c = c.remove.ensures.value ∙ sym (found c.self.inside.entries.entries c.args.number) ∙ ap (λ m. map.get m c.args.number) c.self.view_is

pub returns-clause-removed : goal.returns-clause-removed
returns-clause-removed g c = taken c.self.inside.entries.entries c.remove.new.self.entries c.args.number c.remove.ensures.updates.0 ∙ ap (λ m. map.remove m c.args.number) c.self.view_is
