use Rattle.pcache_table.proofs.Words.{sym, ◌∙◌, ap}
use Rattle.std.specs.FinMap as map
use Rattle.pcache_table.proofs.HashMaps.{found}
use Rattle.pcache_table.proofs.hashtable.hashed_table.HashedTable.get.Goals as goal

pub returns : goal.returns
returns g c = c.get.ensures.value ∙ sym (found c.self.inside.entries.entries c.args.number) ∙ ap (λ m. map.get m c.args.number) c.self.view_is
