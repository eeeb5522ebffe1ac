use Rattle.pcache_store.proofs.Words.{◌∙◌, ap}
use Rattle.std.specs.FinMap as map
use Rattle.pcache_store.proofs.SlotShards.{here}
use Rattle.pcache_store.proofs.memory.slot_table.SlotTable.get.Goals as goal

pub returns : goal.returns
returns c = c.get.ensures ∙ here c.self.inside.shards c.args.key c.index-shards-key.result c.self.invariant.long c.self.invariant.placed ∙ ap (λ m. map.get m c.args.key) c.self.view_is
