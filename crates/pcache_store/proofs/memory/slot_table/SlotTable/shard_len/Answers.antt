use Rattle.pcache_store.proofs.Words.{◌∙◌, ap, part_of}
use Rattle.std.specs.FinMap as map
use Rattle.pcache_store.proofs.SlotShards.{shard-part}
use Rattle.pcache_store.proofs.memory.slot_table.SlotTable.shard_len.Goals as goal

pub returns : goal.returns
returns c = c.len.ensures.value ∙ ap map.len (shard-part c.self.inside.shards 0 c.index-shards-shard.result c.self.invariant.long c.self.invariant.placed c.args.shard c.index-shards-shard.result c.requires ∙ ap (part_of 16 c.args.shard) c.self.view_is)
