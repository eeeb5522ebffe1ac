use Rattle.std.specs.BTreeMap.{btree_map_len}
use Rattle.pcache_world.proofs.world.world_type.World.drop.Given as goal

abbrev pub decreases-loop-number : goal.decreases-loop-number
decreases-loop-number g l = btree_map_len l.requests
