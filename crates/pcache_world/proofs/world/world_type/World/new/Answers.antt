use Rattle.pcache_world.proofs.Words.{ap, sym, reverse, only_loads}
use Rattle.pcache_world.proofs.PutSound.{puts-none}
use Rattle.pcache_world.proofs.Worlds.{sound-new}
use Rattle.pcache_world.proofs.world.world_type.World.new.Goals as goal

pub invariant_of-result : goal.invariant_of-result
invariant_of-result g c = (sound-new _ _ c.new.result.state c.new-2.result.table _ c.new-3.result.entries c.new-4.result.items c.new.ensures.state c.new-2.ensures.table c.new-3.ensures.empty c.new-4.ensures.items, sym (ap (λ xs. only_loads (reverse xs)) c.new-4.ensures.items), puts-none _ c.new-3.result.entries c.new-4.result.items c.new-3.ensures.empty c.new-4.ensures.items)
