-- The content of a handle: an object in a box to which a pointer points, or nothing (own).
use Rattle.std.specs.Prelude.{Option, None, Some}
use Rattle.std.specs.Box.Ownership.{box_owns}
use base.Fml.{Fml, ftrue}
use denote.RawPtr.{Ptr}
use Rattle.std.specs.contracts.impls.GlobalAllocator.TheImpl.{ghosts}
use Rattle.pcache_c.specs.declared.object.Object.{Object}
use Rattle.pcache_c.specs.contracts.object.Object.{the_row}

-- The memory at the pointer: that of the object with its block, or none (own).
abbrev pub object_at : Ptr → Option Object → Fml
object_at p None = ftrue
object_at p (Some v) = box_owns (ghosts.dealloc_token (record { memory = record { seal = tt } })) the_row p v
