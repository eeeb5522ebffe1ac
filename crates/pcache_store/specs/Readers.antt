-- The meaning of the readers and handlers of the store in memory, and what that store promises of all its calls
-- (own).
use Rattle.std.specs.Prelude.{ℕ, Bool, true, false, Option, None, Some, cond}
use Rattle.pcache_meta.specs.Meta.{Meta}
use Rattle.pcache_store.specs.Store.{Reader, Whole, Part, Guarantees, write_read}
use Rattle.pcache_store.specs.declared.memory.hit.MemHitHandler.{MemHitHandler}
use Rattle.pcache_store.specs.declared.memory.hit.MemHitHandler.TheVariants.{Complete, Partial}

abbrev pub reader_of : MemHitHandler → Reader
reader_of (Complete h) = Whole h.id h.body h.start h.stop h.done
reader_of (Partial p) = Part p.write p.place

-- the slot that a reader of a write names, by which it finds the write at once
abbrev pub slot_named : MemHitHandler → Option ℕ
slot_named (Complete h) = None
slot_named (Partial p) = Some p.slot

-- a reader needs no store: it reads a complete body, whose bytes it has
abbrev pub needs_no_store : Reader → Bool
needs_no_store (Whole id body start stop done) = true
needs_no_store (Part n place) = false

-- what a look-up found, if that is a complete body
abbrev pub if_complete : Option (Meta × Reader) → Option (Meta × Reader)
if_complete None = None
if_complete (Some p) = cond (needs_no_store p.1) (Some p) None

-- the number of the write that a look-up found: the one in flight, or the one that stored the complete body
abbrev pub number_found : Option (Meta × Reader) → Option ℕ
number_found None = None
number_found (Some p) = write_read p.1

-- removals always succeed, and an entry has the number of its write
abbrev pub in_memory : Guarantees
in_memory = record { purges = true; numbers = true }
