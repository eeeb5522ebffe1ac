-- What the entry of a body weighs (own).
use Rattle.std.specs.Prelude.{ℕ, ◌+◌, ◌-◌, ◌^◌, Option, Some, None, min}
use Rattle.std.specs.FinMap.{get}
use Rattle.pcache_base.specs.Totals.{total, share}
use Rattle.pcache_request.specs.Replacing.{weighed_each}
use Rattle.pcache_store.specs.Finishes.{created}
use Rattle.pcache_store.specs.Kept.{lengths, write_lengths}
use Rattle.pcache_store.specs.Store.{Slot, Store, Stored, Written}
use Rattle.pcache_store.specs.declared.storage.MissFinishType.{MissFinishType}
use Rattle.pcache_store.specs.declared.storage.MissFinishType.TheVariants.{Created}
use Rattle.pcache_cache.specs.declared.weighing.Weighing.{Weighing}
use Rattle.pcache_cache.specs.declared.weighing.Weighing.TheVariants.{Bodies, Entries}

-- what is kept for an entry beside its body and the text of its head, in bytes: at most so much, as measured
abbrev pub overhead : ℕ
overhead = 512

-- the weight of the entry of a body of this length, whose head has a text of this length: what comes on top of the body counts as
-- far as 64 bits go
abbrev pub weight_of : Weighing → ℕ × ℕ → ℕ
weight_of Bodies p = p.0
weight_of Entries p = p.0 + min (p.1 + overhead) (2 ^ 64 - 1 - p.0)

-- of a complete body
abbrev pub body_weight : Weighing → Stored → ℕ
body_weight how b = weight_of how (lengths b)

-- of a write, when it ends
abbrev pub write_weight : Weighing → Option Written → ℕ
write_weight how w = weight_of how (write_lengths w)

-- the same of the write of a request or a put, if it has one
abbrev pub ending_weight : Weighing → Store → Option ℕ → ℕ
ending_weight how s None = 0
ending_weight how s (Some w) = write_weight how (get s.writes w)

-- the length of the text of the head with a write, if there is a write
abbrev pub written_head : Store → Option ℕ → Option ℕ
written_head s None = None
written_head s (Some w) = Some (write_lengths (get s.writes w)).1

-- with which its entry is admitted
abbrev pub entered : Weighing → Store → Option ℕ → MissFinishType
entered how s w = Created (ending_weight how s w)

-- the same in place of what the store returns at the end of a write
abbrev pub entered_each : Weighing → Store → Option ℕ → ℕ → MissFinishType
entered_each how s w = weighed_each (Some (ending_weight how s w)) (created s)

-- the weight of what is complete under a key
abbrev pub slot_weight : Weighing → Slot → ℕ
slot_weight how x = share (body_weight how) x.body

-- the sum of the weights of all complete bodies
abbrev pub stored_weight : Weighing → Store → ℕ
stored_weight how s = total (slot_weight how) s.slots
