-- The stage of a put, as the code keeps it (own).
use Rattle.std.specs.Prelude.{ℕ, Option}
use Rattle.pcache_put.specs.State.{Stage, InHead, InBody, HasDeclined, IsOver}
use Rattle.pcache_put.specs.declared.stage.Stage.{Stage as Kept}
use Rattle.pcache_put.specs.declared.stage.Stage.TheVariants as stage

-- the stage, given the number of a handler's write and that of its entry
abbrev pub stage_of : {M : Type 0} → (M → ℕ) → (M → Option ℕ) → Kept M → Stage
stage_of write entry stage.Head = InHead
stage_of write entry (stage.Body f) = InBody (write f.writer) (entry f.writer) f.fresh_until
stage_of write entry (stage.Declined reason) = HasDeclined reason
stage_of write entry (stage.Over kind) = IsOver kind
