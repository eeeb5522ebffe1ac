-- The stage of a put at its end, as the code keeps it (own).
use Rattle.pcache_base.specs.declared.error.ErrorType.TheVariants.{InternalError}
use Rattle.pcache_put.specs.declared.report.PutEnd.{PutEnd}
use Rattle.pcache_put.specs.declared.report.PutEnd.TheVariants as end
use Rattle.pcache_put.specs.declared.stage.Stage.{Stage}
use Rattle.pcache_put.specs.declared.stage.Stage.TheVariants as stage

-- after a body was stored, another call is a mistake of the caller
abbrev pub stage_left : {M : Type 0} → PutEnd → Stage M
stage_left (end.NotCached reason) = stage.Declined reason
stage_left (end.Stored f) = stage.Over InternalError
stage_left (end.Refused e) = stage.Over e
stage_left (end.Dropped e) = stage.Over e
stage_left (end.Withdrawn e) = stage.Over e
