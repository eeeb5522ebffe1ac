-- A call that may have ended in several ways: what follows of each way follows of its result.
use Rattle.pcache_request.specs.WriteEnds.{EndsAs}
use Rattle.pcache_cache.proofs.Words.{inl, inr, Option, None, Some, Result, Ok, Err, ErrorType, PutEnd, PutOutcome, FinishReport, WriteEnd}
use Rattle.pcache_put.specs.Steps as put
use Rattle.pcache_put.specs.declared.report.PutEnd.TheVariants as put_end
use Rattle.pcache_put.specs.declared.report.PutOutcome.TheVariants as answer
use Rattle.pcache_request.specs.declared.cache.finish.WriteEnd.TheVariants as end

-- of the end of a write
pub each_end : {P Q : WriteEnd → Type 0} (result : Result (Option FinishReport) ErrorType) → ((how : WriteEnd) → P how → Q how) → EndsAs result P → EndsAs result Q
each_end (Ok None) then is = then end.Nothing is
each_end (Ok (Some f)) then is = then (end.Stored f) is
each_end (Err e) then (inl is) = inl (then (end.Dropped e) is)
each_end (Err e) then (inr is) = inr (then (end.Withdrawn e) is)

-- of the end of a put
pub each_put_end : {P Q : PutEnd → Type 0} (result : Result PutOutcome ErrorType) → ((how : PutEnd) → P how → Q how) → put.EndsAs result P → put.EndsAs result Q
each_put_end (Ok (answer.NotCached reason)) then is = then (put_end.NotCached reason) is
each_put_end (Ok (answer.Stored report)) then is = then (put_end.Stored report) is
each_put_end (Err e) then (inl is) = inl (then (put_end.Refused e) is)
each_put_end (Err e) then (inr (inl is)) = inr (inl (then (put_end.Dropped e) is))
each_put_end (Err e) then (inr (inr is)) = inr (inr (then (put_end.Withdrawn e) is))
