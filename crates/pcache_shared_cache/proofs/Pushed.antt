-- Puts of a part: each call led on.
use Rattle.pcache_cache.proofs.Adding.{ends_put_keeps, put_keeps}
use Rattle.pcache_cache.specs.Feeding.{FinishesPut, TakesIn}
use Rattle.pcache_cache.specs.OwnPut.{put_past}
use Rattle.pcache_put.specs.Puts.{Says}
use Rattle.pcache_put.specs.Steps.{EndsAs}
use Rattle.pcache_put.specs.declared.report.PutEnd.{PutEnd}
use Rattle.pcache_put.specs.declared.report.PutOutcome.{PutOutcome}
use Rattle.pcache_shared_cache.proofs.Words.{ℕ, inl, inr, Option, Result, Ok, Err, Some, ap, ErrorType, NoCacheReason, dropped_keeps, grew_by, grew_not, grew_same, kept_by_notes, DropsLeft, Parts, Piece, Put, dropped_past, in_memory, Leads}
use Rattle.pcache_put.specs.declared.report.PutEnd.TheVariants as put_end
use Rattle.pcache_put.specs.declared.report.PutOutcome.TheVariants as answer

-- a piece led on
pub piece_taken : {C : Type 0} {result : Result (Option NoCacheReason) ErrorType} {says : Says} {x y : Put C} {piece : Piece} {p q : Parts} → TakesIn result says x y piece p q → Leads p q
piece_taken {C} {result} {says} {x} {y} {piece} {p} {q} row = record {
  limits = ap (λ (r : Parts). r.limits) row.rest;
  weighing = ap (λ (r : Parts). r.weighing) row.rest;
  age = ap (λ (r : Parts). r.locks.age_timeout) row.rest;
  past = grew_by (put_past x row.step.0 result p.store) p.past q.past (put_keeps (kept_by_notes p.past) x row.step.0 result p.store) row.step.3;
  deeds = grew_same p.deeds q.deeds (ap (λ (r : Parts). r.deeds) row.rest);
}

-- what holds of each way in which a put can have ended
put_any : {X : Type 0} {P : PutEnd → Type 0} (result : Result PutOutcome ErrorType) → EndsAs result P → ((how : PutEnd) → P how → X) → X
put_any (Ok (answer.NotCached reason)) is so = so (put_end.NotCached reason) is
put_any (Ok (answer.Stored report)) is so = so (put_end.Stored report) is
put_any (Err e) (inl is) so = so (put_end.Refused e) is
put_any (Err e) (inr (inl is)) so = so (put_end.Dropped e) is
put_any (Err e) (inr (inr is)) so = so (put_end.Withdrawn e) is

-- the end of a put led on
pub put_ended : {C : Type 0} {result : Result PutOutcome ErrorType} {says : Says} {x y : Put C} {p q : Parts} → FinishesPut result says x y p q → Leads p q
put_ended {C} {result} {says} {x} {y} {p} {q} row = record {
  limits = ap (λ (r : Parts). r.limits) row.rest;
  weighing = ap (λ (r : Parts). r.weighing) row.rest;
  age = ap (λ (r : Parts). r.locks.age_timeout) row.rest;
  past = put_any result row.ended (λ how is. ends_put_keeps (kept_by_notes p.past) in_memory x.key x.stage how (Some p.past) (Some q.past) is.1 (grew_not p.past));
  deeds = grew_same p.deeds q.deeds (ap (λ (r : Parts). r.deeds) row.rest);
}

-- a write that an ended put left was dropped
pub left_dropped : {w : Option ℕ} {p q : Parts} → DropsLeft w p q → Leads p q
left_dropped {w} {p} {q} row = record {
  limits = ap (λ (r : Parts). r.limits) row.rest;
  weighing = ap (λ (r : Parts). r.weighing) row.rest;
  age = ap (λ (r : Parts). r.locks.age_timeout) row.rest;
  past = grew_by (dropped_past w) p.past q.past (dropped_keeps (kept_by_notes p.past) w) row.past;
  deeds = grew_same p.deeds q.deeds (ap (λ (r : Parts). r.deeds) row.rest);
}
