use Rattle.pcache_control.proofs.Words.{◌≡◌, arith, inl, inr, cases_lt}
use Rattle.pcache_control.proofs.scan.next_start.Goals as goal

pub places-preserved : goal.places-preserved
places-preserved c = λ d s from_d below leads. elim (cases_lt d c.places.i) [
  | inl lt ↦ c.places.invariant d s from_d lt leads
  | inr ge ↦
      let same : d ≡ c.places.i = omega arith in
      c.in_default.ensures.none s (rw (← same) leads)
]
