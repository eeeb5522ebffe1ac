use Rattle.pcache_control.proofs.Words.{◌≤◌, ◌<◌, ℕ, Leads}
use Rattle.pcache_control.proofs.scan.next_start.Given as goal

abbrev pub invariant-places : goal.invariant-places
invariant-places l = (d s : ℕ) → l.from ≤ d → d < l.i → Leads l.line d s → ⊥
