-- What a keeper and a seen log own: the latest value of a log that only grows, and a value that it has reached (own).
use Rattle.std.specs.Prelude.{ℕ, List, map}
use base.Fraction.{full_share}
use base.Fml.{Fml}
use base.Growing.{latest, at_least}
use base.Stored.{Gv}
use Rattle.logbook.specs.Kept.{logs}

abbrev pub top : {E : Type 0} → (E → Gv) → ℕ → List E → Fml
top code η log = latest logs full_share η (map code log)

abbrev pub had : {E : Type 0} → (E → Gv) → ℕ → List E → Fml
had code η log = at_least logs η (map code log)
