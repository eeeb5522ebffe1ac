-- What an admission policy decides (own).
use Rattle.std.specs.Prelude.{ℕ, Bool, true, false}
use Rattle.pcache_predict.specs.declared.admission.Decision.{Decision}
use Rattle.pcache_predict.specs.declared.admission.Decision.TheVariants.{Defer, Ready}

abbrev pub observed_of : Decision → ℕ
observed_of (Defer n) = n
observed_of (Ready n) = n

abbrev pub is_defer : Decision → Bool
is_defer (Defer n) = true
is_defer (Ready n) = false
