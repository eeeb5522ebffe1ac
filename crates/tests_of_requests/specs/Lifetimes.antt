-- The default lifetimes of the responses of tests (own).
use Rattle.std.specs.Prelude.{◌≡◌, ℕ, ◌*◌, Option, Some, option_map}
use Rattle.std.specs.Duration.{as_nanos}
use Rattle.std.specs.declared.time.Duration.{Duration}

-- so many seconds, whatever the status
abbrev pub IsSeconds : ℕ → ℕ → Option Duration → Type 0
IsSeconds seconds status lifetime = option_map as_nanos lifetime ≡ Some (seconds * 1_000_000_000)
