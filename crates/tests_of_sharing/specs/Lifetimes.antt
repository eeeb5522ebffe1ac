-- The default lifetimes of the responses of tests (own).
use Rattle.std.specs.Prelude.{◌≡◌, ℕ, Option, Some, option_map}
use Rattle.std.specs.Duration.{as_nanos}
use Rattle.std.specs.declared.time.Duration.{Duration}

-- a second, whatever the status
abbrev pub IsOneSecond : ℕ → Option Duration → Type 0
IsOneSecond status lifetime = option_map as_nanos lifetime ≡ Some 1_000_000_000
