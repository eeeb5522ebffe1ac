-- The status whose default lifetime a response gets (own).
use Rattle.std.specs.Prelude.{ℕ, ◌==◌, if◌then◌else◌}

-- a 304 confirms the response that it revalidates, so it gets the lifetime of 200
abbrev pub asked_status : ℕ → ℕ
asked_status status = if status == 304 then 200 else status
