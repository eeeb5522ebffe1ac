-- Which marks are remembered (own).
use Rattle.std.specs.Prelude.{◌≡◌, ℕ, Bool, true, false, not, List, Option, Some}
use Rattle.std.specs.Borrow.{Bor}
use Rattle.pcache_base.specs.declared.reason.NoCacheReason.{NoCacheReason}
use Rattle.pcache_base.specs.declared.reason.NoCacheReason.TheVariants as reason

-- whether a mark with this reason counts; a custom reason counts unless it is skipped
abbrev pub counts : NoCacheReason → Bool → Bool
counts reason.OriginNotCache skipped = true
counts reason.ResponseTooLarge skipped = true
counts (reason.Custom text) skipped = not skipped
counts other skipped = false

-- whether the predicate skips this reason: for a custom one what it returns, for others no; `post` relates the calls
-- of the predicate to their results
abbrev pub Skips : {F : Type 0} → (F → Bor (List ℕ) → Bool → Type 0) → Option F → NoCacheReason → Bool → Type 0
Skips post (Some f) (reason.Custom text) skipped = post f text skipped
Skips post predicate other skipped = skipped ≡ false
