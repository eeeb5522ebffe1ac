-- An error after which the stored response may not be served is a response as any other.
use Rattle.std.proofs.Common.{◌≡◌, ℕ, Bool, false, Result, Ok, Err, IfOk, ◌∙◌}
use Rattle.pcache_meta.specs.declared.header.RequestHeader.{RequestHeader}
use Rattle.pcache_meta.specs.declared.header.ResponseHeader.{ResponseHeader}
use Rattle.pcache_http.specs.declared.rules.Rules.{Rules}
use Rattle.pcache_decisions.specs.declared.responses.Outcome.{Outcome}
use Rattle.pcache_decisions.specs.declared.responses.Outcome.TheVariants.{FetchAgain, Freshen, Invalidate, MarkStale, PassOn, ServeStale, Store, Update}
use Rattle.pcache_decisions.specs.declared.stored.StoredResponse.{StoredResponse}
use Rattle.pcache_decisions.specs.Responses.{ByError, DecidesStoring, FollowsError}

does_not : (rules : Rules) (request : RequestHeader) (stored : StoredResponse) (now : ℕ) (may : Bool) → may ≡ false → FollowsError rules request stored now may → FollowsError rules request stored now false
does_not rules request stored now may e f = record {
  asked = f.asked;
  said = f.said;
  says_asked = f.says_asked;
  says_said = f.says_said;
  is = f.is ∙ e;
}

as_any_other : (rules : Rules) (request : RequestHeader) (stored : StoredResponse) (response : ResponseHeader) (received : ℕ) (outcome : Outcome)
    → FollowsError rules request stored received false → DecidesStoring rules request response received outcome → ByError rules request stored response received outcome
as_any_other rules request stored response received (Store kept) f d = (f, d)
as_any_other rules request stored response received (PassOn reason) f d = (f, d)
as_any_other rules request stored response received (Freshen freshened) f d = absurd d.decided
as_any_other rules request stored response received FetchAgain f d = absurd d.decided
as_any_other rules request stored response received (ServeStale stale) f d = absurd d.decided
as_any_other rules request stored response received Invalidate f d = absurd d.decided
as_any_other rules request stored response received (Update kept) f d = absurd d.decided
as_any_other rules request stored response received MarkStale f d = absurd d.decided

module _ {E : Type 0} where
  pub as_any_response : (rules : Rules) (request : RequestHeader) (stored : StoredResponse) (response : ResponseHeader) (received : ℕ) (result : Result Outcome E) (may : Bool)
      → may ≡ false → FollowsError rules request stored received may → IfOk result (DecidesStoring rules request response received)
      → IfOk result (ByError rules request stored response received)
  as_any_response rules request stored response received (Ok outcome) may e f d =
      as_any_other rules request stored response received outcome (does_not rules request stored received may e f) d
  as_any_response rules request stored response received (Err error) may e f d = tt
