-- How old a stored response is, for how long it is fresh, and whether it may answer a request (RFC 9111 sections 4, 4.1 and
-- 4.2). Moments are in nanoseconds, ages and lifetimes in seconds.
use Rattle.std.specs.Prelude.{ℕ, ◌/◌, Option, Some, None}
use Rattle.pcache_meta.specs.declared.header.RequestHeader.{RequestHeader}
use Rattle.pcache_http.specs.declared.control.ResponseControl.{ResponseControl}
use Rattle.pcache_http.specs.declared.lifetime.Lifetime.{Lifetime}
use Rattle.pcache_http.specs.declared.rules.Rules.{Rules}
use Rattle.pcache_http.specs.Age.{second, corrected_initial_age, current_age}
use Rattle.pcache_http.specs.Lifetime.{lifetime_of}
use Rattle.pcache_http.specs.Vary.{Selects}
use Rattle.pcache_validation.specs.Conditions.{SelectsRepresentation}
use Rattle.pcache_decisions.specs.declared.stored.StoredResponse.{StoredResponse}

-- RFC 9111, 4.2.3: how old it is at a moment; RFC 9111, 5.1: which is the Age to send
abbrev pub age_at : StoredResponse → ℕ → ℕ
age_at stored now =
    current_age (corrected_initial_age stored.head.now.headers stored.requested stored.received) stored.received now

-- RFC 9111, 4.2.1: its freshness lifetime
abbrev pub lifetime_in : Rules → ResponseControl → StoredResponse → Lifetime
lifetime_in rules said stored = lifetime_of rules said stored.head.now (stored.received / second)

-- RFC 9111, 4, MUST NOT: it is not reused unless its method allows that (what is stored answers GET and HEAD), and the
-- fields that its Vary nominates match
pub record MayAnswer (request : RequestHeader) (stored : StoredResponse) : Type 0 where
  pub method : SelectsRepresentation request.method
  pub selected : Selects stored.head.now.headers stored.original.now request.headers

-- nothing is stored that may answer the request
abbrev pub IsMissing : RequestHeader → Option StoredResponse → Type 0
IsMissing request None = Unit {0}
IsMissing request (Some stored) = ¬ (MayAnswer request stored)
