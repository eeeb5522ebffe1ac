-- What becomes of a request (RFC 9111 sections 4, 4.2.4, 4.3.1, 4.3.2 and 5.2.1.7): the table of what is decided.
use Rattle.std.specs.Prelude.{◌≡◌, ℕ}
use Rattle.std.specs.Option.{option_copied}
use Rattle.pcache_meta.specs.Header.{shown_fields}
use Rattle.pcache_meta.specs.declared.header.RequestHeader.{RequestHeader}
use Rattle.pcache_meta.specs.declared.header.ResponseHeader.{ResponseHeader}
use Rattle.pcache_http.specs.declared.control.RequestControl.{RequestControl}
use Rattle.pcache_http.specs.declared.control.ResponseControl.{ResponseControl}
use Rattle.pcache_http.specs.declared.rules.Rules.{Rules}
use Rattle.pcache_http.specs.declared.serving.Missing.TheVariants as missing
use Rattle.pcache_http.specs.declared.serving.Serving.{Serving}
use Rattle.pcache_http.specs.declared.serving.Serving.TheVariants as serving
use Rattle.pcache_http.specs.Control.{SaysOfRequest, SaysOfResponse}
use Rattle.pcache_http.specs.Serving.{Serves, missing_for}
use Rattle.pcache_validation.specs.Asking.{sent_since, sent_tag}
use Rattle.pcache_validation.specs.Conditions.{GetsNotModified, ServesRange}
use Rattle.pcache_validation.specs.Fields.{bytes_of}
use Rattle.pcache_decisions.specs.declared.requests.Answer.{Answer}
use Rattle.pcache_decisions.specs.declared.requests.Answer.TheVariants.{Full, NotModified, Range}
use Rattle.pcache_decisions.specs.declared.requests.Decision.{Decision}
use Rattle.pcache_decisions.specs.declared.requests.Decision.TheVariants.{Fetch, OnlyIfCached504, Serve, Validate}
use Rattle.pcache_decisions.specs.declared.requests.Reuse.{Reuse}
use Rattle.pcache_decisions.specs.declared.requests.Reuse.TheVariants.{AcceptedStale, Fresh, WhileRevalidating}
use Rattle.pcache_decisions.specs.declared.requests.Served.{Served}
use Rattle.pcache_decisions.specs.declared.requests.Validation.{Validation}
use Rattle.pcache_decisions.specs.declared.stored.StoredResponse.{StoredResponse}
use Rattle.pcache_decisions.specs.Stored.{age_at, lifetime_in}

-- ---- what is served of a stored response

-- RFC 9111, 4.3.2: the client's own condition is false for a response with this head, which was received at this moment
abbrev pub IsNotModified : RequestHeader → ResponseHeader → ℕ → Type 0
IsNotModified request head received =
    GetsNotModified request.method (shown_fields request.headers) head.status (shown_fields head.headers) received

-- RFC 9110, 14.2 and 13.1.5: the range that is asked for
abbrev pub IsRange : RequestHeader → ResponseHeader → Type 0
IsRange request head = ServesRange request.method (shown_fields request.headers) (shown_fields head.headers)

-- RFC 9110, 13.2.2: the conditions decide before the range does
abbrev pub GivesAnswer : RequestHeader → ResponseHeader → ℕ → Answer → Type 0
GivesAnswer request head received NotModified = IsNotModified request head received
GivesAnswer request head received Range = (¬ (IsNotModified request head received)) × IsRange request head
GivesAnswer request head received Full = (¬ (IsNotModified request head received)) × (¬ (IsRange request head))

-- ---- by a stored response that may answer

-- RFC 9111, 4 and 4.2.4: what becomes of the stored response at this moment
abbrev pub ServesAt : Rules → RequestControl → ResponseControl → StoredResponse → ℕ → Serving → Type 0
ServesAt rules asked said stored now serving =
    Serves rules said asked (lifetime_in rules said stored) (age_at stored now) serving

abbrev pub serving_of : Reuse → Serving
serving_of Fresh = serving.Fresh
serving_of WhileRevalidating = serving.StaleWhileRevalidating
serving_of AcceptedStale = serving.StaleAccepted

pub record IsServed (rules : Rules) (request : RequestHeader) (asked : RequestControl) (said : ResponseControl) (stored : StoredResponse) (now : ℕ) (served : Served) : Type 0 where
  pub reuse : ServesAt rules asked said stored now (serving_of served.reuse)
  -- RFC 9111, 4, MUST: an Age is sent with what is served without validation
  pub age : served.age ≡ age_at stored now
  pub answer : GivesAnswer request stored.head.now stored.received served.answer

-- RFC 9111, 4.3.1: with the validators of the stored response
pub record IsAskedWith (stored : StoredResponse) (validation : Validation) : Type 0 where
  pub tag : bytes_of (option_copied validation.if_none_match) ≡ sent_tag (shown_fields stored.head.now.headers)
  pub since : bytes_of (option_copied validation.if_modified_since) ≡ sent_since (shown_fields stored.head.now.headers)

abbrev pub ByStored : Rules → RequestHeader → RequestControl → ResponseControl → StoredResponse → ℕ → Decision → Type 0
ByStored rules request asked said stored now (Serve served) = IsServed rules request asked said stored now served
ByStored rules request asked said stored now (Validate validation) =
    ServesAt rules asked said stored now serving.Validate × IsAskedWith stored validation
ByStored rules request asked said stored now OnlyIfCached504 = ServesAt rules asked said stored now serving.GatewayTimeout
ByStored rules request asked said stored now Fetch = ⊥

-- by what the Cache-Control of both says
pub record DecidesByStored (rules : Rules) (request : RequestHeader) (stored : StoredResponse) (now : ℕ) (decision : Decision) : Type 0 where
  pub asked : RequestControl
  pub said : ResponseControl
  pub says_asked : SaysOfRequest request.headers asked
  pub says_said : SaysOfResponse stored.head.now.headers said
  pub decided : ByStored rules request asked said stored now decision

-- ---- without one

-- RFC 9111, 4: the request is forwarded; RFC 9111, 5.2.1.7: unless the client wants only what is stored
abbrev pub ByNothing : RequestControl → Decision → Type 0
ByNothing asked Fetch = missing_for asked ≡ missing.Fetch
ByNothing asked OnlyIfCached504 = missing_for asked ≡ missing.NotCached
ByNothing asked (Serve served) = ⊥
ByNothing asked (Validate validation) = ⊥

pub record DecidesByNothing (request : RequestHeader) (decision : Decision) : Type 0 where
  pub asked : RequestControl
  pub says : SaysOfRequest request.headers asked
  pub decided : ByNothing asked decision
