-- What the calls that decide by RFC 9111 do: the decisions of `pcache_decisions`, as numbers and metas (own).
use Rattle.std.specs.Prelude.{◌≡◌, ◌⊎◌, ◌+◌, ◌*◌, ◌==◌, ℕ, Bool, true, false, List, [], Option, None, Some, IfSome, cond, length, nat_lt, not, option_and_then, option_map, unwrap_or}
use Rattle.http_header.specs.FieldValue.{FieldValue}
use Rattle.http_header.specs.HeaderMap.{Entries}
use Rattle.http_header.specs.Token.{IsToken}
use Rattle.pcache_base.specs.declared.error.ErrorType.{ErrorType}
use Rattle.pcache_base.specs.declared.error.ErrorType.TheVariants.{OutOfMemory}
use Rattle.pcache_meta.specs.Header.{shown}
use Rattle.pcache_meta.specs.Internal.{first_said}
use Rattle.pcache_meta.specs.Meta.{Meta}
use Rattle.pcache_meta.specs.declared.header.RequestHeader.{RequestHeader}
use Rattle.pcache_meta.specs.declared.header.ResponseHeader.{ResponseHeader}
use Rattle.pcache_http.specs.Lifetime.{lifetime_seconds}
use Rattle.pcache_http.specs.declared.rules.CacheKind.TheVariants.{Private, Shared}
use Rattle.pcache_http.specs.declared.rules.Heuristic.TheVariants.{Never, Tenth}
use Rattle.pcache_http.specs.declared.rules.Repeats.TheVariants.{First, Stale}
use Rattle.pcache_http.specs.declared.rules.Rules.{Rules}
use Rattle.pcache_http.specs.declared.storing.NotStoredFor.{NotStoredFor}
use Rattle.pcache_http.specs.declared.storing.NotStoredFor.TheVariants as reason
use Rattle.pcache_http.specs.declared.storing.Storing.{Storing}
use Rattle.pcache_http.specs.declared.storing.Storing.TheVariants as storing
use Rattle.pcache_validation.specs.Asking.{sent_since, sent_tag}
use Rattle.pcache_validation.specs.Unsafe.{IsSafe}
use Rattle.pcache_validation.specs.declared.updating.StoredBody.{StoredBody}
use Rattle.pcache_validation.specs.declared.updating.StoredBody.TheVariants.{AsReceived, Processed}
use Rattle.pcache_decisions.specs.Requests.{DecidesByNothing, DecidesByStored}
use Rattle.pcache_decisions.specs.Responses.{ByUnsafe, DecidesByValidated, DecidesStoring, FailsWith, FollowsError, IsServedStale}
use Rattle.pcache_decisions.specs.Stored.{IsMissing, MayAnswer}
use Rattle.pcache_decisions.specs.declared.requests.Answer.{Answer}
use Rattle.pcache_decisions.specs.declared.requests.Answer.TheVariants.{Full, NotModified, Range}
use Rattle.pcache_decisions.specs.declared.requests.Decision.{Decision}
use Rattle.pcache_decisions.specs.declared.requests.Decision.TheVariants as decision
use Rattle.pcache_decisions.specs.declared.requests.Reuse.{Reuse}
use Rattle.pcache_decisions.specs.declared.requests.Reuse.TheVariants.{AcceptedStale, Fresh, WhileRevalidating}
use Rattle.pcache_decisions.specs.declared.responses.Kept.{Kept}
use Rattle.pcache_decisions.specs.declared.responses.Outcome.{Outcome}
use Rattle.pcache_decisions.specs.declared.responses.Outcome.TheVariants as outcome
use Rattle.pcache_decisions.specs.declared.responses.Stale.{Stale as StaleServed}
use Rattle.pcache_decisions.specs.declared.responses.Validating.{Validating}
use Rattle.pcache_decisions.specs.declared.stored.StoredResponse.{StoredResponse}
use Rattle.pcache_c.specs.Codes.{OnGood, bad_value, code_of, is_flag, moment_at, no_memory, nothing, ok}
use Rattle.pcache_c.specs.Handles.{Asks, Fills, IsSame, OnKind, object_of}
use Rattle.pcache_c.specs.Objects.{as_asked, as_head, as_meta}
use Rattle.pcache_c.specs.Values.{AddsLine, AreWritten}
use Rattle.pcache_c.specs.declared.decided.PcacheDecision.{PcacheDecision}
use Rattle.pcache_c.specs.declared.decided.PcacheOutcome.{PcacheOutcome}
use Rattle.pcache_c.specs.declared.decided.PcacheTerms.{PcacheTerms}
use Rattle.pcache_c.specs.declared.decided.Terms.{Terms}
use Rattle.pcache_c.specs.declared.handle.PcacheHandle.{PcacheHandle}
use Rattle.pcache_c.specs.declared.object.Object.{Object}
use Rattle.pcache_c.specs.declared.object.Object.TheVariants as object

-- ---- heads of requests

pub record IsAsked (method target : List ℕ) (r : RequestHeader) : Type 0 where
  pub method_is : r.method ≡ method
  pub target_is : r.target.items ≡ target
  pub fields : r.headers ≡ []

-- a handle gets the head of a request with no fields, if the method is one; or there was no memory for it
pub record MakesAsked (method target : List ℕ) (old new : PcacheHandle) (code : ℕ) : Type 0 where
  pub bad : (¬ IsToken method) → (code ≡ bad_value) × IsSame old new
  pub good : IsToken method → ((code ≡ no_memory) × IsSame old new) ⊎ ((r : RequestHeader) × IsAsked method target r × Fills (object.Asked r) old new code)

-- the head of a request with a line more
abbrev pub AddsToAsked : List ℕ → List ℕ → RequestHeader → RequestHeader → ℕ → Type 0
AddsToAsked name value old new code = (new ≡ record old { headers = new.headers }) × AddsLine name value old.headers new.headers code

-- ---- what a decision goes by

abbrev pub rules_of : PcacheTerms → Rules
rules_of said = record {
  kind = cond (said.is_private == 0) Shared Private;
  repeats = cond (said.repeated_is_stale == 0) First Stale;
  heuristic = cond (said.most_guessed_secs == 0) Never (Tenth said.most_guessed_secs);
}

abbrev pub body_of : PcacheTerms → StoredBody
body_of said = cond (said.is_processed == 0) AsReceived Processed

-- these terms at these moments
abbrev pub terms_with : PcacheTerms → ℕ → ℕ → Terms
terms_with said at requested = record { at = at; requested = requested; rules = rules_of said; alone = is_flag said.is_alone; body = body_of said }

-- both moments are ones
abbrev pub terms_at : PcacheTerms → Option Terms
terms_at said = option_and_then (λ at. option_map (terms_with said at) (moment_at said.requested.secs said.requested.nanos)) (moment_at said.at.secs said.at.nanos)

abbrev pub OnTerms : PcacheTerms → ℕ → Type 0 → (Terms → Type 0) → Type 0
OnTerms said code same does = OnGood (terms_at said) code same does

-- the fields of the request that a stored response answered: those of a second head or, without one, of the request itself
abbrev pub original_of : Option Object → RequestHeader → Option (Entries FieldValue)
original_of None request = Some request.headers
original_of (Some a) request = option_map (λ (r : RequestHeader). r.headers) (as_asked a)

-- the heads of a request and of what is stored, and the fields of the request that it answered
abbrev pub OnStored : PcacheHandle → PcacheHandle → PcacheHandle → ℕ → Type 0 → (RequestHeader → Meta → Entries FieldValue → Type 0) → Type 0
OnStored request meta original code same does = Asks (object_of request) code same (λ a. Asks (object_of meta) code same (λ b.
    OnKind (as_asked a) code same (λ r. OnKind (as_meta b) code same (λ m. OnKind (original_of (object_of original) r) code same (does r m)))))

-- what is stored, as the decisions take it: it was received when its meta was updated last
pub record IsLent (terms : Terms) (m : Meta) (original : Entries FieldValue) (s : StoredResponse) : Type 0 where
  pub head : shown s.head.now ≡ m.header
  pub fields : s.original.now ≡ original
  pub requested : s.requested ≡ terms.requested
  pub received : s.received ≡ m.updated

abbrev pub OnLent : Terms → Meta → Entries FieldValue → (StoredResponse → Type 0) → Type 0
OnLent terms m original does = (s : StoredResponse) × IsLent terms m original s × does s

-- the same, as it was validated
abbrev pub OnValidating : Terms → Meta → Entries FieldValue → (Validating → Type 0) → Type 0
OnValidating terms m original does =
    (v : Validating) × IsLent terms m original v.stored × (v.alone ≡ terms.alone) × (v.body ≡ terms.body) × does v

-- ---- what becomes of a request

abbrev pub reuse_number : Reuse → ℕ
reuse_number Fresh = 0
reuse_number WhileRevalidating = 1
reuse_number AcceptedStale = 2

abbrev pub answer_number : Answer → ℕ
answer_number Full = 0
answer_number Range = 1
answer_number NotModified = 2

abbrev pub numbers : ℕ → ℕ → ℕ → ℕ → PcacheDecision
numbers does reuse answer age = record { does = does; reuse = reuse; answer = answer; age = age }

abbrev pub decision_numbers : Decision → PcacheDecision
decision_numbers (decision.Serve s) = numbers 0 (reuse_number s.reuse) (answer_number s.answer) s.age
decision_numbers (decision.Validate v) = numbers 1 0 0 0
decision_numbers decision.Fetch = numbers 2 0 0 0
decision_numbers decision.OnlyIfCached504 = numbers 3 0 0 0

-- the decision on a request for which nothing is stored
pub record DecidesMissing (request : RequestHeader) (out : PcacheDecision) : Type 0 where
  pub decided : Decision
  pub is_unsafe : ¬ (IsSafe request.method) → decided ≡ decision.Fetch
  pub missing : IsSafe request.method → DecidesByNothing request decided
  pub said : out ≡ decision_numbers decided

-- the decision on a request for which this is stored
pub record DecidesStored (terms : Terms) (request : RequestHeader) (stored : StoredResponse) (out : PcacheDecision) : Type 0 where
  pub decided : Decision
  pub is_unsafe : ¬ (IsSafe request.method) → decided ≡ decision.Fetch
  pub by_stored : MayAnswer request stored → DecidesByStored terms.rules request stored terms.at decided
  pub missing : IsSafe request.method → ¬ (MayAnswer request stored) → DecidesByNothing request decided
  pub said : out ≡ decision_numbers decided

-- the bytes of a value, or none
abbrev pub bytes_or_none : Option (List ℕ) → List ℕ
bytes_or_none value = unwrap_or value []

-- the validators of what is stored, of which one that is not sent has no bytes
pub record WritesValidators (m : Meta) (tag tag_after since since_after : List ℕ) (tag_said since_said code : ℕ) : Type 0 where
  pub tag_len : tag_said ≡ length (bytes_or_none (sent_tag m.header.fields))
  pub since_len : since_said ≡ length (bytes_or_none (sent_since m.header.fields))
  pub how : AreWritten (bytes_or_none (sent_tag m.header.fields)) (bytes_or_none (sent_since m.header.fields)) tag tag_after since since_after code

-- ---- what becomes of a response

abbrev pub refusal_number : NotStoredFor → ℕ
refusal_number reason.MethodNotUnderstood = 1
refusal_number reason.StatusNotFinal = 2
refusal_number reason.StatusNotUnderstood = 3
refusal_number reason.NoStoreAsked = 4
refusal_number reason.NoStoreSaid = 5
refusal_number reason.PrivateSaid = 6
refusal_number reason.Authorized = 7
refusal_number reason.NothingAllowsIt = 8

abbrev pub storing_number : Storing → ℕ
storing_number storing.Stored = 0
storing_number (storing.NotStored r) = refusal_number r

abbrev pub outcome_with : ℕ → ℕ → ℕ → ℕ → PcacheOutcome
outcome_with does reason answer age = record { does = does; reason = reason; answer = answer; age = age }

abbrev pub stale_numbers : StaleServed → PcacheOutcome
stale_numbers stale = outcome_with 3 0 (answer_number stale.answer) stale.age

abbrev pub outcome_numbers : Outcome → PcacheOutcome
outcome_numbers (outcome.Store kept) = outcome_with 0 0 0 0
outcome_numbers (outcome.Freshen f) = outcome_with 1 (storing_number f.storing) (answer_number f.answer) 0
outcome_numbers outcome.FetchAgain = outcome_with 2 0 0 0
outcome_numbers (outcome.ServeStale stale) = stale_numbers stale
outcome_numbers (outcome.Update kept) = outcome_with 4 0 0 0
outcome_numbers outcome.MarkStale = outcome_with 5 0 0 0
outcome_numbers outcome.Invalidate = outcome_with 6 0 0 0
outcome_numbers (outcome.PassOn r) = outcome_with 7 (refusal_number r) 0 0

-- so many seconds after a moment; a moment beyond the last one is the last whole second
abbrev pub seconds_after : ℕ → ℕ → ℕ
seconds_after now secs = cond (nat_lt (now + secs * 1000000000) 18446744073709551616000000000) (now + secs * 1000000000) 18446744073709551615000000000

-- the meta of what is kept from a moment on, with no windows
abbrev pub meta_kept : Kept → ℕ → Meta
meta_kept kept now = record { internal = first_said (seconds_after now (lifetime_seconds kept.lifetime)) now 0 0; header = shown kept.head }

-- a handle gets the meta of what is kept
abbrev pub GivesKept : Outcome → ℕ → PcacheHandle → PcacheHandle → ℕ → Type 0
GivesKept (outcome.Store kept) now old new code = Fills (object.Meta (meta_kept kept now)) old new code
GivesKept (outcome.Freshen f) now old new code = Fills (object.Meta (meta_kept f.kept now)) old new code
GivesKept (outcome.Update kept) now old new code = Fills (object.Meta (meta_kept kept now)) old new code
GivesKept _ now old new code = (code ≡ ok) × IsSame old new

-- the heads of a request and of its response
abbrev pub OnAnswer : PcacheHandle → PcacheHandle → ℕ → Type 0 → (RequestHeader → ResponseHeader → Type 0) → Type 0
OnAnswer request response code same does = Asks (object_of request) code same (λ a. Asks (object_of response) code same (λ b.
    OnKind (as_asked a) code same (λ r. OnKind (as_head b) code same (does r))))

-- the head of a response
abbrev pub OnHead : PcacheHandle → ℕ → Type 0 → (ResponseHeader → Type 0) → Type 0
OnHead response code same does = Asks (object_of response) code same (λ b. OnKind (as_head b) code same does)

abbrev pub Leaves : PcacheHandle → PcacheHandle → PcacheOutcome → PcacheOutcome → Type 0
Leaves old new before after = IsSame old new × (after ≡ before)

-- how a decision on a response that `decides` is told: as numbers, with its meta; or it was refused for a cause
abbrev pub TellsOf : (Outcome → Type 0) → (ErrorType → Type 0) → ℕ → PcacheHandle → PcacheHandle → PcacheOutcome → PcacheOutcome → ℕ → Type 0
TellsOf decides refused now old new before after code =
    ((e : ErrorType) × (code ≡ code_of e) × refused e × IsSame old new × (after ≡ before))
    ⊎ ((o : Outcome) × decides o × (after ≡ outcome_numbers o) × GivesKept o now old new code)

-- the decision on a response whose request was sent as it is
pub record IsFetched (terms : Terms) (request : RequestHeader) (response : ResponseHeader) (o : Outcome) : Type 0 where
  pub is_unsafe : ¬ (IsSafe request.method) → ByUnsafe request response o
  pub fetched : IsSafe request.method → DecidesStoring terms.rules request response terms.at o

-- the decision on a response whose request was sent with the validators of what is stored
pub record IsValidated (terms : Terms) (request : RequestHeader) (validated : Validating) (response : ResponseHeader) (o : Outcome) : Type 0 where
  pub is_unsafe : ¬ (IsSafe request.method) → ByUnsafe request response o
  pub decided : IsSafe request.method → DecidesByValidated terms.rules request validated response terms.at o

-- after an unsafe method nothing fails, and if nothing was validated memory alone can run out
abbrev pub MayFailFetched : RequestHeader → ErrorType → Type 0
MayFailFetched request e = IsSafe request.method × (e ≡ OutOfMemory)

-- if what is stored was validated, there may also be too many fields
abbrev pub MayFailValidated : Terms → RequestHeader → Validating → ResponseHeader → ErrorType → Type 0
MayFailValidated terms request validated response e = IsSafe request.method × FailsWith terms.rules request validated response e

-- what is stored answers in place of an answer that did not come, or may not
abbrev pub ServesFailed : Terms → RequestHeader → StoredResponse → PcacheOutcome → PcacheOutcome → ℕ → Type 0
ServesFailed terms request stored before after code =
    ((code ≡ ok) × FollowsError terms.rules request stored terms.at true
    × ((s : StaleServed) × IsServedStale request stored terms.at s × (after ≡ stale_numbers s)))
    ⊎ ((code ≡ nothing) × FollowsError terms.rules request stored terms.at false × (after ≡ before))
