-- What becomes of a response (RFC 9111 sections 3, 3.1, 3.2, 4.3.3, 4.3.4, 4.3.5 and 4.4; RFC 5861 section 4): the table of what
-- is decided. Moments are in nanoseconds.
use Rattle.std.specs.Prelude.{◌≡◌, ◌⊎◌, ℕ, ◌+◌, ◌/◌, ◌<◌, Bool, true, false, Some, codes, length, if◌then◌else◌}
use Rattle.http_header.specs.FieldValue.{FieldValue}
use Rattle.http_header.specs.HeaderMap.{Entries, remove}
use Rattle.pcache_base.specs.declared.error.ErrorType.{ErrorType}
use Rattle.pcache_base.specs.declared.error.ErrorType.TheVariants.{InternalError, OutOfMemory}
use Rattle.pcache_meta.specs.Header.{shown_fields}
use Rattle.pcache_meta.specs.declared.header.RequestHeader.{RequestHeader}
use Rattle.pcache_meta.specs.declared.header.ResponseHeader.{ResponseHeader}
use Rattle.pcache_http.specs.declared.control.RequestControl.{RequestControl}
use Rattle.pcache_http.specs.declared.control.ResponseControl.{ResponseControl}
use Rattle.pcache_http.specs.declared.lifetime.Lifetime.{Lifetime}
use Rattle.pcache_http.specs.declared.rules.CacheKind.{CacheKind}
use Rattle.pcache_http.specs.declared.rules.Rules.{Rules}
use Rattle.pcache_http.specs.declared.storing.NotStoredFor.TheVariants.{MethodNotUnderstood}
use Rattle.pcache_http.specs.declared.storing.NotStoredFor.{NotStoredFor}
use Rattle.pcache_http.specs.declared.storing.Storing.{Storing}
use Rattle.pcache_http.specs.declared.storing.Storing.TheVariants.{NotStored, Stored}
use Rattle.pcache_http.specs.Age.{second}
use Rattle.pcache_http.specs.Control.{SaysOfRequest, SaysOfResponse}
use Rattle.pcache_http.specs.Lifetime.{lifetime_of}
use Rattle.pcache_http.specs.Serving.{may_follow_error}
use Rattle.pcache_http.specs.StoredFields.{AreStoredFields}
use Rattle.pcache_http.specs.Storing.{as_get, IsStoring, MayBeStored, Fails}
use Rattle.pcache_validation.specs.Answers.{IsError, IsUnchanged}
use Rattle.pcache_validation.specs.Fields.{has}
use Rattle.pcache_validation.specs.Freshening.{identifies}
use Rattle.pcache_validation.specs.Heads.{MakesStale, Updates}
use Rattle.pcache_validation.specs.Unsafe.{Invalidates}
use Rattle.pcache_validation.specs.Updating.{IsUpdated}
use Rattle.pcache_decisions.specs.declared.responses.Freshened.{Freshened}
use Rattle.pcache_decisions.specs.declared.responses.Kept.{Kept}
use Rattle.pcache_decisions.specs.declared.responses.Outcome.{Outcome}
use Rattle.pcache_decisions.specs.declared.responses.Outcome.TheVariants.{FetchAgain, Freshen, Invalidate, MarkStale, PassOn, ServeStale, Store, Update}
use Rattle.pcache_decisions.specs.declared.responses.Stale.{Stale}
use Rattle.pcache_decisions.specs.declared.responses.Validating.{Validating}
use Rattle.pcache_decisions.specs.declared.stored.StoredResponse.{StoredResponse}
use Rattle.pcache_decisions.specs.Requests.{GivesAnswer}
use Rattle.pcache_decisions.specs.Stored.{age_at, lifetime_in}

-- ---- what is kept

-- RFC 9111, 4.2.1: the lifetime of a head that was received at this moment, by what its Cache-Control says
pub record IsLifetimeOf (rules : Rules) (head : ResponseHeader) (received : ℕ) (lifetime : Lifetime) : Type 0 where
  pub said : ResponseControl
  pub says : SaysOfResponse head.headers said
  pub is : lifetime ≡ lifetime_of rules said head (received / second)

-- RFC 9111, 3.1: the head without the fields that are not stored
pub record IsKeptOf (rules : Rules) (response : ResponseHeader) (received : ℕ) (kept : Kept) : Type 0 where
  pub version : kept.head.version ≡ response.version
  pub status : kept.head.status ≡ response.status
  pub fields : AreStoredFields rules.kind response.headers kept.head.headers
  pub lifetime : IsLifetimeOf rules kept.head received kept.lifetime

-- RFC 9111, 4.2.3: an Age says how old its own response was. That of the stored response says nothing of the 304 from
-- which its age counts from now on, so it goes if the 304 brings none
abbrev pub without_old_age : Entries FieldValue → Entries FieldValue → Entries FieldValue
without_old_age brought updated = if has (shown_fields brought) (codes "age") then updated else remove updated (codes "age")

-- RFC 9111, 3.2: the stored fields, updated with those of the newer response that would be stored of it (3.1)
pub record AreFreshened (kind : CacheKind) (validated : Validating) (new fields : Entries FieldValue) : Type 0 where
  pub brought : Entries FieldValue
  pub updated : Entries FieldValue
  pub stored_of_new : AreStoredFields kind new brought
  pub taken : IsUpdated validated.body brought validated.stored.head.now.headers updated
  pub are : fields ≡ without_old_age brought updated

-- RFC 9111, 4.3.4: the stored response as the 304 updates it
pub record IsUpdatedBy (rules : Rules) (validated : Validating) (response : ResponseHeader) (received : ℕ) (kept : Kept) : Type 0 where
  pub version : kept.head.version ≡ validated.stored.head.now.version
  pub status : kept.head.status ≡ validated.stored.head.now.status
  pub fields : AreFreshened rules.kind validated response.headers kept.head.headers
  pub lifetime : IsLifetimeOf rules kept.head received kept.lifetime

-- RFC 9111, 3: whether a head may be stored for the request, by what the Cache-Control of both says
pub record StoresBy (kind : CacheKind) (request : RequestHeader) (head : ResponseHeader) (storing : Storing) : Type 0 where
  pub asked : RequestControl
  pub said : ResponseControl
  pub says_asked : SaysOfRequest request.headers asked
  pub says_said : SaysOfResponse head.headers said
  pub is : IsStoring kind request asked head said storing

-- RFC 9111, 4.3.4 and 4.3.2: the updated response answers the request. RFC 9111, 5.2.1.5 and 5.2.2.5, MUST NOT: nothing of
-- the 304 is stored if the updated response may not be. What is stored answered a GET, so that is asked as of one to a GET
pub record IsFreshenedTo (rules : Rules) (request : RequestHeader) (validated : Validating) (response : ResponseHeader) (received : ℕ) (freshened : Freshened) : Type 0 where
  pub updated : IsUpdatedBy rules validated response received freshened.kept
  pub storing : StoresBy rules.kind (as_get request) freshened.kept.head freshened.storing
  pub answer : GivesAnswer request freshened.kept.head received freshened.answer

-- ---- a response to an unsafe method

-- RFC 9111, 4.4, MUST: the target URI is invalidated if the status is no error
abbrev pub ByUnsafe : RequestHeader → ResponseHeader → Outcome → Type 0
ByUnsafe request response Invalidate = Invalidates request.method response.status
ByUnsafe request response (PassOn reason) = (reason ≡ MethodNotUnderstood) × (¬ (Invalidates request.method response.status))
ByUnsafe request response (Store kept) = ⊥
ByUnsafe request response (Freshen freshened) = ⊥
ByUnsafe request response FetchAgain = ⊥
ByUnsafe request response (ServeStale stale) = ⊥
ByUnsafe request response (Update kept) = ⊥
ByUnsafe request response MarkStale = ⊥

-- ---- a 304 to the conditions of the cache

-- RFC 9111, 4.3.4: the 304 identifies the stored response
abbrev pub IsIdentified : Validating → ResponseHeader → Type 0
IsIdentified validated response =
    identifies (shown_fields response.headers) (shown_fields validated.stored.head.now.headers) validated.alone ≡ true

-- RFC 9111, 4.3.4: it updates the stored response that it identifies. If it identifies none, nothing is known of what the
-- client asked for, and the request is sent again without a condition
abbrev pub By304 : Rules → RequestHeader → Validating → ResponseHeader → ℕ → Outcome → Type 0
By304 rules request validated response received (Freshen freshened) =
    IsIdentified validated response × IsFreshenedTo rules request validated response received freshened
By304 rules request validated response received FetchAgain =
    identifies (shown_fields response.headers) (shown_fields validated.stored.head.now.headers) validated.alone ≡ false
By304 rules request validated response received (Store kept) = ⊥
By304 rules request validated response received (ServeStale stale) = ⊥
By304 rules request validated response received Invalidate = ⊥
By304 rules request validated response received (PassOn reason) = ⊥
By304 rules request validated response received (Update kept) = ⊥
By304 rules request validated response received MarkStale = ⊥

-- ---- any other response

-- RFC 9111, 3: it is stored exactly if it may be, and else passed on for a reason that holds
abbrev pub ByStoring : Rules → RequestHeader → RequestControl → ResponseHeader → ResponseControl → ℕ → Outcome → Type 0
ByStoring rules request asked response said received (Store kept) =
    MayBeStored rules.kind request asked response said × IsKeptOf rules response received kept
ByStoring rules request asked response said received (PassOn reason) = Fails rules.kind request asked response said reason
ByStoring rules request asked response said received (Freshen freshened) = ⊥
ByStoring rules request asked response said received FetchAgain = ⊥
ByStoring rules request asked response said received (ServeStale stale) = ⊥
ByStoring rules request asked response said received Invalidate = ⊥
ByStoring rules request asked response said received (Update kept) = ⊥
ByStoring rules request asked response said received MarkStale = ⊥

-- by what the Cache-Control of both says
pub record DecidesStoring (rules : Rules) (request : RequestHeader) (response : ResponseHeader) (received : ℕ) (outcome : Outcome) : Type 0 where
  pub asked : RequestControl
  pub said : ResponseControl
  pub says_asked : SaysOfRequest request.headers asked
  pub says_said : SaysOfResponse response.headers said
  pub decided : ByStoring rules request asked response said received outcome

-- ---- an error at validation

-- RFC 5861, 4, and RFC 9111, 4.2.4: whether the stored response may be served in place of an error at this moment
pub record FollowsError (rules : Rules) (request : RequestHeader) (stored : StoredResponse) (now : ℕ) (may : Bool) : Type 0 where
  pub asked : RequestControl
  pub said : ResponseControl
  pub says_asked : SaysOfRequest request.headers asked
  pub says_said : SaysOfResponse stored.head.now.headers said
  pub is : may_follow_error rules said asked (lifetime_in rules said stored) (age_at stored now) ≡ may

pub record IsServedStale (request : RequestHeader) (stored : StoredResponse) (now : ℕ) (stale : Stale) : Type 0 where
  pub age : stale.age ≡ age_at stored now
  pub answer : GivesAnswer request stored.head.now stored.received stale.answer

-- RFC 9111, 4.3.3: the stored response is served, or the error is a response as any other
abbrev pub ByError : Rules → RequestHeader → StoredResponse → ResponseHeader → ℕ → Outcome → Type 0
ByError rules request stored response received (ServeStale stale) =
    FollowsError rules request stored received true × IsServedStale request stored received stale
ByError rules request stored response received (Store kept) =
    FollowsError rules request stored received false × DecidesStoring rules request response received (Store kept)
ByError rules request stored response received (PassOn reason) =
    FollowsError rules request stored received false × DecidesStoring rules request response received (PassOn reason)
ByError rules request stored response received (Freshen freshened) = ⊥
ByError rules request stored response received FetchAgain = ⊥
ByError rules request stored response received Invalidate = ⊥
ByError rules request stored response received (Update kept) = ⊥
ByError rules request stored response received MarkStale = ⊥

-- ---- the answer to a HEAD

abbrev pub IsHead : RequestHeader → Type 0
IsHead request = request.method ≡ codes "HEAD"

-- RFC 9111, 4.3.5: a 200 fits the stored response if its validators and its Content-Length are those that are stored
abbrev pub FitsStored : Validating → ResponseHeader → Type 0
FitsStored validated response =
    Updates response.status (shown_fields response.headers) (shown_fields validated.stored.head.now.headers)

-- RFC 9111, 5.2.1.5 and 5.2.2.5, MUST NOT: nothing of the answer to a HEAD is stored if the updated response may not be
pub record IsNotUpdated (rules : Rules) (request : RequestHeader) (validated : Validating) (response : ResponseHeader) (received : ℕ) (reason : NotStoredFor) : Type 0 where
  pub kept : Kept
  pub updated : IsUpdatedBy rules validated response received kept
  pub storing : StoresBy rules.kind (as_get request) kept.head (NotStored reason)

-- RFC 9111, 4.3.5, MUST: the stored response is updated with the fields of the answer to a HEAD that fits it
abbrev pub ByUpdate : Rules → RequestHeader → Validating → ResponseHeader → ℕ → Outcome → Type 0
ByUpdate rules request validated response received (Update kept) =
    IsUpdatedBy rules validated response received kept × StoresBy rules.kind (as_get request) kept.head Stored
ByUpdate rules request validated response received (PassOn reason) = IsNotUpdated rules request validated response received reason
ByUpdate rules request validated response received (Store kept) = ⊥
ByUpdate rules request validated response received (Freshen freshened) = ⊥
ByUpdate rules request validated response received FetchAgain = ⊥
ByUpdate rules request validated response received (ServeStale stale) = ⊥
ByUpdate rules request validated response received Invalidate = ⊥
ByUpdate rules request validated response received MarkStale = ⊥

-- RFC 9111, 4.3.5, SHOULD: a 200 to a HEAD updates the stored response that it fits, and makes any other one stale
pub record DecidesByHead (rules : Rules) (request : RequestHeader) (validated : Validating) (response : ResponseHeader) (received : ℕ) (outcome : Outcome) : Type 0 where
  pub fits : FitsStored validated response → ByUpdate rules request validated response received outcome
  pub differs : MakesStale response.status (shown_fields response.headers) (shown_fields validated.stored.head.now.headers)
      → outcome ≡ MarkStale
  pub other : ¬ (response.status ≡ 200) → DecidesStoring rules request response received outcome

-- ---- all answers to a validation

pub record DecidesByValidated (rules : Rules) (request : RequestHeader) (validated : Validating) (response : ResponseHeader) (received : ℕ) (outcome : Outcome) : Type 0 where
  pub unchanged : IsUnchanged (Some response.status) → By304 rules request validated response received outcome
  pub failed : IsError (Some response.status) → ByError rules request validated.stored response received outcome
  pub head : ¬ (IsUnchanged (Some response.status)) → ¬ (IsError (Some response.status)) → IsHead request
      → DecidesByHead rules request validated response received outcome
  pub other : ¬ (IsUnchanged (Some response.status)) → ¬ (IsError (Some response.status)) → ¬ (IsHead request)
      → DecidesStoring rules request response received outcome

-- ---- errors

-- the most names that the fields of a head have (own: a `HeaderMap` has room for no more)
abbrev pub most_names : ℕ
most_names = 24576

-- RFC 9111, 3.2 and 3.1: the stored fields and those that would be stored of the newer response have together more names than
-- a head has room for
pub record AreTooMany (kind : CacheKind) (validated : Validating) (new : Entries FieldValue) : Type 0 where
  pub brought : Entries FieldValue
  pub stored_of_new : AreStoredFields kind new brought
  pub too_many : most_names < length validated.stored.head.now.headers + length brought

-- an update fails because memory runs out, or because there are too many fields (own)
abbrev pub FailsToUpdate : CacheKind → Validating → Entries FieldValue → ErrorType → Type 0
FailsToUpdate kind validated new e = (e ≡ OutOfMemory) ⊎ ((e ≡ InternalError) × AreTooMany kind validated new)

-- RFC 9111, 4.3.4 and 4.3.5: a 304 updates what it identifies, and a 200 to a HEAD the stored response that it fits
abbrev pub UpdatesStored : RequestHeader → Validating → ResponseHeader → Type 0
UpdatesStored request validated response =
    (IsUnchanged (Some response.status) × IsIdentified validated response) ⊎ (IsHead request × FitsStored validated response)

-- memory runs out, or the response updates what is stored and there are too many fields (own)
abbrev pub FailsWith : Rules → RequestHeader → Validating → ResponseHeader → ErrorType → Type 0
FailsWith rules request validated response e =
    (e ≡ OutOfMemory) ⊎ ((e ≡ InternalError) × UpdatesStored request validated response × AreTooMany rules.kind validated response.headers)
