-- What the calls on values do: hashes, variances, heads and metas (own).
use Rattle.std.specs.Prelude.{◌≡◌, ◌≢◌, ◌⊎◌, ◌↔◌, ◌≤◌, ◌/◌, ◌%◌, ◌++◌, ℕ, Bool, List, [], Option, None, Some, codes, drop, length}
use Rattle.std.specs.FinMap.{empty, insert, len}
use Rattle.std.specs.Int.{from_bool}
use Rattle.http.specs.StatusCode.{IsStatusCode}
use Rattle.http_header.specs.FieldName.{IsFieldName}
use Rattle.http_header.specs.FieldValue.{FieldValue, IsFieldValue, plain_value}
use Rattle.http_header.specs.HeaderMap.{Entries, append}
use Rattle.http_header.specs.Token.{lowercase}
use Rattle.pcache_base.specs.Blake2b.{blake2b_128}
use Rattle.pcache_base.specs.Key.{combined_of}
use Rattle.pcache_base.specs.Variance.{Varied, message}
use Rattle.pcache_control.specs.Control.{ReadsField, ReadsOneMap, allows_authorized, as_duration, cacheable_of, fresh_seconds, stale_seconds}
use Rattle.pcache_control.specs.Responses.{IsDecision}
use Rattle.pcache_control.specs.declared.cache_control.CacheControl.{CacheControl}
use Rattle.pcache_control.specs.declared.cache_control.Cacheable.{Cacheable}
use Rattle.pcache_control.specs.declared.cache_control.Cacheable.TheVariants.{Default, No, Yes}
use Rattle.pcache_control.specs.declared.key.DirectiveKey.TheVariants.{StaleIfError, StaleWhileRevalidate}
use Rattle.pcache_control.specs.declared.response.RespCacheable.{RespCacheable}
use Rattle.pcache_control.specs.declared.response.RespCacheable.TheVariants as decision
use Rattle.pcache_meta.specs.Header.{shown}
use Rattle.pcache_meta.specs.Internal.{first_said}
use Rattle.pcache_meta.specs.Meta.{MayServeStale, Meta, internal_changed}
use Rattle.pcache_meta.specs.MetaBytes.{SpellsMeta}
use Rattle.pcache_meta.specs.HeaderText.{header_written}
use Rattle.pcache_meta.specs.MetaWriting.{internal_written}
use Rattle.pcache_meta.specs.declared.header.HttpVersion.TheVariants.{Http11}
use Rattle.pcache_meta.specs.declared.header.ResponseHeader.{ResponseHeader}
use Rattle.pcache_c.specs.Codes.{OnText, bad_handle, bad_value, no_memory, nothing, ok, unreadable, wrong_kind}
use Rattle.pcache_c.specs.Handles.{Fills, IsSame}
use Rattle.pcache_c.specs.declared.handle.PcacheHandle.{PcacheHandle}
use Rattle.pcache_c.specs.declared.heads.PcacheAnswers.{PcacheAnswers}
use Rattle.pcache_c.specs.declared.metas.PcacheMeta.{PcacheMeta}
use Rattle.pcache_c.specs.declared.metas.PcacheMoment.{PcacheMoment}
use Rattle.pcache_c.specs.declared.metas.PcacheServable.{PcacheServable}
use Rattle.pcache_c.specs.declared.object.Object.{Object}
use Rattle.pcache_c.specs.declared.object.Object.TheVariants as object

abbrev pub MakesHash : List ℕ → List ℕ → ℕ → Type 0
MakesHash key out code = (code ≡ ok) × (out ≡ blake2b_128 key)

abbrev pub MakesCombined : List ℕ → Option (List ℕ) → List ℕ → ℕ → Type 0
MakesCombined primary variance out code = (code ≡ ok) × (out ≡ combined_of primary variance)

-- a variance of no name
abbrev pub empty_variance : Object
empty_variance = object.Variance empty

-- the last value of a name stands
abbrev pub AddsValue : List ℕ → List ℕ → Varied → Varied → ℕ → Type 0
AddsValue name value old new code = ((code ≡ ok) × (new ≡ insert old name value)) ⊎ ((code ≡ no_memory) × (new ≡ old))

abbrev pub AddsTo : List ℕ → List ℕ → Varied → Varied → ℕ → Type 0
AddsTo name value old new code = OnText name code (new ≡ old) (AddsValue name value old new code)

-- the hash of what was added, or that nothing was
abbrev pub SaysVariance : Varied → List ℕ → List ℕ → ℕ → Type 0
SaysVariance v old new code = ((code ≡ ok) × (len v ≢ 0) × (new ≡ blake2b_128 (message v))) ⊎ ((code ≡ nothing) × (len v ≡ 0) × (new ≡ old))

-- its handle has nothing then
abbrev pub EndsVariance : Option Object → Option Object → List ℕ → List ℕ → ℕ → Type 0
EndsVariance None new before after code = (code ≡ bad_handle) × (new ≡ None) × (after ≡ before)
EndsVariance (Some (object.Variance v)) new before after code = (new ≡ None) × SaysVariance v before after code
EndsVariance (Some a) new before after code = (code ≡ wrong_kind) × (new ≡ Some a) × (after ≡ before)

abbrev pub EndsHandle : Option Object → ℕ → Type 0
EndsHandle None code = code ≡ bad_handle
EndsHandle (Some a) code = code ≡ ok

-- ---- heads, and what Cache-Control says

-- the head of a response of HTTP/1.1 with this status and no fields
abbrev pub new_head : ℕ → Object
new_head status = object.Head (record { version = Http11; status = status; headers = [] })

-- a handle gets a new head, if the status is one
pub record MakesHead (status : ℕ) (old new : PcacheHandle) (code : ℕ) : Type 0 where
  pub bad : (¬ IsStatusCode status) → (code ≡ bad_value) × IsSame old new
  pub good : IsStatusCode status → Fills (new_head status) old new code

-- a line is added beside those of the same name; without room or memory, and for a name or value that is none, nothing changes
pub record AddsLine (name value : List ℕ) (old new : Entries FieldValue) (code : ℕ) : Type 0 where
  pub done : code ≡ ok → new ≡ append old (lowercase name) (plain_value value)
  pub may : code ≡ ok → IsFieldName name × IsFieldValue value
  pub name_is : (¬ IsFieldName name) → code ≡ bad_value
  pub bad : code ≡ bad_value → ¬ (IsFieldName name × IsFieldValue value)
  pub how : (code ≡ ok) ⊎ (((code ≡ bad_value) ⊎ (code ≡ no_memory)) × (new ≡ old))

-- the head of a response with a line more
abbrev pub AddsField : List ℕ → List ℕ → ResponseHeader → ResponseHeader → ℕ → Type 0
AddsField name value old new code = (new ≡ record old { headers = new.headers }) × AddsLine name value old.headers new.headers code

-- what a head's Cache-Control says, if it has one
abbrev pub IsControlOf : ResponseHeader → Option CacheControl → Type 0
IsControlOf h cc = ReadsField h.headers (codes "cache-control") cc × ReadsOneMap h.headers (codes "cache-control") cc

-- a handle gets what a Cache-Control says, if there is one
abbrev pub GivesControl : Option CacheControl → PcacheHandle → PcacheHandle → ℕ → Type 0
GivesControl None old new code = (code ≡ nothing) × IsSame old new
GivesControl (Some c) old new code = Fills (object.Control c) old new code

abbrev pub ReadsControl : ResponseHeader → PcacheHandle → PcacheHandle → ℕ → Type 0
ReadsControl h old new code = ((code ≡ no_memory) × IsSame old new)
    ⊎ ((cc : Option CacheControl) × IsControlOf h cc × GivesControl cc old new code)

-- no, yes, or what is the default
abbrev pub cacheable_number : Cacheable → ℕ
cacheable_number No = 0
cacheable_number Yes = 1
cacheable_number Default = 2

-- whole seconds of so many nanoseconds, if there are any
abbrev pub IsSeconds : Option ℕ → ℕ → ℕ → Type 0
IsSeconds None has secs = (has ≡ 0) × (secs ≡ 0)
IsSeconds (Some nanos) has secs = (has ≡ 1) × (secs ≡ nanos / 1000000000)

pub record SaysControl (c : CacheControl) (out : PcacheAnswers) : Type 0 where
  pub cacheable : out.cacheable ≡ cacheable_number (cacheable_of c)
  pub authorized : out.authorized ≡ from_bool (allows_authorized c)
  pub fresh : IsSeconds (as_duration (fresh_seconds c)) out.has_fresh out.fresh_secs
  pub revalidating : IsSeconds (as_duration (stale_seconds c StaleWhileRevalidate)) out.has_stale_while_revalidate out.stale_while_revalidate_secs
  pub failing : IsSeconds (as_duration (stale_seconds c StaleIfError)) out.has_stale_if_error out.stale_if_error_secs

-- ---- metas

-- a handle gets a meta, or there was no memory for a copy of its head
abbrev pub MakesMeta : Meta → PcacheHandle → PcacheHandle → ℕ → Type 0
MakesMeta m old new code = ((code ≡ no_memory) × IsSame old new) ⊎ Fills (object.Meta m) old new code

-- what a meta says at first of a response with this head
abbrev pub meta_said : ℕ → ℕ → PcacheMeta → ResponseHeader → Meta
meta_said created until said h = record { internal = first_said until created said.stale_while_revalidate_secs said.stale_if_error_secs; header = shown h }

-- a handle gets the meta that two byte strings spell
abbrev pub ReadsMeta : List ℕ → List ℕ → PcacheHandle → PcacheHandle → ℕ → Type 0
ReadsMeta internal header old new code = ((code ≡ no_memory) × IsSame old new)
    ⊎ ((code ≡ unreadable) × ((m : Meta) → ¬ SpellsMeta internal header m) × IsSame old new)
    ⊎ ((m : Meta) × SpellsMeta internal header m × Fills (object.Meta m) old new code)

-- a moment is said: its whole seconds, and the nanoseconds past them
pub record SaysMoment (t : ℕ) (out : PcacheMoment) : Type 0 where
  pub secs : out.secs ≡ t / 1000000000
  pub nanos : out.nanos ≡ t % 1000000000

pub record SaysMeta (m : Meta) (out : PcacheMeta) : Type 0 where
  pub created : SaysMoment m.created out.created
  pub updated : SaysMoment m.updated out.updated
  pub fresh : SaysMoment m.fresh_until out.fresh_until
  pub revalidating : out.stale_while_revalidate_secs ≡ m.stale_while_revalidate_sec
  pub failing : out.stale_if_error_secs ≡ m.stale_if_error_sec

pub record SaysServable (m : Meta) (now : ℕ) (out : PcacheServable) : Type 0 where
  pub fresh : (out.fresh ≡ 1) ↔ (now ≤ m.fresh_until)
  pub revalidating : (out.while_revalidating ≡ 1) ↔ MayServeStale m.fresh_until m.stale_while_revalidate_sec now
  pub failing : (out.after_error ≡ 1) ↔ MayServeStale m.fresh_until m.stale_if_error_sec now
  -- what is not 1 is 0
  pub flags : (out.fresh ≤ 1) × (out.while_revalidating ≤ 1) × (out.after_error ≤ 1)

-- a meta has a variance from then on, or none
abbrev pub VariesMeta : Option (List ℕ) → Meta → Meta → ℕ → Type 0
VariesMeta v m n code = (code ≡ ok) × (n ≡ internal_changed (λ x. record x { variance = v }) m)

-- the variance of a meta goes to a buffer of 16 bytes, or it has none
abbrev pub SaysHash : Option (List ℕ) → List ℕ → List ℕ → ℕ → Type 0
SaysHash None old new code = (code ≡ nothing) × (new ≡ old)
SaysHash (Some hash) old new code = (code ≡ ok) × (new ≡ hash)

-- ---- whether a response is stored

-- a handle gets the meta of a response that is to be stored; of one that is not, there is nothing to hand over
abbrev pub GivesMeta : RespCacheable → PcacheHandle → PcacheHandle → ℕ → Type 0
GivesMeta (decision.Cacheable m) old new code = Fills (object.Meta m) old new code
GivesMeta (decision.Uncacheable reason) old new code = (code ≡ nothing) × IsSame old new

-- the decision at a moment on the response of a head, where no status has a default lifetime, or there was no memory; `authorized` if
-- its request had an Authorization, and `windows` are the default ones
abbrev pub Decides : ℕ → Bool → ℕ × ℕ → ResponseHeader → PcacheHandle → PcacheHandle → ℕ → Type 0
Decides now authorized windows h old new code = ((code ≡ no_memory) × IsSame old new)
    ⊎ ((cc : Option CacheControl) × (d : RespCacheable) × IsControlOf h cc
    × IsDecision now cc windows h authorized (λ lifetime. lifetime ≡ None) d × GivesMeta d old new code)

-- ---- the bytes of metas

-- two byte strings are at the start of two buffers, if both have room; else neither is
abbrev pub AreWritten : List ℕ → List ℕ → List ℕ → List ℕ → List ℕ → List ℕ → ℕ → Type 0
AreWritten first second one one_after two two_after code =
    ((code ≡ ok) × (length first ≤ length one) × (length second ≤ length two)
    × (one_after ≡ first ++ drop (length first) one) × (two_after ≡ second ++ drop (length second) two))
    ⊎ ((code ≡ bad_value) × ((length first ≤ length one) → ¬ (length second ≤ length two)) × (one_after ≡ one) × (two_after ≡ two))

-- the byte strings of a meta: their lengths are said, and both are written if both have room
pub record WritesMeta (m : Meta) (internal internal_after header header_after : List ℕ) (internal_said header_said code : ℕ) : Type 0 where
  pub spelled : SpellsMeta (internal_written m.internal) (header_written m.header) m
  pub internal_len : internal_said ≡ length (internal_written m.internal)
  pub header_len : header_said ≡ length (header_written m.header)
  pub how : AreWritten (internal_written m.internal) (header_written m.header) internal internal_after header header_after code

abbrev pub SavesMeta : Meta → List ℕ → List ℕ → List ℕ → List ℕ → ℕ → ℕ → ℕ → Type 0
SavesMeta m internal internal_after header header_after internal_said header_said code =
    ((code ≡ no_memory) × (internal_after ≡ internal) × (header_after ≡ header))
    ⊎ WritesMeta m internal internal_after header header_after internal_said header_said code
