-- What the directives of a field say (RFC 9111 sections 3.5, 4.2 and 5.2).
use Rattle.std.specs.Prelude.{◌≡◌, ℕ, ◌*◌, Bool, true, false, ◌||◌, List, fold, Option, Some, None, IfSome, is_some, bytes_eq, if◌then◌else◌}
use Rattle.std.specs.Map.{lookup}
use Rattle.std.specs.Option.{option_map}
use Rattle.http_header.specs.FieldValue.{FieldValue}
use Rattle.http_header.specs.HeaderMap.{Entries, remove, get_all, ContainsKey}
use Rattle.http_header.specs.Token.{lowercase}
use Rattle.pcache_meta.specs.declared.header.ResponseHeader.{ResponseHeader}
use Rattle.pcache_control.specs.declared.cache_control.CacheControl.{CacheControl}
use Rattle.pcache_control.specs.declared.cache_control.Cacheable.{Cacheable}
use Rattle.pcache_control.specs.declared.cache_control.Cacheable.TheVariants.{Yes, No, Default}
use Rattle.pcache_control.specs.declared.key.DirectiveKey.{DirectiveKey}
use Rattle.pcache_control.specs.declared.key.DirectiveKey.TheVariants.{MaxAge, SMaxAge, NoCache, NoStore, Private, Public, MustRevalidate, ProxyRevalidate}
use Rattle.pcache_control.specs.Maps.{same_key, value_of, entries_of, lines_of, AreRead, AreReadOnce}
use Rattle.pcache_control.specs.Seconds.{delta_seconds_of, floor_seconds_of}
use Rattle.pcache_control.specs.Values.{unquoted, list_items}

-- what was read from the fields of a name: nothing exactly when there is no such field
abbrev pub ReadsField : Entries FieldValue → List ℕ → Option CacheControl → Type 0
ReadsField fields name None = ¬ (ContainsKey fields name)
ReadsField fields name (Some cc) =
    ContainsKey fields name × AreRead (lines_of (get_all fields name)) cc.directives.entries × (cc.allow_float_seconds ≡ false)

-- and for every list of spans of the directives the map is the one made of them
abbrev pub ReadsOneMap : Entries FieldValue → List ℕ → Option CacheControl → Type 0
ReadsOneMap fields name found = IfSome found (λ (cc : CacheControl). AreReadOnce (lines_of (get_all fields name)) cc.directives.entries)

-- the directive under a key: None if it is absent, Some None if it has no value
unfoldable pub directive_given : CacheControl → DirectiveKey → Option (Option (List ℕ))
directive_given cc key = option_map value_of (lookup (same_key key) cc.directives.entries)

-- the directive of a name
abbrev pub given_to : CacheControl → List ℕ → Option (Option (List ℕ))
given_to cc name = lookup (bytes_eq name) (entries_of cc.directives.entries)

abbrev pub has : CacheControl → DirectiveKey → Bool
has cc key = is_some (directive_given cc key)

-- the directive is present, without a value
abbrev pub is_bare : Option (Option (List ℕ)) → Bool
is_bare (Some None) = true
is_bare (Some (Some value)) = false
is_bare None = false

-- the value, if there is one
abbrev pub value_in : Option (Option (List ℕ)) → Option (List ℕ)
value_in (Some value) = value
value_in None = None

-- the field names that a directive lists
abbrev pub names_in : Option (Option (List ℕ)) → Option (List (List ℕ))
names_in directive = option_map (λ value. list_items (unquoted value)) (value_in directive)

-- the number of seconds that a value gives
abbrev pub seconds_of : Bool → List ℕ → Option ℕ
seconds_of floor value = if floor then floor_seconds_of (unquoted value) else delta_seconds_of (unquoted value)

-- the number of seconds that a directive gives: None if it can't be read, Some None if there is no value
abbrev pub seconds_at : Bool → Option (List ℕ) → Option (Option ℕ)
seconds_at floor None = Some None
seconds_at floor (Some value) = option_map (λ n. Some n) (seconds_of floor value)

abbrev pub seconds_in : CacheControl → DirectiveKey → Option (Option ℕ)
seconds_in cc key = seconds_at cc.allow_float_seconds (value_in (directive_given cc key))

-- what can't be read counts as absent
abbrev pub or_none : Option (Option ℕ) → Option ℕ
or_none (Some seconds) = seconds
or_none None = None

-- whether the directives forbid storing, allow it, or say neither
unfoldable pub cacheable_of : CacheControl → Cacheable
cacheable_of cc =
    if has cc NoStore || is_bare (directive_given cc Private) then No
    else if has cc SMaxAge || has cc MaxAge || has cc Public then Yes
    else Default

-- a response to a request with Authorization may be stored
unfoldable pub allows_authorized : CacheControl → Bool
allows_authorized cc = has cc MustRevalidate || has cc Public || has cc SMaxAge

-- s-maxage decides; if it is absent or has no value, max-age does; if it can't be read, the response gets no lifetime
abbrev pub shared_age : Option (Option ℕ) → Option ℕ → Option ℕ
shared_age None max_age = None
shared_age (Some (Some seconds)) max_age = Some seconds
shared_age (Some None) max_age = max_age

-- for how many seconds the response is fresh
unfoldable pub fresh_seconds : CacheControl → Option ℕ
fresh_seconds cc = if is_bare (directive_given cc NoCache) then Some 0 else shared_age (seconds_in cc SMaxAge) (or_none (seconds_in cc MaxAge))

-- a stale response is not to be served
abbrev pub forbids_stale : CacheControl → Bool
forbids_stale cc = has cc MustRevalidate || has cc ProxyRevalidate || has cc SMaxAge

-- for how many seconds a stale response may be served, by the directive under a key
unfoldable pub stale_seconds : CacheControl → DirectiveKey → Option ℕ
stale_seconds cc key = if forbids_stale cc then Some 0 else or_none (seconds_in cc key)

-- seconds, as nanoseconds
abbrev pub as_duration : Option ℕ → Option ℕ
as_duration seconds = option_map (λ s. s * 1_000_000_000) seconds

-- fields without those of these names, which are compared without regard to case
abbrev pub without_fields : Entries FieldValue → Option (List (List ℕ)) → Entries FieldValue
without_fields fields None = fields
without_fields fields (Some names) = fold (λ left name. remove left (lowercase name)) fields names

-- the head without the fields that `private` and `no-cache` list
unfoldable pub stripped : CacheControl → ResponseHeader → ResponseHeader
stripped cc header = record header {
  headers = without_fields (without_fields header.headers (names_in (directive_given cc Private))) (names_in (directive_given cc NoCache));
}
