-- What the Cache-Control of a request and of a response says (RFC 9111 sections 5.2.1, 5.2.2 and 5.4; RFC 5861).
use Rattle.std.specs.Prelude.{◌≡◌, ℕ, Bool, true, false, List, [], ◌∷◌, Option, Some, None, codes, is_some}
use Rattle.http_header.specs.FieldValue.{FieldValue}
use Rattle.http_header.specs.HeaderMap.{Entries, get_all, ContainsKey}
use Rattle.pcache_control.specs.Maps.{lines_of}
use Rattle.pcache_http.specs.declared.control.Reach.{Reach}
use Rattle.pcache_http.specs.declared.control.Reach.TheVariants.{Nothing, Fields, Whole}
use Rattle.pcache_http.specs.declared.control.ResponseControl.{ResponseControl}
use Rattle.pcache_http.specs.declared.control.RequestControl.{RequestControl}
use Rattle.pcache_http.specs.declared.seconds.Number.TheVariants.{Absent}
use Rattle.pcache_http.specs.Seconds.{amount_of, counted}
use Rattle.pcache_http.specs.Said.{Directive, IsMeaning, mentions, values_of}

-- RFC 9111 5.2.2.4 and 5.2.2.7: without an argument the directive holds for the whole response, with one for the fields
-- that it lists; one without an argument outweighs the others
abbrev pub with_fields : Reach → Reach
with_fields Nothing = Fields
with_fields Fields = Fields
with_fields Whole = Whole

abbrev pub reach_of : List (Option (List ℕ)) → Reach
reach_of [] = Nothing
reach_of (None ∷ values) = Whole
reach_of (Some value ∷ values) = with_fields (reach_of values)

-- what a response's directives say (RFC 9111 5.2.2, RFC 5861 3 and 4)
abbrev pub response_control : List Directive → ResponseControl
response_control said = record {
  no_store = mentions (codes "no-store") said;
  no_cache = reach_of (values_of (codes "no-cache") said);
  private = reach_of (values_of (codes "private") said);
  public = mentions (codes "public") said;
  must_revalidate = mentions (codes "must-revalidate") said;
  proxy_revalidate = mentions (codes "proxy-revalidate") said;
  must_understand = mentions (codes "must-understand") said;
  max_age = counted amount_of (values_of (codes "max-age") said);
  s_maxage = counted amount_of (values_of (codes "s-maxage") said);
  stale_while_revalidate = counted amount_of (values_of (codes "stale-while-revalidate") said);
  stale_if_error = counted amount_of (values_of (codes "stale-if-error") said);
}

-- what a request's directives say (RFC 9111 5.2.1, RFC 5861 4)
abbrev pub request_control : List Directive → RequestControl
request_control said = record {
  no_cache = mentions (codes "no-cache") said;
  no_store = mentions (codes "no-store") said;
  only_if_cached = mentions (codes "only-if-cached") said;
  max_age = counted amount_of (values_of (codes "max-age") said);
  max_stale = counted amount_of (values_of (codes "max-stale") said);
  min_fresh = counted amount_of (values_of (codes "min-fresh") said);
  stale_if_error = counted amount_of (values_of (codes "stale-if-error") said);
}

-- RFC 9111 5.4 (deprecated): of Pragma's directives only `no-cache` says something
abbrev pub pragma_control : List Directive → RequestControl
pragma_control said = record {
  no_cache = mentions (codes "no-cache") said;
  no_store = false;
  only_if_cached = false;
  max_age = Absent;
  max_stale = Absent;
  min_fresh = Absent;
  stale_if_error = Absent;
}

-- the lines of the fields of a name
abbrev pub lines_at : Entries FieldValue → List ℕ → List (List ℕ)
lines_at fields name = lines_of (get_all fields name)

-- what is read of a response's fields
abbrev pub SaysOfResponse : Entries FieldValue → ResponseControl → Type 0
SaysOfResponse fields control = IsMeaning response_control (lines_at fields (codes "cache-control")) control

-- what is read of a request's fields: Pragma counts only where there is no Cache-Control
pub record SaysOfRequest (fields : Entries FieldValue) (control : RequestControl) : Type 0 where
  pub cache_control : ContainsKey fields (codes "cache-control")
      → IsMeaning request_control (lines_at fields (codes "cache-control")) control
  pub pragma : ¬ (ContainsKey fields (codes "cache-control"))
      → IsMeaning pragma_control (lines_at fields (codes "pragma")) control
