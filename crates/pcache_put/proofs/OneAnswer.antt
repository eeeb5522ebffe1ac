-- The default policy decides one way on a head at a moment.
use Rattle.std.specs.Prelude.{◌||◌, codes, is_some, option_and_then}
use Rattle.std.specs.Duration.{as_nanos}
use Rattle.std.specs.Map.{lookup}
use Rattle.std.specs.Option.{option_map}
use Rattle.pcache_control.proofs.Found.{given_by_name}
use Rattle.pcache_control.specs.Control.{directive_given, ReadsField, ReadsOneMap, is_bare, value_in, names_in, seconds_at, or_none, cacheable_of, shared_age, fresh_seconds, stale_seconds, as_duration, without_fields, stripped}
use Rattle.pcache_control.specs.Defaults.{asked_status}
use Rattle.pcache_control.specs.Filters.{end_of, expires_of, forbids, is_no, or_else, said_moment, new_meta, windows, windows_of, stored_header}
use Rattle.pcache_control.specs.Names.{is_known, is_known_name, name_of}
use Rattle.pcache_control.specs.Responses.{IsDecision, decision_on}
use Rattle.pcache_control.specs.declared.cache_control.CacheControl.{CacheControl}
use Rattle.pcache_control.specs.declared.cache_control.Cacheable.TheVariants.{Yes, No, Default}
use Rattle.pcache_control.specs.declared.key.DirectiveKey.{DirectiveKey}
use Rattle.pcache_control.specs.declared.key.DirectiveKey.TheVariants.{MaxAge, SMaxAge, NoCache, NoStore, Private, Public, MustRevalidate, ProxyRevalidate, MustUnderstand, NoTransform, Immutable, StaleWhileRevalidate, StaleIfError, OnlyIfCached, Unknown}
use Rattle.pcache_put.specs.Policies.{DecidesOneWay, HaveOneLifetime}
use Rattle.pcache_put.proofs.Words.{◌≡◌, ℕ, Bool, true, false, Option, None, Some, refl, sym, ap, subst, ◌∙◌, bytes_eq, if◌then◌else◌, MatchBool, Duration, FreshBy, RespCacheable, Cacheable, ResponseHeader, SaysByDefault}

-- ---- the directives

named : (k : DirectiveKey) → is_known k ≡ true → is_known k ≡ is_known_name (name_of k)
unfolding is_known_name
named MaxAge known = refl
named SMaxAge known = refl
named NoCache known = refl
named NoStore known = refl
named Private known = refl
named Public known = refl
named MustRevalidate known = refl
named ProxyRevalidate known = refl
named MustUnderstand known = refl
named NoTransform known = refl
named Immutable known = refl
named StaleWhileRevalidate known = refl
named StaleIfError known = refl
named OnlyIfCached known = refl
named (Unknown name) known = absurd cc

-- two that say the same
record Alike (c d : CacheControl) : Type 0 where
  given : (k : DirectiveKey) → is_known k ≡ true → directive_given c k ≡ directive_given d k
  floor : c.allow_float_seconds ≡ d.allow_float_seconds

cacheable-alike : (c d : CacheControl) → Alike c d → cacheable_of c ≡ cacheable_of d
unfolding cacheable_of
cacheable-alike c d x = λ i.
    if is_some (x.given NoStore refl i) || is_bare (x.given Private refl i) then No
    else if is_some (x.given SMaxAge refl i) || is_some (x.given MaxAge refl i) || is_some (x.given Public refl i) then Yes
    else Default

fresh-alike : (c d : CacheControl) → Alike c d → fresh_seconds c ≡ fresh_seconds d
unfolding fresh_seconds
fresh-alike c d x = λ i.
    if is_bare (x.given NoCache refl i) then Some 0
    else shared_age (seconds_at (x.floor i) (value_in (x.given SMaxAge refl i))) (or_none (seconds_at (x.floor i) (value_in (x.given MaxAge refl i))))

stale-alike : (c d : CacheControl) (k : DirectiveKey) → is_known k ≡ true → Alike c d → stale_seconds c k ≡ stale_seconds d k
unfolding stale_seconds
stale-alike c d k known x = λ i.
    if is_some (x.given MustRevalidate refl i) || is_some (x.given ProxyRevalidate refl i) || is_some (x.given SMaxAge refl i) then Some 0
    else or_none (seconds_at (x.floor i) (value_in (x.given k known i)))

stripped-alike : (c d : CacheControl) (header : ResponseHeader) → Alike c d → stripped c header ≡ stripped d header
unfolding stripped
stripped-alike c d header x = λ i. record header {
  headers = without_fields (without_fields header.headers (names_in (x.given Private refl i))) (names_in (x.given NoCache refl i));
}

-- ---- what was read

abbrev AreAlike : Option CacheControl → Option CacheControl → Type 0
AreAlike None None = Unit {0}
AreAlike (Some c) (Some d) = Alike c d
AreAlike None (Some d) = ⊥
AreAlike (Some c) None = ⊥

read-alike : (header : ResponseHeader) (cc dd : Option CacheControl) → ReadsField header.headers (codes "cache-control") cc → ReadsOneMap header.headers (codes "cache-control") cc
    → ReadsField header.headers (codes "cache-control") dd → ReadsOneMap header.headers (codes "cache-control") dd → AreAlike cc dd
read-alike header None None r once r' once' = tt
read-alike header None (Some d) r once r' once' = absurd (r r'.0)
read-alike header (Some c) None r once r' once' = absurd (r' r.0)
read-alike header (Some c) (Some d) r once r' once' =
    let one = once r.1.spans r.1.found ∙ sym (once' r.1.spans r.1.found) in
    record {
      given = λ k known. given_by_name c k (named k known) r.1.named ∙ ap (lookup (bytes_eq (name_of k))) one ∙ sym (given_by_name d k (named k known) r'.1.named);
      floor = r.2 ∙ sym r'.2;
    }

forbids-alike : (cc dd : Option CacheControl) → AreAlike cc dd → forbids cc false ≡ forbids dd false
unfolding forbids
forbids-alike None None x = refl
forbids-alike None (Some d) x = absurd x
forbids-alike (Some c) None x = absurd x
forbids-alike (Some c) (Some d) x = λ i. is_no (cacheable-alike c d x i)

said-alike : (now : ℕ) (header : ResponseHeader) (cc dd : Option CacheControl) → AreAlike cc dd → said_moment now cc header.headers ≡ said_moment now dd header.headers
unfolding said_moment
said-alike now header None None x = refl
said-alike now header None (Some d) x = absurd x
said-alike now header (Some c) None x = absurd x
said-alike now header (Some c) (Some d) x = λ i. or_else (option_and_then (end_of now) (as_duration (fresh-alike c d x i))) (expires_of header.headers)

windows-alike : (defaults : ℕ × ℕ) (cc dd : Option CacheControl) → AreAlike cc dd → windows_of cc defaults ≡ windows_of dd defaults
windows-alike defaults None None x = refl
windows-alike defaults None (Some d) x = absurd x
windows-alike defaults (Some c) None x = absurd x
windows-alike defaults (Some c) (Some d) x = λ i. windows (as_duration (stale-alike c d StaleWhileRevalidate refl x i)) (as_duration (stale-alike c d StaleIfError refl x i)) defaults

header-alike : (header : ResponseHeader) (cc dd : Option CacheControl) → AreAlike cc dd → stored_header cc header ≡ stored_header dd header
header-alike header None None x = refl
header-alike header None (Some d) x = absurd x
header-alike header (Some c) None x = absurd x
header-alike header (Some c) (Some d) x = stripped-alike c d header x

-- ---- the answer

abbrev IsOne : (Option Duration → Type 0) → Type 0
IsOne P = (a b : Option Duration) → P a → P b → option_map as_nanos a ≡ option_map as_nanos b

fresh-by : (now : ℕ) (o : Option ℕ) (P : Option Duration → Type 0) (f g : Option ℕ) → IsOne P → FreshBy now o P f → FreshBy now o P g → f ≡ g
fresh-by now (Some m) P f g one h k = h ∙ sym k
fresh-by now None P f g one h k = h.2 ∙ ap (option_and_then (end_of now)) (one h.0 k.0 h.1 k.1) ∙ sym k.2

fresh-one : (b : Bool) (now : ℕ) (o : Option ℕ) (P : Option Duration → Type 0) (f g : Option ℕ) → IsOne P → MatchBool b (f ≡ None) (FreshBy now o P f) → MatchBool b (g ≡ None) (FreshBy now o P g) → f ≡ g
fresh-one true now o P f g one h k = h ∙ sym k
fresh-one false now o P f g one h k = fresh-by now o P f g one h k

outcome-alike : (now : ℕ) (defaults : ℕ × ℕ) (header : ResponseHeader) (f : Option ℕ) (cc dd : Option CacheControl) → AreAlike cc dd → decision_on now cc defaults header f ≡ decision_on now dd defaults header f
outcome-alike now defaults header None cc dd x = refl
outcome-alike now defaults header (Some moment) cc dd x = λ i. Cacheable (new_meta now moment (windows-alike defaults cc dd x i) (header-alike header cc dd x i))

one-outcome : (now : ℕ) (defaults : ℕ × ℕ) (header : ResponseHeader) (P : Option Duration → Type 0) (cc dd : Option CacheControl) (a b : RespCacheable) → AreAlike cc dd → IsOne P
    → IsDecision now cc defaults header false P a → IsDecision now dd defaults header false P b → a ≡ b
one-outcome now defaults header P cc dd a b x one h k =
    let moved = subst (λ t. MatchBool t (k.0 ≡ None) (FreshBy now (said_moment now cc header.headers) P k.0)) (sym (forbids-alike cc dd x))
    (subst (λ o. MatchBool (forbids dd false) (k.0 ≡ None) (FreshBy now o P k.0)) (sym (said-alike now header cc dd x)) k.1) in
    let same : h.0 ≡ k.0 = fresh-one (forbids cc false) now (said_moment now cc header.headers) P h.0 k.0 one h.1 moved in
    h.2 ∙ outcome-alike now defaults header h.0 cc dd x ∙ ap (decision_on now dd defaults header) same ∙ sym k.2

pub one_by_default : (defaults : ℕ × ℕ) (lifetimes : ℕ → Option Duration → Type 0) → HaveOneLifetime lifetimes → DecidesOneWay (SaysByDefault defaults lifetimes)
one_by_default defaults lifetimes one = λ header now a b h k.
    one-outcome now defaults header (lifetimes (asked_status header.status)) h.0 k.0 a b (read-alike header h.0 k.0 h.1 h.2 k.1 k.2) (one (asked_status header.status)) h.3 k.3

pub one_by_time : (windows : ℕ × ℕ) (lifetimes : ℕ → Option ℕ) → DecidesOneWay (SaysByDefault windows (λ status lifetime. option_map as_nanos lifetime ≡ lifetimes status))
one_by_time windows lifetimes = one_by_default windows (λ status lifetime. option_map as_nanos lifetime ≡ lifetimes status) (λ status a b p q. p ∙ sym q)

pub one_by_none : (windows : ℕ × ℕ) → DecidesOneWay (SaysByDefault windows (λ status lifetime. lifetime ≡ None))
one_by_none windows = one_by_default windows (λ status lifetime. lifetime ≡ None) (λ status a b p q. ap (λ (d : Option Duration). option_map as_nanos d) (p ∙ sym q))
