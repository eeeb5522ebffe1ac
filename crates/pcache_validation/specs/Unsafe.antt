-- What a response to an unsafe method invalidates (RFC 9111 section 4.4; RFC 9110 sections 4.3.1 and 9.2.1).
use Rattle.std.specs.Prelude.{◌≡◌, ◌≤◌, ◌<◌, ◌⊎◌, ℕ, List, codes, Option, Some, None, Ok, option_map}
use Rattle.std.specs.Option.{option_or}
use Rattle.std.specs.Str.{IsUtf8}
use Rattle.url.specs.Host.{host_text}
use Rattle.url.specs.Parser.{parse_url}
use Rattle.url.specs.Parts.{Parts, nonempty_host}
use Rattle.url.specs.Scheme.{default_port}

-- RFC 9110, 9.2.1: GET, HEAD, OPTIONS and TRACE are safe
abbrev pub IsSafe : List ℕ → Type 0
IsSafe method = (method ≡ codes "GET") ⊎ ((method ≡ codes "HEAD") ⊎ ((method ≡ codes "OPTIONS") ⊎ (method ≡ codes "TRACE")))

-- RFC 9111, 4.4: a non-error response is one with a 2xx or 3xx status code
abbrev pub IsNoError : ℕ → Type 0
IsNoError status = (200 ≤ status) × (status < 400)

-- RFC 9111, 4.4, MUST: the target URI is invalidated when a non-error status is received in response to an unsafe
-- method; a method whose safety is unknown counts as unsafe
pub record Invalidates (method : List ℕ) (status : ℕ) : Type 0 where
  pub is_unsafe : ¬ (IsSafe method)
  pub is_no_error : IsNoError status

-- RFC 9110, 4.3.1: the origin of a URI is its scheme, host and port; without a port it is the default one of the scheme
pub record AreOfOneOrigin (a b : Parts) : Type 0 where
  pub scheme : a.scheme ≡ b.scheme
  pub host : option_map host_text (nonempty_host a) ≡ option_map host_text (nonempty_host b)
  pub port : option_or a.port (default_port a.scheme) ≡ option_or b.port (default_port b.scheme)

-- RFC 9110, 10.2.2 and 8.7: a reference in Location or Content-Location is resolved against the target URI.
-- RFC 9111, 4.4, MUST NOT: a URI of another origin than that of the target is not invalidated
pub record IsOfOrigin (target : Parts) (reference : List ℕ) (uri : Parts) : Type 0 where
  pub text : IsUtf8 reference
  pub resolved : parse_url (Some target) reference ≡ Ok uri
  pub origin : AreOfOneOrigin target uri

-- RFC 9111, 4.4, MAY: the URI in the one line of a field is invalidated too, if it is of the origin of the target
abbrev pub IsNamedBy : Parts → Option (List ℕ) → Option Parts → Type 0
IsNamedBy target (Some reference) (Some uri) = IsOfOrigin target reference uri
IsNamedBy target (Some reference) None = (uri : Parts) → ¬ (IsOfOrigin target reference uri)
IsNamedBy target None uri = uri ≡ None
