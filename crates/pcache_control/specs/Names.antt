-- The names of directives (RFC 9111 section 5.2, RFC 5861, RFC 8246).
use Rattle.std.specs.Prelude.{◌≡◌, ℕ, Bool, true, false, List, [], ◌∷◌, codes, bytes_eq, string_bytes}
use Rattle.std.specs.List.{list_any}
use Rattle.pcache_control.specs.declared.key.DirectiveKey.{DirectiveKey}
use Rattle.pcache_control.specs.declared.key.DirectiveKey.TheVariants.{MaxAge, SMaxAge, NoCache, NoStore, Private, Public, MustRevalidate, ProxyRevalidate, MustUnderstand, NoTransform, Immutable, StaleWhileRevalidate, StaleIfError, OnlyIfCached, Unknown}

-- the name of a key
abbrev pub name_of : DirectiveKey → List ℕ
name_of MaxAge = codes "max-age"
name_of SMaxAge = codes "s-maxage"
name_of NoCache = codes "no-cache"
name_of NoStore = codes "no-store"
name_of Private = codes "private"
name_of Public = codes "public"
name_of MustRevalidate = codes "must-revalidate"
name_of ProxyRevalidate = codes "proxy-revalidate"
name_of MustUnderstand = codes "must-understand"
name_of NoTransform = codes "no-transform"
name_of Immutable = codes "immutable"
name_of StaleWhileRevalidate = codes "stale-while-revalidate"
name_of StaleIfError = codes "stale-if-error"
name_of OnlyIfCached = codes "only-if-cached"
name_of (Unknown name) = string_bytes name

-- the key is one of the fourteen known ones
abbrev pub is_known : DirectiveKey → Bool
is_known (Unknown name) = false
is_known key = true

abbrev pub known_names : List (List ℕ)
known_names = codes "max-age" ∷ codes "s-maxage" ∷ codes "no-cache" ∷ codes "no-store" ∷ codes "private" ∷ codes "public"
    ∷ codes "must-revalidate" ∷ codes "proxy-revalidate" ∷ codes "must-understand" ∷ codes "no-transform" ∷ codes "immutable"
    ∷ codes "stale-while-revalidate" ∷ codes "stale-if-error" ∷ codes "only-if-cached" ∷ []

-- the name is that of one of the fourteen
unfoldable pub is_known_name : List ℕ → Bool
is_known_name name = list_any (λ known. bytes_eq name known) known_names

-- the key of a name: known exactly when the name is
pub record IsNamed (text : List ℕ) (key : DirectiveKey) : Type 0 where
  pub name : name_of key ≡ text
  pub known : is_known key ≡ is_known_name text
