-- Which fields of a stored response a 304 that is made of it has (RFC 9110 section 15.4.5).
use Rattle.std.specs.Prelude.{◌≡◌, ◌⊎◌, ℕ, false, List, codes}
use Rattle.pcache_meta.specs.Header.{Fields}
use Rattle.pcache_validation.specs.Fields.{has}

-- RFC 9110, 15.4.5, MUST: a 304 has those of these fields that a 200 to the same request would have
abbrev pub IsOwed : List ℕ → Type 0
IsOwed name =
    (name ≡ codes "content-location")
    ⊎ ((name ≡ codes "date")
    ⊎ ((name ≡ codes "etag") ⊎ ((name ≡ codes "vary") ⊎ ((name ≡ codes "cache-control") ⊎ (name ≡ codes "expires")))))

-- RFC 9110, 15.4.5, SHOULD NOT: it has no other metadata of the representation, but for a Last-Modified where there is no
-- ETag
abbrev pub IsSent : Fields → List ℕ → Type 0
IsSent stored name = IsOwed name ⊎ ((name ≡ codes "last-modified") × (has stored (codes "etag") ≡ false))
