-- Which URIs a response takes away besides its target (RFC 9111 section 4.4), as texts (own).
use Rattle.std.specs.Prelude.{◌≡◌, ◌⊎◌, ℕ, List, [], Option, Some, None, Ok, codes, length}
use Rattle.std.specs.Str.{IsUtf8}
use Rattle.url.specs.Parser.{parse_url}
use Rattle.url.specs.Parts.{Parts, serialize}
use Rattle.pcache_meta.specs.Header.{shown_fields}
use Rattle.pcache_meta.specs.declared.header.ResponseHeader.{ResponseHeader}
use Rattle.pcache_validation.specs.Fields.{only}
use Rattle.pcache_validation.specs.Unsafe.{IsNamedBy}
use Rattle.pcache_c.specs.Codes.{bad_value, no_memory}
use Rattle.pcache_c.specs.Values.{AreWritten}

-- the bytes are the text of this URI (the URL Standard)
pub record IsUri (bytes : List ℕ) (uri : Parts) : Type 0 where
  pub text : IsUtf8 bytes
  pub read : parse_url None bytes ≡ Ok uri

-- with the URI of a text, what follows; or it is none; or there was no room for it
abbrev pub OnUri : List ℕ → ℕ → Type 0 → (Parts → Type 0) → Type 0
OnUri bytes code same does =
    ((code ≡ bad_value) × ((u : Parts) → ¬ (IsUri bytes u)) × same) ⊎ ((code ≡ no_memory) × same) ⊎ ((u : Parts) × IsUri bytes u × does u)

-- a URI as text, and no bytes for none
abbrev pub uri_text : Option Parts → List ℕ
uri_text None = []
uri_text (Some u) = serialize u

-- what Location and Content-Location name of the target's origin, in two buffers
pub record WritesTaken (target : Parts) (h : ResponseHeader) (location content : Option Parts) (first first_after second second_after : List ℕ) (first_said second_said code : ℕ) : Type 0 where
  pub location_is : IsNamedBy target (only (shown_fields h.headers) (codes "location")) location
  pub content_is : IsNamedBy target (only (shown_fields h.headers) (codes "content-location")) content
  pub first_len : first_said ≡ length (uri_text location)
  pub second_len : second_said ≡ length (uri_text content)
  pub how : AreWritten (uri_text location) (uri_text content) first first_after second second_after code

abbrev pub TakesAway : Parts → ResponseHeader → List ℕ → List ℕ → List ℕ → List ℕ → ℕ → ℕ → ℕ → Type 0
TakesAway target h first first_after second second_after first_said second_said code =
    ((code ≡ no_memory) × (first_after ≡ first) × (second_after ≡ second))
    ⊎ ((location : Option Parts) × (content : Option Parts) × WritesTaken target h location content first first_after second second_after first_said second_said code)
