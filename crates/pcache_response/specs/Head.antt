-- What the head of a response is (RFC 9112, as `httparse` reads it), and what is kept of it.
use Rattle.std.specs.Prelude.{◌≡◌, ℕ, ◌≤◌, List, [], map, length, All, ◌==◌, if◌then◌else◌}
use Rattle.httparse.specs.Grammar.{ResponseHead, ReadsResponse, status_code}
use Rattle.httparse.specs.Spans.{name_and_value}
use Rattle.http.specs.StatusCode.{IsStatusCode}
use Rattle.pcache_meta.specs.declared.header.HttpVersion.{HttpVersion}
use Rattle.pcache_meta.specs.declared.header.HttpVersion.TheVariants.{Http10, Http11}
use Rattle.pcache_meta.specs.declared.header.ResponseHeader.{ResponseHeader}
use Rattle.pcache_response.specs.Fields.{IsShort, fields_after}

-- all of the bytes are a head of the grammar, with at most `room` fields
pub record IsHead (room : ℕ) (bytes : List ℕ) (h : ResponseHead) : Type 0 where
  pub reads : ReadsResponse bytes h []
  pub few : length h.fields ≤ room

-- what `http` and `http_header` require beyond the grammar's rules: a status from 100 on, names that are not too long
pub record IsAccepted (h : ResponseHead) : Type 0 where
  pub status : IsStatusCode (status_code h)
  pub names : All IsShort (map name_and_value h.fields)

abbrev pub version_of : ℕ → HttpVersion
version_of minor = if minor == 0 then Http10 else Http11

-- what is kept of a head: version, status, and the fields appended in turn, their names in lower case, their
-- values without the white space around them
abbrev pub header_of : ResponseHead → ResponseHeader
header_of h = record { version = version_of h.minor; status = status_code h; headers = fields_after (map name_and_value h.fields) }

-- all of the bytes are a head, and this is kept of it
abbrev pub ReadsHeader : List ℕ → ResponseHeader → Type 0
ReadsHeader bytes header = (h : ResponseHead) × IsHead 256 bytes h × IsAccepted h × (header ≡ header_of h)
