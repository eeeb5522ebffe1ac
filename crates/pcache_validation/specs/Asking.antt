-- With which validators a cache asks again (RFC 9111 section 4.3.1; RFC 9110 section 13.1.3).
use Rattle.std.specs.Prelude.{ℕ, List, Option, None, is_some, codes, if◌then◌else◌}
use Rattle.pcache_meta.specs.Header.{Fields}
use Rattle.pcache_validation.specs.Fields.{first, has, date_of}
use Rattle.pcache_validation.specs.Validators.{entity_tag}

-- RFC 9111, 4.3.1, MUST: the entity tag of the stored response is sent in If-None-Match, as it stands in its ETag
abbrev pub sent_tag : Fields → Option (List ℕ)
sent_tag stored = if is_some (entity_tag stored) then first stored (codes "etag") else None

-- the value of a field that is a date
abbrev pub sent_date : Fields → List ℕ → Option (List ℕ)
sent_date stored name = if is_some (date_of stored name) then first stored name else None

-- RFC 9111, 4.3.1, SHOULD: the Last-Modified of the stored response is sent in If-Modified-Since. RFC 9110, 13.1.3, MAY:
-- without a Last-Modified it is the Date
abbrev pub sent_since : Fields → Option (List ℕ)
sent_since stored =
    if has stored (codes "last-modified") then sent_date stored (codes "last-modified") else sent_date stored (codes "date")
