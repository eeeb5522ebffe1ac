-- Validators of a response (RFC 9110 section 8.8).
use Rattle.std.specs.Prelude.{ℕ, Bool, false, not, ◌||◌, Option, Some, None, is_some, option_and_then, codes, if◌then◌else◌}
use Rattle.pcache_meta.specs.Header.{Fields}
use Rattle.pcache_validation.specs.Lists.{trim_ows}
use Rattle.pcache_validation.specs.EntityTags.{Tag, tag_in}
use Rattle.pcache_validation.specs.Fields.{only, date_of}
use Rattle.pcache_validation.specs.declared.validators.Validator.{Validator}
use Rattle.pcache_validation.specs.declared.validators.Validator.TheVariants.{Strong, Weak, Absent}

-- RFC 9110, 8.8.3: ETag = entity-tag. Several lines, or a line that spells no entity tag, count as no ETag
unfoldable pub entity_tag : Fields → Option Tag
entity_tag fields = option_and_then (λ value. tag_in (trim_ows value)) (only fields (codes "etag"))

-- RFC 9110, 8.8.2: Last-Modified = HTTP-date
unfoldable pub last_modified : Fields → Option ℕ
last_modified fields = date_of fields (codes "last-modified")

-- RFC 9110, 8.8.3: an entity tag is a strong validator unless it is marked as weak
abbrev pub tag_is_strong : Option Tag → Bool
tag_is_strong (Some tag) = not tag.weak
tag_is_strong None = false

abbrev pub is_strong : Fields → Bool
is_strong fields = tag_is_strong (entity_tag fields)

-- the response has a validator: an entity tag or a modification date
abbrev pub has_validator : Fields → Bool
has_validator fields = is_some (entity_tag fields) || is_some (last_modified fields)

-- RFC 9110, 8.8.1 and 8.8.2.2: a modification date is implicitly weak. That it may be deduced to be strong is not used
abbrev pub validator_of : Fields → Validator
validator_of fields = if is_strong fields then Strong else if has_validator fields then Weak else Absent
