-- What the bytes of a response say, all that have come taken together (RFC 9112; where the head ends is own).
use Rattle.std.specs.Prelude.{◌≡◌, ℕ, ◌<◌, ◌^◌, Bool, true, false, ◌||◌, ◌==◌, nat_le, List, length, take, drop, Option, Some, None, codes}
use Rattle.std.specs.Option.{SomeIff}
use Rattle.std.specs.Str.Parse.{IsNumeral, digits_value, without_leading_plus}
use Rattle.http_header.specs.FieldValue.{FieldValue}
use Rattle.http_header.specs.HeaderMap.{get}
use Rattle.pcache_meta.specs.declared.header.ResponseHeader.{ResponseHeader}
use Rattle.pcache_response.specs.Head.{ReadsHeader}
use Rattle.pcache_response.specs.HeadEnd.{EndsAt}

-- the length that a value spells: an optional plus and digits, within 64 bits
abbrev pub SpellsLength : List ℕ → Option ℕ → Type 0
SpellsLength bytes size =
    SomeIff size (IsNumeral 10 (without_leading_plus bytes) × (digits_value 10 (without_leading_plus bytes) < 2 ^ 64)) (digits_value 10 (without_leading_plus bytes))

-- statuses whose responses have no body (RFC 9110 section 6.4.1)
abbrev pub is_bodiless : ℕ → Bool
is_bodiless status = (status == 204) || (status == 304)

-- how many bytes a body has, by whether its status has none and by the first Content-Length; None if it lasts to the
-- end
abbrev pub HasSizeBy : Bool → Option FieldValue → Option ℕ → Type 0
HasSizeBy true field size = size ≡ Some 0
HasSizeBy false None size = size ≡ None
HasSizeBy false (Some value) size = SpellsLength value.bytes size

abbrev pub HasSize : ResponseHeader → Option ℕ → Type 0
HasSize head size = HasSizeBy (is_bodiless head.status) (get head.headers (codes "content-length")) size

-- a response whose head has ended: the head, the size of its body, and the bytes after the head
pub record Response : Type 0 where
  pub head : ResponseHeader
  pub size : Option ℕ
  pub behind : List ℕ

-- the bytes so far are this response, as far as it has come
pub record IsResponse (bytes : List ℕ) (r : Response) : Type 0 where
  pub cut : ℕ
  pub ends : EndsAt bytes cut
  pub head : ReadsHeader (take cut bytes) r.head
  pub size : HasSize r.head r.size
  pub behind : r.behind ≡ drop cut bytes

-- the head has ended, and can't be read
pub record IsUnreadable (bytes : List ℕ) : Type 0 where
  pub cut : ℕ
  pub ends : EndsAt bytes cut
  pub no_head : (head : ResponseHeader) → ¬ (ReadsHeader (take cut bytes) head)

-- the body, as far as it has come; bytes after its end do not belong to it
abbrev pub declared_body : Option ℕ → List ℕ → List ℕ
declared_body None behind = behind
declared_body (Some n) behind = take n behind

-- whether the whole body is known to have come
abbrev pub is_whole : Option ℕ → List ℕ → Bool
is_whole None behind = false
is_whole (Some n) behind = nat_le n (length behind)

-- whether the response may end here
abbrev pub may_end : Option ℕ → List ℕ → Bool
may_end None behind = true
may_end (Some n) behind = nat_le n (length behind)

-- the bytes so far are a response that may end here
abbrev pub IsComplete : List ℕ → Type 0
IsComplete bytes = (r : Response) × IsResponse bytes r × (may_end r.size r.behind ≡ true)
