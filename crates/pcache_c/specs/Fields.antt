-- What is said of the status and the fields of a head: one that was made, or that of a stored response (own; that names of
-- fields are read in any case is RFC 9110, 5.1).
use Rattle.std.specs.Prelude.{◌≡◌, ℕ, List, Option, None, Some, length, slice_get}
use Rattle.http_header.specs.HeaderMap.{get_all, pairs}
use Rattle.http_header.specs.Token.{lowercase}
use Rattle.pcache_meta.specs.Header.{Header, shown}
use Rattle.pcache_c.specs.Codes.{nothing, ok}
use Rattle.pcache_c.specs.Managers.{IsWritten}
use Rattle.pcache_c.specs.Values.{AreWritten}
use Rattle.pcache_c.specs.declared.object.Object.{Object}
use Rattle.pcache_c.specs.declared.object.Object.TheVariants as object

-- the head of an object that has one
abbrev pub head_shown : Object → Option Header
head_shown (object.Head h) = Some (shown h)
head_shown (object.Meta m) = Some m.header
head_shown _ = None

abbrev pub SaysStatus : Header → ℕ → ℕ → Type 0
SaysStatus h status code = (code ≡ ok) × (status ≡ h.status)

-- the values of a name in any case, in their order
abbrev pub values_of : Header → List ℕ → List (List ℕ)
values_of h name = get_all h.fields (lowercase name)

abbrev pub CountsValues : Header → List ℕ → ℕ → ℕ → Type 0
CountsValues h name count code = (code ≡ ok) × (count ≡ length (values_of h name))

-- bytes go to a buffer and their length is said, or there are none
abbrev pub SaysBytes : Option (List ℕ) → List ℕ → List ℕ → ℕ → ℕ → Type 0
SaysBytes None old new said code = (code ≡ nothing) × (new ≡ old)
SaysBytes (Some bytes) old new said code = (said ≡ length bytes) × IsWritten bytes old new code

-- the value with this number of those of a name
abbrev pub SaysValue : Header → List ℕ → ℕ → List ℕ → List ℕ → ℕ → ℕ → Type 0
SaysValue h name index old new said code = SaysBytes (slice_get (values_of h name) index) old new said code

-- a name and a value go to two buffers and their lengths are said, or there is no such field
abbrev pub SaysPair : Option (List ℕ × List ℕ) → List ℕ → List ℕ → List ℕ → List ℕ → ℕ → ℕ → ℕ → Type 0
SaysPair None one one_after two two_after one_said two_said code = (code ≡ nothing) × (one_after ≡ one) × (two_after ≡ two)
SaysPair (Some p) one one_after two two_after one_said two_said code =
    (one_said ≡ length p.0) × (two_said ≡ length p.1) × AreWritten p.0 p.1 one one_after two two_after code

-- the field with this number: each value with its name, those of one name together, the names in the order in which they came
abbrev pub SaysField : Header → ℕ → List ℕ → List ℕ → List ℕ → List ℕ → ℕ → ℕ → ℕ → Type 0
SaysField h index one one_after two two_after one_said two_said code =
    SaysPair (slice_get (pairs h.fields) index) one one_after two two_after one_said two_said code
