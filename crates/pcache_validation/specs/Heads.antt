-- What the answer to a HEAD does to a stored response (RFC 9111 section 4.3.5).
use Rattle.std.specs.Prelude.{◌≡◌, ℕ, Bool, false, not, ◌||◌, List, bytes_eq, codes, Option, Some, None, IsTrue}
use Rattle.pcache_meta.specs.Header.{Fields}
use Rattle.pcache_validation.specs.Fields.{has, only}

abbrev pub same_value : Option (List ℕ) → Option (List ℕ) → Bool
same_value (Some a) (Some b) = bytes_eq a b
same_value (Some a) None = false
same_value None b = false

-- the field was not received, or it has the value that the stored response has
abbrev pub agrees_on : List ℕ → Fields → Fields → Bool
agrees_on name head stored = not (has head name) || same_value (only head name) (only stored name)

-- RFC 9111, 4.3.5, SHOULD: the stored response is updated if its values match those of any received validator field and
-- of a received Content-Length
pub record Agrees (head stored : Fields) : Type 0 where
  pub tag : IsTrue (agrees_on (codes "etag") head stored)
  pub date : IsTrue (agrees_on (codes "last-modified") head stored)
  pub length : IsTrue (agrees_on (codes "content-length") head stored)

-- a 200 is what counts
pub record Updates (status : ℕ) (head stored : Fields) : Type 0 where
  pub is_ok : status ≡ 200
  pub agrees : Agrees head stored

-- RFC 9111, 4.3.5, SHOULD: otherwise the stored response is considered stale
pub record MakesStale (status : ℕ) (head stored : Fields) : Type 0 where
  pub is_ok : status ≡ 200
  pub differs : ¬ (Agrees head stored)
