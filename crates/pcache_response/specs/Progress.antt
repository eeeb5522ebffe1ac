-- The states of a parser (own).
use Rattle.std.specs.Prelude.{◌≡◌, ℕ, ◌⊎◌, Option, List, [], ◌++◌, length}
use Rattle.pcache_base.specs.declared.error.ErrorType.{ErrorType}
use Rattle.pcache_response.specs.HeadEnd.{IsUnfinished}
use Rattle.pcache_response.specs.Response.{Response, IsResponse}
use Rattle.pcache_response.specs.Parts.{Given, nothing, given_in_all, left_behind, body_parts, whole_parts}
use Rattle.pcache_response.specs.declared.response_parse.ParsePart.{ParsePart}
use Rattle.pcache_response.specs.declared.response_parse.Progress.{Progress}
use Rattle.pcache_response.specs.declared.response_parse.Progress.TheVariants as progress

-- the state of a parser: in a head that has not ended, of which these bytes have come; in a body of which so many
-- bytes are missing, None if it lasts to the end; after its end; or failing every call with this kind
pub data Parsed : Type 0 where
  AtHead : (bytes : List ℕ) → Parsed
  AtBody : (left : Option ℕ) → Parsed
  AtEnd : Parsed
  HasFailed : (kind : ErrorType) → Parsed

-- the state, of the code's representation
abbrev pub parsed_of : Progress → Parsed
parsed_of (progress.Head kept) = AtHead kept
parsed_of (progress.Body left) = AtBody left
parsed_of progress.Finished = AtEnd
parsed_of (progress.Failed kind) = HasFailed kind

-- the parser has taken in these bytes, split in whatever way, and has given g: what the bytes say, taken together. It
-- never holds for a parser that has finished or failed
abbrev pub TakenIn : Parsed → List ℕ → Given → Type 0
TakenIn (AtHead kept) bytes g = (kept ≡ bytes) × IsUnfinished bytes × (g ≡ nothing)
TakenIn (AtBody left) bytes g =
    (r : Response) × IsResponse bytes r × (left ≡ left_behind r.size (length r.behind)) × (g ≡ given_in_all r)
TakenIn AtEnd bytes g = ⊥
TakenIn (HasFailed kind) bytes g = ⊥

-- the parts that are given for a piece
abbrev pub GivesParts : Parsed → List ℕ → List ParsePart → Type 0
GivesParts (AtHead kept) piece parts =
    (IsUnfinished (kept ++ piece) × (parts ≡ []))
    ⊎ ((r : Response) × IsResponse (kept ++ piece) r × (parts ≡ whole_parts r))
GivesParts (AtBody left) piece parts = parts ≡ body_parts left piece
GivesParts AtEnd piece parts = parts ≡ []
GivesParts (HasFailed kind) piece parts = ⊥
