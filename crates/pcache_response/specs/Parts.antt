-- The parts that a parser gives of a response (own).
use Rattle.std.specs.Prelude.{ℕ, ◌-◌, Bool, false, ◌==◌, nat_lt, if◌then◌else◌, List, [], ◌∷◌, ◌++◌, length, fold, Option, Some, None}
use Rattle.pcache_meta.specs.declared.header.ResponseHeader.{ResponseHeader}
use Rattle.pcache_response.specs.Response.{Response, declared_body, is_whole}
use Rattle.pcache_response.specs.declared.response_parse.ParsePart.{ParsePart}
use Rattle.pcache_response.specs.declared.response_parse.ParsePart.TheVariants as part
use Rattle.pcache_response.specs.declared.response_parse.PieceParts.{PieceParts}

-- what was given of a response: its head, the bytes of its body joined, and whether it is whole
pub record Given : Type 0 where
  pub head : Option ResponseHeader
  pub body : List ℕ
  pub whole : Bool

abbrev pub nothing : Given
nothing = record { head = None; body = []; whole = false }

-- what is given of a response altogether
abbrev pub given_in_all : Response → Given
given_in_all r = record { head = Some r.head; body = declared_body r.size r.behind; whole = is_whole r.size r.behind }

-- with one more part
abbrev pub add : Given → ParsePart → Given
add g (part.Head head whole) = record { head = Some head; body = g.body; whole = whole }
add g (part.Body bytes whole) = record { head = g.head; body = g.body ++ bytes; whole = whole }

-- with more parts, in turn
abbrev pub add_all : Given → List ParsePart → Given
add_all g parts = fold add g parts

-- the parts for bytes of a body of which so many are missing: no part is empty
abbrev pub body_parts : Option ℕ → List ℕ → List ParsePart
body_parts left bytes =
    if length (declared_body left bytes) == 0 then [] else part.Body (declared_body left bytes) (is_whole left bytes) ∷ []

-- how many bytes of a body are missing after some more bytes
abbrev pub left_behind : Option ℕ → ℕ → Option ℕ
left_behind None count = None
left_behind (Some n) count = Some (n - count)

-- whether bytes of the body are still missing
abbrev pub is_missing : Option ℕ → Bool
is_missing None = false
is_missing (Some n) = nat_lt 0 n

-- the parts that are given for one piece, if the head ends in it
abbrev pub whole_parts : Response → List ParsePart
whole_parts r = part.Head r.head (is_whole r.size []) ∷ body_parts r.size r.behind

-- the parts that a piece brings, in their order
abbrev pub head_of : Option (ResponseHeader × Bool) → List ParsePart
head_of None = []
head_of (Some h) = part.Head h.0 h.1 ∷ []

abbrev pub body_of : Option (List ℕ × Bool) → List ParsePart
body_of None = []
body_of (Some b) = part.Body b.0 b.1 ∷ []

abbrev pub parts_of : PieceParts → List ParsePart
parts_of p = head_of p.head ++ body_of p.body
