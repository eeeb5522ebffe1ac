-- The outcome of a put, which is a response that is pushed in, in pieces (own). It depends on the bytes of all pieces
-- together, on the moment of the piece that ends the head, and on the limit on the body.
use Rattle.std.specs.Prelude.{◌≡◌, ℕ, ◌-◌, ◌^◌, ◌⊎◌, Bool, false, nat_lt, if◌then◌else◌, List, [], ◌∷◌, ◌++◌, length, min, Option, Some, None}
use Rattle.pcache_base.specs.declared.error.ErrorType.{ErrorType}
use Rattle.pcache_base.specs.declared.error.ErrorType.TheVariants.{InvalidHttpHeader, ResponseTooLarge, IncompleteHttpBody}
use Rattle.pcache_base.specs.declared.reason.NoCacheReason.{NoCacheReason}
use Rattle.pcache_control.specs.declared.response.RespCacheable.{RespCacheable}
use Rattle.pcache_control.specs.declared.response.RespCacheable.TheVariants.{Cacheable, Uncacheable}
use Rattle.pcache_meta.specs.Meta.{Meta}
use Rattle.pcache_meta.specs.declared.header.ResponseHeader.{ResponseHeader}
use Rattle.pcache_response.specs.HeadEnd.{EndsAt, IsUnfinished}
use Rattle.pcache_response.specs.Response.{Response, IsResponse, IsUnreadable, declared_body, may_end}
use Rattle.pcache_put.specs.Policies.{Judges}

-- a piece, and the moment at which it came
pub record Piece : Type 0 where
  pub bytes : List ℕ
  pub now : ℕ

-- the pieces, and one more with these bytes, which came at this moment
abbrev pub and_piece : List Piece → List ℕ → ℕ → List Piece
and_piece pieces bytes now = pieces ++ record { bytes = bytes; now = now } ∷ []

-- the bytes of the pieces, one piece after another
abbrev pub joined : List Piece → List ℕ
joined [] = []
joined (p ∷ pieces) = p.bytes ++ joined pieces

-- the head ends in one of the pieces, and this is the moment of that piece
pub record HeadEndsAt (pieces : List Piece) (now : ℕ) : Type 0 where
  pub before : List Piece
  pub piece : Piece
  pub behind : List Piece
  pub whole : pieces ≡ before ++ piece ∷ behind
  pub unfinished : IsUnfinished (joined before)
  pub cut : ℕ
  pub ends : EndsAt (joined before ++ piece.bytes) cut
  pub moment : now ≡ piece.now

-- what a policy may decide on a head at a moment
abbrev pub Says : Type 1
Says = ResponseHeader → ℕ → RespCacheable → Type 0

-- the verdict on the response that these bytes are, as far as it has come
pub record IsJudged (says : Says) (limit : Option ℕ) (bytes : List ℕ) (now : ℕ) (r : Response) (verdict : RespCacheable) : Type 0 where
  pub response : IsResponse bytes r
  pub answer : RespCacheable
  pub said : says r.head now answer
  pub judged : Judges limit answer verdict

-- how many bytes of a body are counted: their number, up to the largest number of 64 bits
abbrev pub counted : List ℕ → ℕ
counted body = min (length body) (2 ^ 64 - 1)

-- a body is longer than its limit
abbrev pub is_over : Option ℕ → List ℕ → Bool
is_over None body = false
is_over (Some limit) body = nat_lt limit (counted body)

-- the outcome of a put: a body is stored with its meta, nothing is stored for a reason, or the put fails
pub data Outcome : Type 0 where
  Stores : (meta : Meta) (body : List ℕ) → Outcome
  Declines : (reason : NoCacheReason) → Outcome
  Refuses : (kind : ErrorType) → Outcome

-- the outcome of a put, by the verdict on its response, the size of the body, and the bytes after the head
abbrev pub outcome : Option ℕ → RespCacheable → Option ℕ → List ℕ → Outcome
outcome limit (Uncacheable reason) size behind = Declines reason
outcome limit (Cacheable meta) size behind =
    if is_over limit (declared_body size behind) then Refuses ResponseTooLarge
    else if may_end size behind then Stores meta (declared_body size behind)
    else Refuses IncompleteHttpBody

-- the outcome of a put of these bytes, whose head ended at this moment: of a head that never ends, of one that can't be
-- read, or of a response with a verdict
pub data ComesTo (says : Says) (limit : Option ℕ) (bytes : List ℕ) (now : ℕ) (o : Outcome) : Type 0 where
  NoHead : IsUnfinished bytes → o ≡ Refuses IncompleteHttpBody → ComesTo says limit bytes now o
  BadHead : IsUnreadable bytes → o ≡ Refuses InvalidHttpHeader → ComesTo says limit bytes now o
  WithHead : (r : Response) (verdict : RespCacheable) → IsJudged says limit bytes now r verdict → o ≡ outcome limit verdict r.size r.behind → ComesTo says limit bytes now o

-- the outcome of a put of these pieces: its moment is that of the piece that ends the head, if the head can be read
pub record IsResult (says : Says) (limit : Option ℕ) (pieces : List Piece) (o : Outcome) : Type 0 where
  pub now : ℕ
  pub moment : HeadEndsAt pieces now ⊎ ((r : Response) → ¬ (IsResponse (joined pieces) r))
  pub comes : ComesTo says limit (joined pieces) now o
