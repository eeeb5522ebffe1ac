-- The stage of a put, and what it has taken in (own).
use Rattle.std.specs.Prelude.{◌≡◌, ℕ, true, false, Option, Some, None, List, [], length, option_map}
use Rattle.pcache_base.specs.Key.{Key}
use Rattle.pcache_base.specs.declared.error.ErrorType.{ErrorType}
use Rattle.pcache_base.specs.declared.error.ErrorType.TheVariants as error
use Rattle.pcache_base.specs.declared.reason.NoCacheReason.{NoCacheReason}
use Rattle.pcache_control.specs.declared.response.RespCacheable.TheVariants.{Cacheable, Uncacheable}
use Rattle.pcache_meta.specs.Meta.{Meta}
use Rattle.pcache_response.specs.HeadEnd.{IsUnfinished}
use Rattle.pcache_response.specs.Parts.{left_behind}
use Rattle.pcache_response.specs.Progress.{Parsed, AtHead, AtBody}
use Rattle.pcache_response.specs.Response.{Response, IsUnreadable, declared_body}
use Rattle.pcache_response.specs.Counted.{Counted}
use Rattle.pcache_put.specs.Puts.{Piece, joined, HeadEndsAt, Says, IsJudged, counted, is_over}

-- the stages: the head has not ended; the write with this number is in flight, which fills an entry, and the response
-- is fresh until a moment; nothing is stored; or every call fails
pub data Stage : Type 0 where
  InHead : Stage
  InBody : (write : ℕ) (entry : Option ℕ) (fresh_until : ℕ) → Stage
  HasDeclined : (reason : NoCacheReason) → Stage
  IsOver : (kind : ErrorType) → Stage

-- a put, as its contracts see it
pub record Put (C : Type 0) : Type 0 where
  pub policy : C
  pub key : Key
  -- the count of the body's bytes, if their number is limited
  pub size : Option Counted
  pub parser : Parsed
  pub stage : Stage

-- the write that is in flight
abbrev pub write_in : Stage → Option ℕ
write_in InHead = None
write_in (InBody w id fresh_until) = Some w
write_in (HasDeclined reason) = None
write_in (IsOver kind) = None

-- the number of the entry that this write fills, if entries have numbers
abbrev pub entry_in : Stage → Option ℕ
entry_in InHead = None
entry_in (InBody w id fresh_until) = id
entry_in (HasDeclined reason) = None
entry_in (IsOver kind) = None

abbrev pub limit_of : Option Counted → Option ℕ
limit_of size = option_map (λ (c : Counted). c.limit) size

-- this part of a body was counted, and it is within the limit
abbrev pub Counts : Option Counted → List ℕ → Type 0
Counts None body = Unit {0}
Counts (Some c) body = (c.bytes ≡ counted body) × (is_over (Some c.limit) body ≡ false)

-- what a write was given: its meta, and a part of the body
pub record Filled : Type 0 where
  pub meta : Meta
  pub body : List ℕ

-- the head has not ended
pub record HeadTaken (size : Option Counted) (parser : Parsed) (pieces : List Piece) : Type 0 where
  pub unfinished : IsUnfinished (joined pieces)
  pub stands : parser ≡ AtHead (joined pieces)
  pub counts : Counts size []

-- the head was read, and the response is to be stored with this meta; and this part of its body has come
pub record BodyRead (says : Says) (limit : Option ℕ) (parser : Parsed) (meta : Meta) (pieces : List Piece) (body : List ℕ) : Type 0 where
  pub r : Response
  pub now : ℕ
  pub moment : HeadEndsAt pieces now
  pub judged : IsJudged says limit (joined pieces) now r (Cacheable meta)
  pub stands : parser ≡ AtBody (left_behind r.size (length r.behind))
  pub came : body ≡ declared_body r.size r.behind

-- the same, and all of that part was written
abbrev pub BodyTaken : Says → Option Counted → Parsed → ℕ → List Piece → Option Filled → Type 0
BodyTaken says size parser fresh_until pieces None = ⊥
BodyTaken says size parser fresh_until pieces (Some f) =
    BodyRead says (limit_of size) parser f.meta pieces f.body × Counts size f.body × (fresh_until ≡ f.meta.fresh_until)

-- the head was read, and the response is to be stored with this meta
pub record Accepted (says : Says) (limit : Option ℕ) (meta : Meta) (pieces : List Piece) : Type 0 where
  pub r : Response
  pub now : ℕ
  pub moment : HeadEndsAt pieces now
  pub judged : IsJudged says limit (joined pieces) now r (Cacheable meta)

-- the head was read, and nothing is stored
pub record Declined (says : Says) (limit : Option ℕ) (reason : NoCacheReason) (pieces : List Piece) : Type 0 where
  pub r : Response
  pub now : ℕ
  pub moment : HeadEndsAt pieces now
  pub judged : IsJudged says limit (joined pieces) now r (Uncacheable reason)

-- the body is longer than its limit
pub record Overrun (says : Says) (limit : Option ℕ) (pieces : List Piece) : Type 0 where
  pub r : Response
  pub now : ℕ
  pub meta : Meta
  pub moment : HeadEndsAt pieces now
  pub judged : IsJudged says limit (joined pieces) now r (Cacheable meta)
  pub over : is_over limit (declared_body r.size r.behind) ≡ true

-- why every call fails: the bytes say so, or a call failed for another reason
abbrev pub IsWhyOver : Says → Option ℕ → ErrorType → List Piece → Type 0
IsWhyOver says limit error.InvalidHttpHeader pieces = IsUnreadable (joined pieces)
IsWhyOver says limit error.ResponseTooLarge pieces = Overrun says limit pieces
IsWhyOver says limit error.IncompleteHttpBody pieces = ⊥
IsWhyOver says limit _ pieces = Unit {0}

abbrev pub TakenBy : Says → Option Counted → Parsed → Stage → List Piece → Option Filled → Type 0
TakenBy says size parser InHead pieces f = HeadTaken size parser pieces × (f ≡ None)
TakenBy says size parser (InBody w id fresh_until) pieces f = BodyTaken says size parser fresh_until pieces f
TakenBy says size parser (HasDeclined reason) pieces f = Declined says (limit_of size) reason pieces × (f ≡ None)
TakenBy says size parser (IsOver kind) pieces f = IsWhyOver says (limit_of size) kind pieces

-- the put has taken in these pieces, in turn, and its write was given this; `says` is what its policy decides
abbrev pub HasTaken : {C : Type 0} → Says → Put C → List Piece → Option Filled → Type 0
HasTaken says p pieces f = TakenBy says p.size p.parser p.stage pieces f
