-- What a head and a piece of the body lead to, before the body is written (own).
use Rattle.std.specs.Prelude.{◌≡◌, ℕ, List, [], ◌++◌, Option, IfSome}
use Rattle.pcache_control.specs.declared.response.RespCacheable.{RespCacheable}
use Rattle.pcache_control.specs.declared.response.RespCacheable.TheVariants.{Cacheable, Uncacheable}
use Rattle.pcache_meta.specs.Meta.{Meta}
use Rattle.pcache_meta.specs.declared.header.ResponseHeader.{ResponseHeader}
use Rattle.pcache_response.specs.Progress.{Parsed}
use Rattle.pcache_response.specs.Counted.{Counted}
use Rattle.pcache_put.specs.Policies.{Judges}
use Rattle.pcache_put.specs.Puts.{Piece, Says}
use Rattle.pcache_put.specs.State.{HeadTaken, BodyRead, Declined, Counts, IsWhyOver, limit_of}
use Rattle.pcache_put.specs.Steps.{part_bytes, is_done}
use Rattle.pcache_put.specs.declared.reading.BodyPart.{BodyPart}
use Rattle.pcache_put.specs.declared.reading.ReadPiece.{ReadPiece}
use Rattle.pcache_put.specs.declared.reading.ReadPiece.TheVariants as read

-- `verdict` is the verdict on a head at a moment
abbrev pub IsVerdict : Says → Option ℕ → ResponseHeader → ℕ → RespCacheable → Type 0
IsVerdict says limit header now verdict = (answer : RespCacheable) × says header now answer × Judges limit answer verdict

-- what the end of a head was read as: by the verdict, and with the part of the body that came with it
abbrev pub IsBegun : (RespCacheable → Type 0) → Option BodyPart → ReadPiece → Type 0
IsBegun verdict part (read.Declined reason) = verdict (Uncacheable reason)
IsBegun verdict part (read.Begins meta body) = verdict (Cacheable meta) × (body ≡ part)
IsBegun verdict part _ = ⊥

-- with this part, which is not written yet, `body` is the part of the body that has come; the part is the last one if
-- the body is whole then
abbrev pub IsDue : Says → Option ℕ → Parsed → Meta → List Piece → List ℕ → Option BodyPart → Type 0
IsDue says limit parser meta pieces body part =
    BodyRead says limit parser meta pieces (body ++ part_bytes part) × IfSome part (λ (b : BodyPart). b.is_last ≡ is_done parser)

-- what the head of these pieces was read as
abbrev pub HasOpened : Says → Option Counted → Parsed → List Piece → ReadPiece → Type 0
HasOpened says size parser pieces read.Unfinished = HeadTaken size parser pieces
HasOpened says size parser pieces (read.Declined reason) = Declined says (limit_of size) reason pieces
HasOpened says size parser pieces (read.Begins meta part) = IsDue says (limit_of size) parser meta pieces [] part × Counts size []
HasOpened says size parser pieces (read.Refused e) = IsWhyOver says (limit_of size) e pieces
HasOpened says size parser pieces _ = ⊥
