-- The two halves of a piece: it is read, for which no storage is needed, and then stored (own).
use Rattle.std.specs.Prelude.{◌≡◌, ℕ, ◌⊎◌, List, [], ◌∷◌, ◌++◌, Option, Some, None, IfSome}
use Rattle.pcache_base.specs.declared.error.ErrorType.{ErrorType}
use Rattle.pcache_base.specs.declared.error.ErrorType.TheVariants.{OutOfMemory, InvalidHttpHeader}
use Rattle.pcache_meta.specs.Meta.{Meta}
use Rattle.pcache_response.specs.Progress.{Parsed, HasFailed}
use Rattle.pcache_response.specs.Counted.{Counted}
use Rattle.pcache_store.specs.Store.{Store}
use Rattle.pcache_put.specs.Openings.{HasOpened, IsDue}
use Rattle.pcache_put.specs.Puts.{Piece, Says}
use Rattle.pcache_put.specs.State.{Stage, InHead, InBody, HasDeclined, IsOver, Put, Filled, Declined, Counts, IsWhyOver, HasTaken, limit_of}
use Rattle.pcache_put.specs.Steps.{Done, IsBegunBefore, MayFailPiece, filled_on, is_done}
use Rattle.pcache_put.specs.declared.reading.ReadPiece.{ReadPiece}
use Rattle.pcache_put.specs.declared.reading.ReadPiece.TheVariants as read
use Rattle.pcache_put.specs.declared.report.Written.{Written}

-- this may be read while the head has not ended, and this while the body is written
abbrev pub IsOfHead : ReadPiece → Type 0
IsOfHead (read.Brings part) = ⊥
IsOfHead read.Ignored = ⊥
IsOfHead _ = Unit {0}

abbrev pub IsOfBody : ReadPiece → Type 0
IsOfBody (read.Brings part) = Unit {0}
IsOfBody (read.Refused e) = Unit {0}
IsOfBody _ = ⊥

-- a put in this stage reads a piece so
abbrev pub IsReadAt : Stage → ReadPiece → Type 0
IsReadAt InHead piece = IsOfHead piece
IsReadAt (InBody w id fresh_until) piece = IsOfBody piece
IsReadAt (HasDeclined reason) piece = Unit {0}
IsReadAt (IsOver kind) piece = Unit {0}

-- so much of a body has come with what was read last, which is still to be written
abbrev pub BodyDue : Says → Option Counted → Parsed → ℕ → List Piece → Option Filled → ReadPiece → Type 0
BodyDue says size parser fresh_until pieces (Some f) (read.Brings part) = IsDue says (limit_of size) parser f.meta pieces f.body part × Counts size f.body × (fresh_until ≡ f.meta.fresh_until)
BodyDue says size parser fresh_until pieces (Some f) (read.Refused e) = IsWhyOver says (limit_of size) e pieces
BodyDue says size parser fresh_until pieces f _ = ⊥

abbrev pub ReadBy : Says → Option Counted → Parsed → Stage → List Piece → Option Filled → ReadPiece → Type 0
ReadBy says size parser InHead pieces f piece = HasOpened says size parser pieces piece × (f ≡ None)
ReadBy says size parser (InBody w id fresh_until) pieces f piece = BodyDue says size parser fresh_until pieces f piece
ReadBy says size parser (HasDeclined reason) pieces f piece = Declined says (limit_of size) reason pieces × (f ≡ None)
ReadBy says size parser (IsOver kind) pieces f piece = IsWhyOver says (limit_of size) kind pieces

-- the put has read these pieces, in turn; the last of them was read so, and is still to be stored
abbrev pub HasRead : {C : Type 0} → Says → Put C → List Piece → Option Filled → ReadPiece → Type 0
HasRead says p pieces f piece = ReadBy says p.size p.parser p.stage pieces f piece

-- a piece was read: nothing but what was parsed has changed
pub record ReadsPiece {C : Type 0} (says : Says) (old new : Put C) (p : Piece) (piece : ReadPiece) : Type 0 where
  pub same : new ≡ record old { parser = new.parser }
  pub due : (pieces : List Piece) (f : Option Filled) → HasTaken says old pieces f → HasRead says new (pieces ++ p ∷ []) f piece

-- what was read was stored: the policy, the key, what was parsed and the limit are unchanged, and the put has taken in all pieces
-- that it read; the end is announced with the bytes that complete a body, and with no others
pub record StoresPiece {C : Type 0} (says : Says) (old new : Put C) (piece : ReadPiece) (d : Done) : Type 0 where
  pub policy : new.policy ≡ old.policy
  pub key : new.key ≡ old.key
  pub parsed : new.parser ≡ old.parser
  pub limit : limit_of new.size ≡ limit_of old.size
  pub taken : (pieces : List Piece) (f : Option Filled) → HasRead says old pieces f piece → HasTaken says new pieces (filled_on d.began d.wrote f)
  pub last : (pieces : List Piece) (f : Option Filled) → HasRead says old pieces f piece → IfSome d.wrote (λ (w : Written). w.eof ≡ is_done new.parser)

-- what holds of the kind for which a piece can't be read, if it can't
abbrev pub IfUnread : ReadPiece → (ErrorType → Type 0) → Type 0
IfUnread (read.Refused e) P = P e
IfUnread _ P = Unit {0}

-- why a piece can't be read, if it is read at all: its head is bad, memory ran out, or the parser had failed
abbrev pub MayFailRead : Stage → Parsed → ErrorType → Type 0
MayFailRead InHead parser e = (e ≡ InvalidHttpHeader) ⊎ (e ≡ OutOfMemory) ⊎ (parser ≡ HasFailed e)
MayFailRead (InBody w id fresh_until) parser e = (e ≡ InvalidHttpHeader) ⊎ (e ≡ OutOfMemory) ⊎ (parser ≡ HasFailed e)
MayFailRead (HasDeclined reason) parser e = ⊥
MayFailRead (IsOver kind) parser e = ⊥

-- whether a write began before a piece that was read so failed: not if it could not be read, which is then why it failed
abbrev pub IsBegunRead : Stage → ReadPiece → ErrorType → Option Meta → Type 0
IsBegunRead InHead (read.Refused kind) e began = (e ≡ kind) × (began ≡ None)
IsBegunRead stage piece e began = IsBegunBefore stage e began

-- a piece fails with the kind of error for which it could not be read
abbrev pub IsUnreadAs : ReadPiece → ErrorType → Type 0
IsUnreadAs (read.Refused kind) e = e ≡ kind
IsUnreadAs _ e = ⊥

-- why a piece that was read may fail: it could not be read, or as any piece
abbrev pub MayFailOnceRead : Stage → Store → ReadPiece → ErrorType → Type 0
MayFailOnceRead stage s piece e = IsUnreadAs piece e ⊎ MayFailPiece stage s e

-- nothing of the piece is written: what comes after a whole body
abbrev pub BringsNothing : Stage → ReadPiece → Type 0
BringsNothing (InBody w id fresh_until) piece = piece ≡ read.Brings None
BringsNothing stage piece = ⊥
