-- The outcome of the pieces of a put, by the history (own): the pieces that were fed, what its write was given of them, and what
-- the calls of the put say of that. Histories are listed newest first.
use Rattle.std.specs.Prelude.{◌≡◌, ℕ, ◌==◌, ◌↔◌, true, cond, if◌then◌else◌, Option, None, Some, List, [], ◌∷◌, ◌++◌}
use Rattle.pcache_response.specs.Progress.{Parsed}
use Rattle.pcache_response.specs.Counted.{Counted}
use Rattle.pcache_response.specs.Response.{Response, IsResponse, is_whole}
use Rattle.pcache_put.specs.Puts.{Piece, Says, Outcome as Comes, Declines, IsResult, joined}
use Rattle.pcache_put.specs.State.{Accepted, Stage, InBody, Filled, TakenBy, limit_of}
use Rattle.pcache_put.specs.Steps.{IsRefusal, StoresFilled}
use Rattle.pcache_history.specs.declared.call.Act.{Act}
use Rattle.pcache_history.specs.declared.call.Act.TheVariants as C
use Rattle.pcache_history.specs.declared.call.Reply.{Reply}
use Rattle.pcache_history.specs.declared.call.Reply.TheVariants as R
use Rattle.pcache_history.specs.declared.entry.Entry.{Entry}
use Rattle.pcache_history.specs.declared.entry.Event.{Event}
use Rattle.pcache_history.specs.declared.entry.Event.TheVariants as E
use Rattle.pcache_history.specs.Ongoing.{Ongoing, ReplyKind, kind_of_reply, is_done, is_wrong, request_of, row}
use Rattle.pcache_history.specs.Rules.{IsIdle}
use Rattle.pcache_history.specs.Taking.{Taking}

-- the pieces of a put, after one call of it
abbrev pub pieces_on : Act → ReplyKind → List Piece → List Piece
pieces_on (C.Put k limit) o before = cond (is_done o) [] before
pieces_on (C.Feed bytes t) o before = cond (is_wrong o) before (before ++ record { bytes = bytes; now = t } ∷ [])
pieces_on _ o before = before

-- the pieces of an open put, by the history
abbrev pub pieces_of : ℕ → List Entry → List Piece
pieces_of r [] = []
pieces_of r (e ∷ h) = if e.call.request == r then pieces_on e.call.act (kind_of_reply e.reply) (pieces_of r h) else pieces_of r h

-- what its write was given, after events in their order, and after one call
abbrev pub filled_noted : Event → Option Filled → Option Filled
filled_noted (E.Begin w k m) before = Some (record { meta = m; body = [] })
filled_noted (E.Wrote w bytes eof) None = None
filled_noted (E.Wrote w bytes eof) (Some f) = Some (record { meta = f.meta; body = f.body ++ bytes })
filled_noted _ before = before

-- what its write was given, after the events of a call
abbrev pub filled_by : List Event → Option Filled → Option Filled
filled_by [] before = before
filled_by (e ∷ events) before = filled_by events (filled_noted e before)

abbrev pub filled_after : Act → ReplyKind → List Event → Option Filled → Option Filled
filled_after (C.Put k limit) o events before = cond (is_done o) None before
filled_after (C.Feed bytes t) o events before = filled_by events before
filled_after _ o events before = before

-- what the write of an open put was given, by the history
abbrev pub filled_of : ℕ → List Entry → Option Filled
filled_of r [] = None
filled_of r (e ∷ h) = if e.call.request == r then filled_after e.call.act (kind_of_reply e.reply) e.events (filled_of r h) else filled_of r h

-- The stage of a put after these pieces, as a history knows it, which has no parser and no counter.
abbrev pub IsAtStage : Says → Option ℕ → Stage → List Piece → Option Filled → Type 0
IsAtStage says limit stage pieces f = (size : Option Counted) × (parser : Parsed) × (limit_of size ≡ limit) × TakenBy says size parser stage pieces f

-- the same for what is open under a number, if it is a put
abbrev pub HasStoodBy : Says → Option Taking → List Piece → Option Filled → Type 0
HasStoodBy says None pieces f = Unit {0}
HasStoodBy says (Some p) pieces f = IsAtStage says (limit_of p.size) p.stage pieces f

abbrev pub WasAtStage : Says → Option Ongoing → List Piece → Option Filled → Type 0
WasAtStage says None pieces f = Unit {0}
WasAtStage says (Some x) pieces f = HasStoodBy says x.put pieces f

-- the reply to a close is the outcome of the pieces, unless memory ran out or the like; a stored body is the one that
-- the write was given
abbrev pub Tells : (Comes → Type 0) → Option Filled → Reply → Type 0
Tells comes f (R.NotCached reason) = comes (Declines reason)
Tells comes f (R.Stored size evicted) = StoresFilled comes f
Tells comes f (R.Refused e) = IsRefusal comes e
Tells comes f _ = Unit {0}

-- the same for what is open under a number, if it is a put
abbrev pub TellsOf : Says → Option Taking → List Piece → Option Filled → Reply → Type 0
TellsOf says None pieces f reply = Unit {0}
TellsOf says (Some p) pieces f reply = Tells (IsResult says (limit_of p.size) pieces) f reply

abbrev pub TellsIn : Says → Option Ongoing → List Piece → Option Filled → Reply → Type 0
TellsIn says None pieces f reply = Unit {0}
TellsIn says (Some x) pieces f reply = TellsOf says x.put pieces f reply

-- the reply to a close says so, by what was open under its number before
abbrev pub ClosesBy : Says → Act → Option Ongoing → List Piece → Option Filled → Reply → Type 0
ClosesBy says C.Close q pieces f reply = TellsIn says q pieces f reply
ClosesBy says _ q pieces f reply = Unit {0}

-- these pieces are a whole response: with all bytes of the body that the head declares
abbrev pub AreWhole : List Piece → Type 0
AreWhole pieces = (r : Response) × IsResponse (joined pieces) r × (is_whole r.size r.behind ≡ true)

-- what comes after the whole body, whose write is still in flight, is ignored: the reply is Done, and there is no event
abbrev pub IgnoresAt : Stage → List Piece → Reply → List Event → Type 0
IgnoresAt (InBody w id until) before reply events = AreWhole before → IsIdle R.Done reply events
IgnoresAt stage before reply events = Unit {0}

abbrev pub IgnoresOf : Option Taking → List Piece → Reply → List Event → Type 0
IgnoresOf None before reply events = Unit {0}
IgnoresOf (Some p) before reply events = IgnoresAt p.stage before reply events

abbrev pub IgnoresIn : Option Ongoing → List Piece → Reply → List Event → Type 0
IgnoresIn None before reply events = Unit {0}
IgnoresIn (Some x) before reply events = IgnoresOf x.put before reply events

abbrev pub IgnoresBy : Act → Option Ongoing → List Piece → Reply → List Event → Type 0
IgnoresBy (C.Feed bytes t) q before reply events = IgnoresIn q before reply events
IgnoresBy _ q before reply events = Unit {0}

-- with bytes that are written the end is announced exactly if the body is whole with the piece that brought them
abbrev pub SayEnds : List Piece → List Event → Type 0
SayEnds pieces [] = Unit {0}
SayEnds pieces (E.Wrote w bytes eof ∷ events) = ((eof ≡ true) ↔ AreWhole pieces) × SayEnds pieces events
SayEnds pieces (_ ∷ events) = SayEnds pieces events

-- by a piece
abbrev pub EndsBy : Act → List Piece → List Event → Type 0
EndsBy (C.Feed bytes t) pieces events = SayEnds pieces events
EndsBy _ pieces events = Unit {0}

-- a write begins with the meta that the policy gives the response of these pieces, also if the piece that ends the head fails
abbrev pub SayBegins : Says → Option ℕ → List Piece → List Event → Type 0
SayBegins says limit pieces [] = Unit {0}
SayBegins says limit pieces (E.Begin w k m ∷ events) = Accepted says limit m pieces × SayBegins says limit pieces events
SayBegins says limit pieces (_ ∷ events) = SayBegins says limit pieces events

-- the same for what is open under a number, if it is a put
abbrev pub BeginsOf : Says → Option Taking → List Piece → List Event → Type 0
BeginsOf says None pieces events = Unit {0}
BeginsOf says (Some p) pieces events = SayBegins says (limit_of p.size) pieces events

abbrev pub BeginsIn : Says → Option Ongoing → List Piece → List Event → Type 0
BeginsIn says None pieces events = Unit {0}
BeginsIn says (Some x) pieces events = BeginsOf says x.put pieces events

abbrev pub BeginsBy : Says → Act → Option Ongoing → List Piece → List Event → Type 0
BeginsBy says (C.Feed bytes t) q pieces events = BeginsIn says q pieces events
BeginsBy says _ q pieces events = Unit {0}

-- one call: the stage of the put after it is what its pieces say then, the reply to a close is what they say, what comes after
-- the whole body is ignored, a write begins with the meta that the policy gives, and the end is announced with the bytes that
-- complete a body and with no others
pub record IsPutCall (says : Says) (act : Act) (reply : Reply) (events : List Event) (q : Option Ongoing) (pieces : List Piece) (f : Option Filled) : Type 0 where
  pub stands : WasAtStage says (row act reply events q) (pieces_on act (kind_of_reply reply) pieces) (filled_after act (kind_of_reply reply) events f)
  pub closes : ClosesBy says act q pieces f reply
  pub ignores : IgnoresBy act q pieces reply events
  pub begins : BeginsBy says act q (pieces_on act (kind_of_reply reply) pieces) events
  pub ends : EndsBy act (pieces_on act (kind_of_reply reply) pieces) events

-- a history in which each put follows the decisions of this policy
abbrev pub FollowPolicy : Says → List Entry → Type 0
FollowPolicy says [] = Unit {0}
FollowPolicy says (e ∷ h) =
    let r = e.call.request in
    IsPutCall says e.call.act e.reply e.events (request_of r h) (pieces_of r h) (filled_of r h) × FollowPolicy says h
