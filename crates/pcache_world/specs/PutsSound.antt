-- For the prover: the stage of a put after its pieces, as the code keeps it (own).
use Rattle.std.specs.Prelude.{◌≡◌, ℕ, true, false, Option, None, Some, List}
use Rattle.std.specs.Ordering.{nat_cmp}
use Rattle.std.specs.FinMap as map
use Rattle.pcache_put.specs.Puts.{Piece, Says}
use Rattle.pcache_put.specs.State.{Filled, TakenBy}
use Rattle.pcache_store.specs.Store.{Store, is_told}
use Rattle.pcache_history.specs.declared.call.Act.{Act}
use Rattle.pcache_history.specs.declared.call.Act.TheVariants as C
use Rattle.pcache_history.specs.declared.call.Reply.{Reply}
use Rattle.pcache_history.specs.declared.entry.Entry.{Entry}
use Rattle.pcache_history.specs.declared.entry.Event.{Event}
use Rattle.pcache_history.specs.Ongoing.{Ongoing, kind_of_reply}
use Rattle.pcache_history.specs.PutHistory.{FollowPolicy, AreWhole, BeginsBy, ClosesBy, EndsBy, IgnoresBy, filled_after, filled_of, pieces_of, pieces_on}
use Rattle.pcache_history.specs.Taking.{Taking}

abbrev pub HasTakenIn : Says → Option Taking → List Piece → Option Filled → Type 0
HasTakenIn says None pieces f = Unit {0}
HasTakenIn says (Some p) pieces f = TakenBy says p.size p.parser p.stage pieces f

abbrev pub TakenIn : Says → Option Ongoing → List Piece → Option Filled → Type 0
TakenIn says None pieces f = Unit {0}
TakenIn says (Some x) pieces f = HasTakenIn says x.put pieces f

-- one call over the parts
pub record PutTurn (says : Says) (act : Act) (reply : Reply) (events : List Event) (q q' : Option Ongoing) : Type 0 where
  pub taken : (pieces : List Piece) (f : Option Filled) → TakenIn says q pieces f → TakenIn says q' (pieces_on act (kind_of_reply reply) pieces) (filled_after act (kind_of_reply reply) events f)
  pub closes : (pieces : List Piece) (f : Option Filled) → TakenIn says q pieces f → ClosesBy says act q pieces f reply
  pub ignores : (pieces : List Piece) (f : Option Filled) → TakenIn says q pieces f → IgnoresBy act q pieces reply events
  pub begins : (pieces : List Piece) (f : Option Filled) → TakenIn says q pieces f → BeginsBy says act q (pieces_on act (kind_of_reply reply) pieces) events
  pub ends : (pieces : List Piece) (f : Option Filled) → TakenIn says q pieces f → EndsBy act (pieces_on act (kind_of_reply reply) pieces) events

-- of a close alone: its reply is that of a put that has taken in these pieces
abbrev pub TellsClosed : Says → Option Ongoing → Reply → Type 0
TellsClosed says q reply = (pieces : List Piece) (f : Option Filled) → TakenIn says q pieces f → ClosesBy says C.Close q pieces f reply

-- the end of this write was announced in the store only if these pieces are whole
abbrev pub EndsWhole : Store → Option ℕ → List Piece → Type 0
EndsWhole s None pieces = Unit {0}
EndsWhole s (Some w) pieces = is_told (map.get s.writes w) ≡ true → AreWhole pieces

abbrev pub HasEnded : Store → Ongoing → Option Taking → List Piece → Type 0
HasEnded s x None pieces = Unit {0}
HasEnded s x (Some p) pieces = EndsWhole s x.request.write pieces

abbrev pub EndedIn : Store → Option Ongoing → List Piece → Type 0
EndedIn s None pieces = Unit {0}
EndedIn s (Some x) pieces = HasEnded s x x.put pieces

-- a put that has taken in some pieces, and whose end was announced only with the whole body; and a look-up in the store finds the
-- write that began first
abbrev pub HasSome : Says → Store → Option Ongoing → Type 0
HasSome says s q = (pieces : List Piece) × (f : Option Filled) × TakenIn says q pieces f × EndedIn s q pieces × (s.newest ≡ false)

-- the invariant of a world's puts
pub record PutsSound (says : Says) (all : map.FinMap nat_cmp Ongoing) (h : List Entry) : Type 0 where
  pub follow : FollowPolicy says h
  pub taken : (r : ℕ) → TakenIn says (map.get all r) (pieces_of r h) (filled_of r h)
