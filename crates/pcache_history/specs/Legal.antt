-- Which entries a history may have: each by the entries before it (own). Histories are listed newest first.
use Rattle.std.specs.Prelude.{◌≡◌, ℕ, Option, None, List, [], ◌∷◌}
use Rattle.pcache_evict.specs.Tracked.{Tracked, Limits}
use Rattle.pcache_history.specs.declared.call.Act.{Act}
use Rattle.pcache_history.specs.declared.call.Reply.{Reply}
use Rattle.pcache_history.specs.declared.entry.Entry.{Entry}
use Rattle.pcache_history.specs.declared.entry.Event.{Event}
use Rattle.pcache_history.specs.Deeds.{Deed, deeds_of}
use Rattle.pcache_history.specs.Due.{makes_of, AreDue, KeepsKey}
use Rattle.pcache_history.specs.Facts.{Facts, Says, request_in}
use Rattle.pcache_history.specs.Files.{IsEarly}
use Rattle.pcache_history.specs.Ongoing.{Ongoing, row, request_of, taker_in}
use Rattle.pcache_history.specs.History.{events_of}
use Rattle.pcache_history.specs.Rules.{Replies, IsCopy}
use Rattle.pcache_history.specs.Waiting.{waiting_in, AreGiven}

-- the reply and the events of a call of the request r, after a history that leaves r as q, if permits are too old after the time
-- `age`, for a manager with these limits that tracked these entries at the start: by the clause of the call and the facts of the
-- history; the reply is copied into the history, the events may come then, and the locks are those that are given then
pub record Gives (age : ℕ) (limits : Limits) (start : Tracked) (es : List Event) (ds : List Deed) (r : ℕ) (q : Option Ongoing) (act : Act) (reply : Reply) (events : List Event) : Type 0 where
  pub facts : Facts
  pub says : Says age es ds r (request_in q) facts
  pub reply_made : Reply
  pub answers : Replies facts act q reply_made events
  pub copy : IsCopy reply_made reply
  pub due : AreDue limits start es q (makes_of q) None events (makes_of (row act reply events q))
  pub keeps : KeepsKey q (row act reply events q)
  pub given : AreGiven (waiting_in es) events

-- a legal history: each entry is given by the entries before it, with the request to which it hands a permit, and whether a load
-- comes early enough
abbrev pub IsLegal : ℕ → Limits → Tracked → List Entry → Type 0
IsLegal age limits start [] = Unit {0}
IsLegal age limits start (e ∷ h) = (g : Gives age limits start (events_of h) (deeds_of h) e.call.request (request_of e.call.request h) e.call.act e.reply e.events) × IsLegal age limits start h × (g.facts.taker ≡ taker_in e.call.request e.call.act h) × IsEarly e.call.act g.facts h
