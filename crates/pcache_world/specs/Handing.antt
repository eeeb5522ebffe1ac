-- A permit that one request hands to another, over the parts of a world (own).
use Rattle.std.specs.Prelude.{◌≡◌, ℕ, ◌==◌, cond, Option, None, Some, List}
use Rattle.std.specs.Ordering.{nat_cmp}
use Rattle.std.specs.Map.{lookup}
use Rattle.std.specs.Option.{option_map}
use Rattle.std.specs.BTreeMap.{is_at}
use Rattle.pcache_evict.specs.Tracked.{Tracked, Limits}
use Rattle.pcache_lock.specs.Locks.{Locks}
use Rattle.pcache_lock.specs.Permits.{Permit}
use Rattle.pcache_request.specs.LockUse.{table_handed, unheld}
use Rattle.pcache_store.specs.Store.{Store}
use Rattle.pcache_history.specs.declared.call.Call.{Call}
use Rattle.pcache_history.specs.declared.call.Act.TheVariants as C
use Rattle.pcache_history.specs.declared.call.Reply.{Reply}
use Rattle.pcache_history.specs.declared.entry.Event.{Event}
use Rattle.pcache_history.specs.Facts.{request_in}
use Rattle.pcache_world.specs.PartFacts.{facts_for}
use Rattle.pcache_history.specs.Ongoing.{Ongoing, ReplyKind, was_done, handed_by, on_request, kind_of_reply, permit_held, row, taken_over, IsOfOne}
use Rattle.pcache_put.specs.Puts.{Says}
use Rattle.pcache_world.specs.PutsSound.{HasSome, PutTurn}
use Rattle.pcache_history.specs.Rules.{Replies}
use Rattle.pcache_world.specs.State.{State}
use Rattle.pcache_world.specs.Step.{IsMoved, Turn}
use Rattle.pcache_history.specs.Due.{IsOfWorldIn}

-- the open request with a number
abbrev pub open_at : ℕ → List (ℕ × Ongoing) → Option Ongoing
open_at r all = lookup (is_at (nat_cmp r)) all

-- a request without its permit, if it held one
abbrev pub without_permit : Option Permit → Option Ongoing → Option Ongoing
without_permit None q = q
without_permit (Some p) q = option_map (on_request unheld) q

-- only this request changes: its permit is taken out; it is handed one
abbrev pub IsTaken : ℕ → List (ℕ × Ongoing) → List (ℕ × Ongoing) → Type 0
IsTaken r all all' = (q : ℕ) → open_at q all' ≡ cond (is_at (nat_cmp r) q) (without_permit (permit_held (open_at r all)) (open_at r all)) (open_at q all)

abbrev pub IsHandedTo : ℕ → Permit → List (ℕ × Ongoing) → List (ℕ × Ongoing) → Type 0
IsHandedTo r p all all' = (q : ℕ) → open_at q all' ≡ cond (is_at (nat_cmp r) q) (option_map (handed_by (Some p)) (open_at r all)) (open_at q all)

-- the taker, after the giver no longer holds the permit
abbrev pub taker_at : ℕ → ℕ → (ℕ → Option Ongoing) → Option Ongoing
taker_at from to all = cond (from == to) (option_map (on_request unheld) (all to)) (all to)

-- the lock table after that
abbrev pub table_given : Option Permit → Option Ongoing → Locks → Locks
table_given None taker t = t
table_given (Some p) None t = t
table_given (Some p) (Some y) t = table_handed p y.request t

abbrev pub table_given_by : ReplyKind → Option Permit → Option Ongoing → Locks → Locks
table_given_by was_done p taker t = table_given p taker t
table_given_by o p taker t = t

-- one request hands its permit to another, or the reply is WrongCall; requests by number
pub record HandsOver (from to : ℕ) (all : ℕ → Option Ongoing) (t : Locks) (reply : Reply) (events : List Event) (all' : ℕ → Option Ongoing) (t' : Locks) : Type 0 where
  pub answers : (s : Store) → Replies (facts_for s t (request_in (all from)) (taker_at from to all)) (C.Give to) (all from) reply events
  pub requests : (q : ℕ) → all' q ≡ taken_over (C.Give to) (kind_of_reply reply) q (all from) (cond (is_at (nat_cmp from) q) (row (C.Give to) reply events (all from)) (all q))
  pub table : t' ≡ table_given_by (kind_of_reply reply) (permit_held (all from)) (taker_at from to all) t

-- a call that names one request or put changes that one, and one that hands a permit over changes two requests
pub data Acts (limits : Limits) (says : Says) (call : Call) (all : List (ℕ × Ongoing)) (s : Store) (m : Tracked) (t : Locks) (reply : Reply) (events : List Event) (all' : List (ℕ × Ongoing)) (s' : Store) (m' : Tracked) (t' : Locks) : Type 0 where
  of_one : IsOfOne call.act → (IsOfWorldIn (open_at call.request all) → HasSome says s (open_at call.request all) → Turn limits call.request call.act (open_at call.request all) s m t reply events (open_at call.request all') s' m' t') → PutTurn says call.act reply events (open_at call.request all) (open_at call.request all') → IsMoved call.request all all' → Acts limits says call all s m t reply events all' s' m' t'
  of_two : (to : ℕ) → call.act ≡ C.Give to → HandsOver call.request to (λ q. open_at q all) t reply events (λ q. open_at q all') t' → s' ≡ s → m' ≡ m → Acts limits says call all s m t reply events all' s' m' t'

-- the same of the parts as one value
abbrev pub ActsOn : Says → Call → List (ℕ × Ongoing) → State → Reply → List Event → List (ℕ × Ongoing) → State → Type 0
ActsOn says call all p reply events all' p' = Acts p.limits says call all p.store p.tracked p.locks reply events all' p'.store p'.tracked p'.locks
