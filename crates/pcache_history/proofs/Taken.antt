-- A permit that is handed to a request changes only the lock that the request holds.
use Rattle.pcache_history.specs.Ongoing.{IsOfOne}
use Rattle.pcache_history.proofs.Words.{◌≡◌, ℕ, ◌==◌, true, false, cond, Option, None, Some, List, refl, Permit, Locked, Write, Act, Entry, IsOfWorldIn, Ongoing, ReplyKind, was_done, handed_by, permit_held, taken_over, taker_in}
use Rattle.pcache_history.specs.declared.call.Act.TheVariants as C

-- a request that holds this
abbrev pub holding_in : Option Locked → Ongoing → Ongoing
holding_in h x = record { request = record x.request { held = h }; pair = x.pair; carried = x.carried; put = x.put }

pub handed-keeps : (P : Option Ongoing → Type 0) → ((x : Ongoing) (h : Option Locked) → P (Some x) → P (Some (holding_in h x))) → (p : Option Permit) (x : Ongoing) → P (Some x) → P (Some (handed_by p x))
handed-keeps P holds None x is = is
handed-keeps P holds (Some p) x is = elim x.request.uses.lock as (λ b. P (Some (record { request = cond b (record x.request { held = Some (Write p) }) x.request; pair = x.pair; carried = x.carried; put = x.put }))) [
  | true ↦ holds x (Some (Write p)) is
  | false ↦ is
]

-- what holds of a request whatever lock it holds is kept
pub taken_keeps : (P : Option Ongoing → Type 0) → ((x : Ongoing) (h : Option Locked) → P (Some x) → P (Some (holding_in h x))) → (act : Act) (o : ReplyKind) (r : ℕ) (giver q : Option Ongoing) → P q → P (taken_over act o r giver q)
taken_keeps P holds (C.Give to) was_done r giver None is = elim (to == r) as (λ b. P (cond b None None)) [ true ↦ is | false ↦ is ]
taken_keeps P holds (C.Give to) was_done r giver (Some x) is = elim (to == r) as (λ b. P (cond b (Some (handed_by (permit_held giver) x)) (Some x))) [ true ↦ handed-keeps P holds (permit_held giver) x is | false ↦ is ]
taken_keeps P holds act o r giver q is = is

pub holding_world : (x : Ongoing) (h : Option Locked) → IsOfWorldIn (Some x) → IsOfWorldIn (Some (holding_in h x))
holding_world x h is = record { eviction = is.eviction; fills = is.fills }

-- a call that names one request hands nothing over
pub not_taken : (act : Act) (o : ReplyKind) (r : ℕ) (giver q : Option Ongoing) → IsOfOne act → taken_over act o r giver q ≡ q
not_taken (C.Give to) o r giver q one = absurd one
not_taken act o r giver q one = refl

pub no_taker : (r : ℕ) (act : Act) (h : List Entry) → IsOfOne act → taker_in r act h ≡ None
no_taker r (C.Give to) h one = absurd one
no_taker r act h one = refl
