-- What holds of the fields of a world's parts holds of the parts as one value: each lemma takes that they are the same.
use Rattle.pcache_put.specs.Puts.{Says}
use Rattle.pcache_history.specs.declared.call.Act.{Act}
use Rattle.pcache_world.specs.Handing.{Acts}
use Rattle.pcache_world.proofs.Words.{◌≡◌, ℕ, Option, Some, List, subst, sym, Tracked, Evicted, Locks, Locked, Store, Call, RequestAct, Reply, Event, Deed, deeds_in, evicted_by, Ongoing, kind_of_reply, MovesLocks, Moves, State, Answers, Turn}
use Rattle.pcache_history.specs.declared.call.Act.TheVariants as C

pub moves-over : (q q' : Option Ongoing) (events : List Event) {s : Store} {m : Tracked} {p p' : State} → p ≡ p' → Moves p.limits q p.store p.tracked events q' s m → Moves p'.limits q p'.store p'.tracked events q' s m
moves-over q q' events {s} {m} is moves = subst (λ (p : State). Moves p.limits q p.store p.tracked events q' s m) is moves

pub locks-over : {r : ℕ} {ds : List Deed} {mine last : Option Locked} {u : Locks} {p p' : State} → p ≡ p' → MovesLocks r ds mine p.locks last u → MovesLocks r ds mine p'.locks last u
locks-over {r} {ds} {mine} {last} {u} is moves = subst (λ (p : State). MovesLocks r ds mine p.locks last u) is moves

pub evicts-over : (events : List Event) {v : Evicted} {p p' : State} → p ≡ p' → v ≡ evicted_by p.tracked p.evicted events → v ≡ evicted_by p'.tracked p'.evicted events
evicts-over events {v} is evicts = subst (λ (p : State). v ≡ evicted_by p.tracked p.evicted events) is evicts

pub turn-over : {r : ℕ} {act : Act} {q q' : Option Ongoing} {reply : Reply} {events : List Event} {s : Store} {m : Tracked} {u : Locks} {p p' : State} → p ≡ p' → Turn p.limits r act q p.store p.tracked p.locks reply events q' s m u → Turn p'.limits r act q p'.store p'.tracked p'.locks reply events q' s m u
turn-over {r} {act} {q} {q'} {reply} {events} {s} {m} {u} is turn = subst (λ (p : State). Turn p.limits r act q p.store p.tracked p.locks reply events q' s m u) is turn

pub acts-over : {says : Says} {call : Call} {all all' : List (ℕ × Ongoing)} {reply : Reply} {events : List Event} {s : Store} {m : Tracked} {u : Locks} {p p' : State} → p ≡ p' → Acts p.limits says call all p.store p.tracked p.locks reply events all' s m u → Acts p'.limits says call all p'.store p'.tracked p'.locks reply events all' s m u
acts-over {says} {call} {all} {all'} {reply} {events} {s} {m} {u} is acts = subst (λ (p : State). Acts p.limits says call all p.store p.tracked p.locks reply events all' s m u) is acts

-- of one arm of all calls of a request: the call is named by its pattern

pub answers-over : (x : Ongoing) (reply : Reply) (events : List Event) {act arm : RequestAct} {p p' : State} → act ≡ arm → p ≡ p' → Answers p.store p.locks (C.Request arm) x reply events → Answers p'.store p'.locks (C.Request act) x reply events
answers-over x reply events {act} {arm} {p} {p'} at is answers =
    subst (λ (a : RequestAct). Answers p'.store p'.locks (C.Request a) x reply events) (sym at)
    (subst (λ (q : State). Answers q.store q.locks (C.Request arm) x reply events) is answers)

pub arm-locks-over : (x y : Ongoing) (reply : Reply) (events : List Event) {r : ℕ} {act arm : RequestAct} {u : Locks} {p p' : State} → act ≡ arm → p ≡ p' → MovesLocks r (deeds_in r (C.Request arm) (kind_of_reply reply) events (Some x)) x.request.held p.locks y.request.held u
    → MovesLocks r (deeds_in r (C.Request act) (kind_of_reply reply) events (Some x)) x.request.held p'.locks y.request.held u
arm-locks-over x y reply events {r} {act} {arm} {u} {p} {p'} at is moves =
    subst (λ (a : RequestAct). MovesLocks r (deeds_in r (C.Request a) (kind_of_reply reply) events (Some x)) x.request.held p'.locks y.request.held u) (sym at)
    (subst (λ (q : State). MovesLocks r (deeds_in r (C.Request arm) (kind_of_reply reply) events (Some x)) x.request.held q.locks y.request.held u) is moves)
