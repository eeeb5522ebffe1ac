-- What the functions of calls promise, as one turn.
use Rattle.std.proofs.Common.{option_map}
use Rattle.pcache_lock.specs.declared.lock.status.LockStatus.TheVariants.{Done}
use Rattle.pcache_put.specs.Puts.{Says}
use Rattle.pcache_history.specs.declared.call.Act.{Act}
use Rattle.pcache_history.specs.Ongoing.{change_of, is_done, opened}
use Rattle.pcache_world.specs.Handing.{Acts}
use Rattle.pcache_history.proofs.PutShape.{wrong-change}
use Rattle.pcache_world.proofs.Words.{◌≡◌, ℕ, true, false, cond, Option, None, Some, List, [], ◌++◌, refl, ap, sym, subst, ◌∙◌, arith, inl, inr, nat_tests, nat_cmp, is_at, Tracked, Limits, Locks, Locked, Store, CacheOptionOverrides, Call, Reply, Event, deeds_by, deeds_in, held_in, said_by, IsOfWorld, KeepsKey, IsOfWorldIn, Facts, request_in, facts_in, no_facts, Ongoing, IsOfOne, kind_of_reply, row, was_wrong, untold, MovesLocks, Moves, MovesRequest, MovesStore, Replies, of_one, open_at, HasSome, PutTurn, IsMoved, IsRow, IsRowed, Turn}
use Rattle.pcache_history.specs.declared.call.Act.TheVariants as C
use Rattle.pcache_history.specs.declared.call.RequestAct.TheVariants as Q
use Rattle.pcache_history.specs.declared.call.Reply.TheVariants as R
use Rattle.pcache_world.proofs.LockSteps.{no_locks_move}
use Rattle.pcache_world.proofs.MovesOf.{idle}

-- a request that is as its row has it
pub row-kept : (act : Act) (reply : Reply) (events : List Event) (q q' : Option Ongoing) → q' ≡ row act reply events q → IsRow act reply events q q'
row-kept act reply events q q' is = ap (option_map untold) is

-- a call of an open request, which is x before and y after
pub turn-of : (limits : Limits) (r : ℕ) (act : Act) (q q' : Option Ongoing) (x y : Ongoing) (s s' : Store) (m m' : Tracked) (t t' : Locks) (reply : Reply) (events : List Event) → q ≡ Some x → q' ≡ Some y → Replies (facts_in s t x.request) act (Some x) reply events
    → (IsOfWorld x.request → Moves limits (Some x) s m events (Some y) s' m') → KeepsKey (Some x) (Some y) → IsRow act reply events (Some x) (Some y)
    → MovesLocks r (deeds_in r act (kind_of_reply reply) events (Some x)) x.request.held t y.request.held t' → IsOfWorldIn q → Turn limits r act q s m t reply events q' s' m' t'
turn-of limits r act q q' x y s s' m m' t t' reply events is now answers moves keeps same locks =
    subst (λ (p : Option Ongoing). IsOfWorldIn p → Turn limits r act p s m t reply events q' s' m' t') (sym is) (λ world.
    subst (λ (p : Option Ongoing). Turn limits r act (Some x) s m t reply events p s' m' t') (sym now) (record {
      answers = answers;
      moves = moves world;
      keeps = keeps;
      now = same;
      locks = locks;
    }))

at-self : (n : ℕ) → is_at (nat_cmp n) n ≡ true
at-self n = grind (arith, nat_tests)

-- what is open under the number of a call, if it changes by its row
pub row-at : (n : ℕ) (act : Act) (reply : Reply) (events : List Event) (all all' : List (ℕ × Ongoing)) → IsRowed n act reply events all all' → open_at n all' ≡ row act reply events (open_at n all)
row-at n act reply events all all' is = is n ∙ ap (λ b. cond b (row act reply events (open_at n all)) (open_at n all)) (at-self n)

pub moved-by-row : (n : ℕ) (act : Act) (reply : Reply) (events : List Event) (all all' : List (ℕ × Ongoing)) → IsRowed n act reply events all all' → IsMoved n all all'
moved-by-row n act reply events all all' is = λ q. is q ∙ ap (λ o. cond (is_at (nat_cmp n) q) o (open_at q all)) (sym (row-at n act reply events all all' is))

-- a call that is a wrong one leaves what it names

pub wrong-said : (r : ℕ) (act : Act) (held : Option Locked) → said_by r act was_wrong held ≡ []
wrong-said r (C.Request (Q.Publish tokens)) held = refl
wrong-said r (C.Wait t) held = refl
wrong-said r (C.Give to) held = refl
wrong-said r act held = refl

pub kept-key : (q : Option Ongoing) → KeepsKey q q
kept-key None = tt
kept-key (Some x) = λ world. (world, λ some. refl)

pub wrong-turn : (limits : Limits) (r : ℕ) (act : Act) (q q' : Option Ongoing) (s : Store) (m : Tracked) (t : Locks) (reply : Reply) (events : List Event) → Replies (facts_in s t (request_in q)) act q R.WrongCall [] → q' ≡ q → reply ≡ R.WrongCall → events ≡ [] → Turn limits r act q s m t reply events q' s m t
wrong-turn limits r act q q' s m t reply events replies now wrong none =
    subst (λ (p : Option Ongoing). Turn limits r act q s m t reply events p s m t) (sym now)
    (subst (λ z. Turn limits r act q s m t z events q s m t) (sym wrong)
    (subst (λ es. Turn limits r act q s m t R.WrongCall es q s m t) (sym none) (record {
      answers = replies;
      moves = idle q q s s [] refl refl refl limits m;
      keeps = kept-key q;
      now = ap (option_map untold) (sym (wrong-change (change_of act) q));
      locks = no_locks_move r (deeds_in r act was_wrong [] q) (held_in q) (held_in q) t t (ap (λ ds. ds ++ []) (wrong-said r act (held_in q))) refl refl;
    })))

-- the same, whatever the facts are
pub wrong-turned : (limits : Limits) (r : ℕ) (act : Act) (q q' : Option Ongoing) (s : Store) (m : Tracked) (t : Locks) (reply : Reply) (events : List Event) → ((f : Facts) → Replies f act q R.WrongCall []) → q' ≡ q → reply ≡ R.WrongCall → events ≡ [] → Turn limits r act q s m t reply events q' s m t
wrong-turned limits r act q q' s m t reply events replies now wrong none = wrong-turn limits r act q q' s m t reply events (replies (facts_in s t (request_in q))) now wrong none

-- as one call of one request or put
pub acts-as : (limits : Limits) (says : Says) (call : Call) (act : Act) (all all' : List (ℕ × Ongoing)) (s s' : Store) (m m' : Tracked) (t t' : Locks) (reply : Reply) (events : List Event) → call.act ≡ act → IsOfOne act
    → (IsOfWorldIn (open_at call.request all) → HasSome says s (open_at call.request all) → Turn limits call.request act (open_at call.request all) s m t reply events (open_at call.request all') s' m' t') → PutTurn says act reply events (open_at call.request all) (open_at call.request all') → IsMoved call.request all all' → Acts limits says call all s m t reply events all' s' m' t'
acts-as limits says call act all all' s s' m m' t t' reply events is one turn puts moved =
    of_one (subst IsOfOne (sym is) one)
    (subst (λ (a : Act). IsOfWorldIn (open_at call.request all) → HasSome says s (open_at call.request all) → Turn limits call.request a (open_at call.request all) s m t reply events (open_at call.request all') s' m' t') (sym is) turn)
    (subst (λ (a : Act). PutTurn says a reply events (open_at call.request all) (open_at call.request all')) (sym is) puts) moved

end-answers : (f g : Facts) (q : Option Ongoing) (reply : Reply) (events : List Event) → Replies f C.End q reply events → Replies g C.End q reply events
end-answers f g None reply events a = a
end-answers f g (Some x) reply events a = a

open-answers : (f g : Facts) (options : Option CacheOptionOverrides) (q : Option Ongoing) (reply : Reply) (events : List Event) → Replies f (C.Open options) q reply events → Replies g (C.Open options) q reply events
open-answers f g options None reply events a = a
open-answers f g options (Some x) reply events a = a

-- a request that was just made holds no lock
open-held : (f : Facts) (options : Option CacheOptionOverrides) (q : Option Ongoing) (reply : Reply) (events : List Event) → Replies f (C.Open options) q reply events → held_in (row (C.Open options) reply events q) ≡ held_in q
open-held f options None reply events a = elim (is_done (kind_of_reply reply)) as (λ b. held_in (cond b (Some (opened options)) None) ≡ None) [ true ↦ refl | false ↦ refl ]
open-held f options (Some x) reply events (inl (finds, inl a)) = absurd a.0
open-held f options (Some x) reply events (inl (finds, inr a)) = ap (λ z. held_in (row (C.Open options) z events (Some x))) a.1.0
open-held f options (Some x) reply events (inr a) = ap (λ z. held_in (row (C.Open options) z events (Some x))) a.1.0

-- a call that ends a request
pub end-of : (limits : Limits) (n : ℕ) (all all' : List (ℕ × Ongoing)) (s s' : Store) (m : Tracked) (t t' : Locks) (reply : Reply) (events : List Event) → Replies no_facts C.End (open_at n all) reply events
    → MovesStore (open_at n all) s events (row C.End reply events (open_at n all)) s' → KeepsKey (open_at n all) (row C.End reply events (open_at n all))
    → ((r : ℕ) → MovesLocks r (deeds_by r 0 Done events) (held_in (open_at n all)) t (held_in (row C.End reply events (open_at n all))) t') → IsRowed n C.End reply events all all'
    → Turn limits n C.End (open_at n all) s m t reply events (open_at n all') s' m t'
end-of limits n all all' s s' m t t' reply events answers moves keeps locks rowed =
    subst (λ (p : Option Ongoing). Turn limits n C.End (open_at n all) s m t reply events p s' m t') (sym (row-at n C.End reply events all all' rowed)) (record {
      answers = end-answers no_facts (facts_in s t (request_in (open_at n all))) (open_at n all) reply events answers;
      moves = moves limits m;
      keeps = keeps;
      now = refl;
      locks = locks n;
    })

-- a call that makes one
pub open-of : (limits : Limits) (n : ℕ) (options : Option CacheOptionOverrides) (all all' : List (ℕ × Ongoing)) (s : Store) (m : Tracked) (t : Locks) (reply : Reply) (events : List Event) → events ≡ [] → Replies no_facts (C.Open options) (open_at n all) reply []
    → MovesRequest (open_at n all) (row (C.Open options) reply [] (open_at n all)) → KeepsKey (open_at n all) (row (C.Open options) reply [] (open_at n all)) → IsRowed n (C.Open options) reply [] all all'
    → Turn limits n (C.Open options) (open_at n all) s m t reply events (open_at n all') s m t
open-of limits n options all all' s m t reply events none answers moves keeps rowed =
    let q = open_at n all in
    subst (λ es. Turn limits n (C.Open options) q s m t reply es (open_at n all') s m t) (sym none)
    (subst (λ (p : Option Ongoing). Turn limits n (C.Open options) q s m t reply [] p s m t) (sym (row-at n (C.Open options) reply [] all all' rowed)) (record {
      answers = open-answers no_facts (facts_in s t (request_in q)) options q reply [] answers;
      moves = moves s limits m;
      keeps = keeps;
      now = refl;
      locks = no_locks_move n [] (held_in q) (held_in (row (C.Open options) reply [] q)) t t refl (open-held no_facts options q reply [] answers) refl;
    }))

-- a call that notes nothing
pub moves_quietly : (limits : Limits) (q q' : Option Ongoing) (s s' : Store) (m : Tracked) (events : List Event) → events ≡ [] → MovesStore q s [] q' s' → Moves limits q s m events q' s' m
moves_quietly limits q q' s s' m events none moves = subst (λ es. Moves limits q s m es q' s' m) (sym none) (moves limits m)
