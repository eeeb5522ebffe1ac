-- What the functions of puts' calls promise, as one turn, and what every call does to what a put has taken in.
use Rattle.pcache_put.specs.Puts.{Says}
use Rattle.pcache_history.specs.declared.call.Act.{Act}
use Rattle.pcache_history.specs.Ongoing.{IsOngoingPut, is_done}
use Rattle.pcache_history.specs.PutHistory.{BeginsIn}
use Rattle.pcache_history.proofs.PutShape.{wrong-filled, wrong-pieces}
use Rattle.pcache_world.proofs.Words.{◌≡◌, ℕ, Bool, true, false, cond, Option, None, Some, IsSome, List, [], refl, ap, sym, subst, ◌∙◌, inl, inr, is_some, both_ways, Key, Tracked, Limits, Locks, Piece, CacheOptionOverrides, Filled, Store, Reply, Event, deeds_in, held_in, status_left, KeepsKey, IsOfWorldIn, Facts, request_in, facts_in, no_facts, Ongoing, was_wrong, ongoing_put, is_wrong, kind_of_reply, row, open_at, Moves, MovesRequest, MovesStore, BeginsBy, BeginsOf, ClosesBy, EndsBy, IgnoresBy, IgnoresIn, IgnoresOf, filled_after, pieces_on, HasSome, PutTurn, TakenIn, Feeds, FindsKind, IsIdle, IsOfKind, IsOther, MayBe, Replies, IsRow, IsRowed, Turn, Taking, new_put, AreOfNoLock}
use Rattle.pcache_history.specs.declared.call.Act.TheVariants as C
use Rattle.pcache_history.specs.declared.call.Reply.TheVariants as R
use Rattle.pcache_world.proofs.LockSteps.{no_locks_move, quiet-deeds}
use Rattle.pcache_world.proofs.TurnOf.{row-at}

-- ---- what a put has taken in

no-put : (says : Says) (x : Ongoing) (pieces : List Piece) (f : Option Filled) → x.put ≡ None → TakenIn says (Some x) pieces f
no-put says x pieces f none = subst (λ p. TakenIn says (Some (record { request = x.request; pair = x.pair; carried = x.carried; put = p })) pieces f) (sym none) tt

no-close : (says : Says) (act : Act) (x : Ongoing) (pieces : List Piece) (f : Option Filled) (reply : Reply) → x.put ≡ None → ClosesBy says act (Some x) pieces f reply
no-close says C.Close x pieces f reply none = subst (λ p. ClosesBy says C.Close (Some (record { request = x.request; pair = x.pair; carried = x.carried; put = p })) pieces f reply) (sym none) tt
no-close says act x pieces f reply none = tt

no-ignoring : (act : Act) (x : Ongoing) (pieces : List Piece) (reply : Reply) (events : List Event) → x.put ≡ None → IgnoresBy act (Some x) pieces reply events
no-ignoring (C.Feed bytes t) x pieces reply events none = subst (λ p. IgnoresOf p pieces reply events) (sym none) tt
no-ignoring act x pieces reply events none = tt

no-begin : (says : Says) (act : Act) (x : Ongoing) (pieces : List Piece) (events : List Event) → x.put ≡ None → BeginsBy says act (Some x) pieces events
no-begin says (C.Feed bytes t) x pieces events none = subst (λ p. BeginsOf says p pieces events) (sym none) tt
no-begin says act x pieces events none = tt

-- a call that announces no end of a put's body
abbrev pub SaysNoEnd : Act → Type 0
SaysNoEnd act = (pieces : List Piece) (events : List Event) → EndsBy act pieces events

-- of a request nothing is said
pub puts-plain : (says : Says) (act : Act) (reply : Reply) (events : List Event) (q q' : Option Ongoing) (x y : Ongoing) → q ≡ Some x → q' ≡ Some y → x.put ≡ None → y.put ≡ None → SaysNoEnd act → PutTurn says act reply events q q'
puts-plain says act reply events q q' x y is now before after none =
    subst (λ (p : Option Ongoing). PutTurn says act reply events p q') (sym is)
    (subst (λ (p : Option Ongoing). PutTurn says act reply events (Some x) p) (sym now) (record {
      taken = λ pieces f _. no-put says y (pieces_on act (kind_of_reply reply) pieces) (filled_after act (kind_of_reply reply) events f) after;
      closes = λ pieces f _. no-close says act x pieces f reply before;
      ignores = λ pieces f _. no-ignoring act x pieces reply events before;
      begins = λ pieces f _. no-begin says act x (pieces_on act (kind_of_reply reply) pieces) events before;
      ends = λ pieces f _. none (pieces_on act (kind_of_reply reply) pieces) events;
    }))

none-told : (says : Says) (p : Option Ongoing) (pieces : List Piece) (f : Option Filled) → ClosesBy says C.Close p pieces f R.WrongCall
none-told says None pieces f = tt
none-told says (Some x) pieces f = elim x.put as (λ o. ClosesBy says C.Close (Some (record { request = x.request; pair = x.pair; carried = x.carried; put = o })) pieces f R.WrongCall) [ None ↦ tt | Some p ↦ tt ]

wrong-closes : (says : Says) (act : Act) (q : Option Ongoing) (pieces : List Piece) (f : Option Filled) → ClosesBy says act q pieces f R.WrongCall
wrong-closes says C.Close q pieces f = none-told says q pieces f
wrong-closes says act q pieces f = tt

none-begun : (says : Says) (q : Option Ongoing) (pieces : List Piece) → BeginsIn says q pieces []
none-begun says None pieces = tt
none-begun says (Some x) pieces = elim x.put as (λ o. BeginsOf says o pieces []) [ None ↦ tt | Some p ↦ tt ]

wrong-begins : (says : Says) (act : Act) (q : Option Ongoing) (pieces : List Piece) → BeginsBy says act q pieces []
wrong-begins says (C.Feed bytes t) q pieces = none-begun says q pieces
wrong-begins says act q pieces = tt

wrong-ends : (act : Act) (pieces : List Piece) → EndsBy act pieces []
wrong-ends (C.Feed bytes t) pieces = tt
wrong-ends act pieces = tt

-- no piece is ignored where no put is open
abbrev pub IgnoresNone : Act → Option Ongoing → Type 0
IgnoresNone act q = (pieces : List Piece) → IgnoresBy act q pieces R.WrongCall []

pub ignores-nowhere : (act : Act) (q : Option Ongoing) → q ≡ None → IgnoresNone act q
ignores-nowhere (C.Feed bytes t) q none pieces = subst (λ p. IgnoresIn p pieces R.WrongCall []) (sym none) tt
ignores-nowhere act q none pieces = tt

pub ignores-plain : (act : Act) (q : Option Ongoing) (x : Ongoing) → q ≡ Some x → x.put ≡ None → IgnoresNone act q
ignores-plain act q x is none pieces = subst (λ p. IgnoresBy act p pieces R.WrongCall []) (sym is) (no-ignoring act x pieces R.WrongCall [] none)

-- a wrong call leaves what was taken in
pub puts-wrong : (says : Says) (act : Act) (reply : Reply) (events : List Event) (q q' : Option Ongoing) → IsIdle R.WrongCall reply events → q' ≡ q → IgnoresNone act q → PutTurn says act reply events q q'
puts-wrong says act reply events q q' idle now never =
    subst (λ (z : Reply). PutTurn says act z events q q') (sym idle.0)
    (subst (λ (es : List Event). PutTurn says act R.WrongCall es q q') (sym idle.1)
    (subst (λ (p : Option Ongoing). PutTurn says act R.WrongCall [] q p) (sym now) (record {
      taken = λ pieces f t. subst (λ xs. TakenIn says q xs (filled_after act was_wrong [] f)) (sym (wrong-pieces act pieces)) (subst (TakenIn says q pieces) (sym (wrong-filled act f)) t);
      closes = λ pieces f t. wrong-closes says act q pieces f;
      ignores = λ pieces f t. never pieces;
      begins = λ pieces f t. wrong-begins says act q (pieces_on act was_wrong pieces);
      ends = λ pieces f t. wrong-ends act (pieces_on act was_wrong pieces);
    })))

cond-taken : (says : Says) (b : Bool) (q r : Option Ongoing) (pieces : List Piece) (f : Option Filled) → TakenIn says q pieces f → TakenIn says r pieces f → TakenIn says (cond b q r) pieces f
cond-taken says true q r pieces f a b = a
cond-taken says false q r pieces f a b = b

-- what is opened or ended
pub puts-opened : (says : Says) (options : Option CacheOptionOverrides) (reply : Reply) (events : List Event) (q q' : Option Ongoing) → q' ≡ row (C.Open options) reply [] q → PutTurn says (C.Open options) reply events q q'
puts-opened says options reply events q q' now =
    subst (λ (p : Option Ongoing). PutTurn says (C.Open options) reply events q p) (sym now) (record { taken = λ pieces f t. cond-taken says (is_done (kind_of_reply reply)) _ q pieces f tt t; closes = λ pieces f t. tt; ignores = λ pieces f t. tt; begins = λ pieces f t. tt; ends = λ pieces f t. tt })

pub puts-ended : (says : Says) (reply : Reply) (events : List Event) (q q' : Option Ongoing) → q' ≡ row C.End reply events q → PutTurn says C.End reply events q q'
puts-ended says reply events q q' now =
    subst (λ (p : Option Ongoing). PutTurn says C.End reply events q p) (sym now) (record { taken = λ pieces f t. cond-taken says (is_done (kind_of_reply reply)) None q pieces f tt t; closes = λ pieces f t. tt; ignores = λ pieces f t. tt; begins = λ pieces f t. tt; ends = λ pieces f t. tt })

pub puts-dropped : (says : Says) (reply : Reply) (events : List Event) (q q' : Option Ongoing) → q' ≡ row C.Drop reply events q → PutTurn says C.Drop reply events q q'
puts-dropped says reply events q q' now =
    subst (λ (p : Option Ongoing). PutTurn says C.Drop reply events q p) (sym now) (record { taken = λ pieces f t. cond-taken says (is_done (kind_of_reply reply)) None q pieces f tt t; closes = λ pieces f t. tt; ignores = λ pieces f t. tt; begins = λ pieces f t. tt; ends = λ pieces f t. tt })

pub puts-closed : (says : Says) (reply : Reply) (events : List Event) (q q' : Option Ongoing) → q' ≡ row C.Close reply events q → ((pieces : List Piece) (f : Option Filled) → TakenIn says q pieces f → ClosesBy says C.Close q pieces f reply) → PutTurn says C.Close reply events q q'
puts-closed says reply events q q' now closes =
    subst (λ (p : Option Ongoing). PutTurn says C.Close reply events q p) (sym now) (record { taken = λ pieces f t. cond-taken says (is_wrong (kind_of_reply reply)) q None pieces f t tt; closes = closes; ignores = λ pieces f t. tt; begins = λ pieces f t. tt; ends = λ pieces f t. tt })

pub puts-pushed : (says : Says) (k : Key) (limit : Option ℕ) (reply : Reply) (events : List Event) (q q' : Option Ongoing) → q' ≡ row (C.Put k limit) reply [] q → events ≡ [] → PutTurn says (C.Put k limit) reply [] q (row (C.Put k limit) reply [] q) → PutTurn says (C.Put k limit) reply events q q'
puts-pushed says k limit reply events q q' now none turn =
    subst (λ (es : List Event). PutTurn says (C.Put k limit) reply es q q') (sym none)
    (subst (λ (p : Option Ongoing). PutTurn says (C.Put k limit) reply [] q p) (sym now) turn)

-- ---- turns

-- a call by its row that asks nothing of locks
pub by-row : (limits : Limits) (n : ℕ) (act : Act) (all all' : List (ℕ × Ongoing)) (s s' : Store) (m m' : Tracked) (t t' : Locks) (reply : Reply) (events : List Event) → Replies (facts_in s t (request_in (open_at n all))) act (open_at n all) reply events
    → Moves limits (open_at n all) s m events (row act reply events (open_at n all)) s' m' → KeepsKey (open_at n all) (row act reply events (open_at n all)) → IsRowed n act reply events all all'
    → deeds_in n act (kind_of_reply reply) events (open_at n all) ≡ [] → held_in (row act reply events (open_at n all)) ≡ held_in (open_at n all) → t' ≡ t
    → Turn limits n act (open_at n all) s m t reply events (open_at n all') s' m' t'
by-row limits n act all all' s s' m m' t t' reply events replies moves keeps rowed deeds held locks =
    let q = open_at n all in
    subst (λ (p : Option Ongoing). Turn limits n act q s m t reply events p s' m' t') (sym (row-at n act reply events all all' rowed)) (record {
      answers = replies;
      moves = moves;
      keeps = keeps;
      now = refl;
      locks = no_locks_move n (deeds_in n act (kind_of_reply reply) events q) (held_in q) (held_in (row act reply events q)) t t' deeds held locks;
    })

-- a put that is fed, which is x before and y after
pub fed-turn : (limits : Limits) (says : Says) (n : ℕ) (bytes : List ℕ) (at : ℕ) (q q' : Option Ongoing) (x y : Ongoing) (s s' : Store) (m : Tracked) (t : Locks) (reply : Reply) (events : List Event) → HasSome says s q → q ≡ Some x → q' ≡ Some y → IsOngoingPut x → IsOngoingPut y
    → (HasSome says s (Some x) → Replies (facts_in s t x.request) (C.Feed bytes at) (Some x) reply events) → MovesStore (Some x) s events (Some y) s' → KeepsKey (Some x) (Some y) → IsRow (C.Feed bytes at) reply events (Some x) (Some y) → AreOfNoLock events
    → Turn limits n (C.Feed bytes at) q s m t reply events q' s' m t
fed-turn limits says n bytes at q q' x y s s' m t reply events some is now old new answered moves keeps same quiet =
    let replies = answered (subst (HasSome says s) is some) in
    let none = quiet-deeds n 0 (status_left (C.Feed bytes at) events) events quiet in
    subst (λ (p : Option Ongoing). Turn limits n (C.Feed bytes at) p s m t reply events q' s' m t) (sym is)
    (subst (λ (p : Option Ongoing). Turn limits n (C.Feed bytes at) (Some x) s m t reply events p s' m t) (sym now) (record {
      answers = replies;
      moves = moves limits m;
      keeps = keeps;
      now = same;
      locks = no_locks_move n (deeds_in n (C.Feed bytes at) (kind_of_reply reply) events (Some x)) x.request.held y.request.held t t none (ap (λ (z : Ongoing). z.request.held) new.1 ∙ sym (ap (λ (z : Ongoing). z.request.held) old.1)) refl;
    }))

-- a call of requests where a put is open, and of puts where a request is, or nothing
pub none-answered : (f : Facts) (act : Act) (q : Option Ongoing) → q ≡ None → (MayBe f act None → ⊥) → Replies f act q R.WrongCall []
none-answered f act q is fails = subst (λ (p : Option Ongoing). Replies f act p R.WrongCall []) (sym is) (inl (tt, inr (fails, (refl, refl))))

pub other-answered : (f : Facts) (act : Act) (q : Option Ongoing) (x : Ongoing) → q ≡ Some x → (IsOfKind act x → ⊥) → Replies f act q R.WrongCall []
other-answered f act q x is other = subst (λ (p : Option Ongoing). Replies f act p R.WrongCall []) (sym is) (inr (other, (refl, refl)))

pub feeds-answered : (f : Facts) (bytes : List ℕ) (at : ℕ) (x : Ongoing) (reply : Reply) (events : List Event) → IsSome x.put → IsOther reply → Feeds f x.put reply events → Replies f (C.Feed bytes at) (Some x) reply events
feeds-answered f bytes at x reply events some other feeds = inl (some, inl (tt, other, feeds))

pub put-is-there : (x : Ongoing) → IsSome x.put → x.put ≡ None → ⊥
put-is-there x some none = both_ways (is_some x.put) (ap is_some none) some

pub none-is-there : (x : Ongoing) → x.put ≡ None → IsSome x.put → ⊥
none-is-there x plain some = both_ways (is_some x.put) (ap is_some plain) some

-- the facts of a call that asks nothing are those of any parts
pub put-replies : (f g : Facts) (k : Key) (limit : Option ℕ) (q : Option Ongoing) (reply : Reply) (events : List Event) → Replies f (C.Put k limit) q reply events → Replies g (C.Put k limit) q reply events
put-replies f g k limit None reply events a = a
put-replies f g k limit (Some x) reply events a = a

pub drop-replies : (f g : Facts) (q : Option Ongoing) (reply : Reply) (events : List Event) → Replies f C.Drop q reply events → Replies g C.Drop q reply events
drop-replies f g None reply events a = a
drop-replies f g (Some x) reply events a = a

-- ---- the calls that are not of an open put that stays

push-held : (f : Facts) (k : Key) (limit : Option ℕ) (q : Option Ongoing) (reply : Reply) → Replies f (C.Put k limit) q reply [] → held_in (row (C.Put k limit) reply [] q) ≡ held_in q
push-held f k limit None reply a = elim (is_done (kind_of_reply reply)) as (λ b. held_in (cond b (Some (ongoing_put (new_put k limit))) None) ≡ None) [ true ↦ refl | false ↦ refl ]
push-held f k limit (Some x) reply (inl (finds, inl a)) = absurd a.0
push-held f k limit (Some x) reply (inl (finds, inr a)) = ap (λ z. held_in (row (C.Put k limit) z [] (Some x))) a.1.0
push-held f k limit (Some x) reply (inr a) = ap (λ z. held_in (row (C.Put k limit) z [] (Some x))) a.1.0

pub push-turn : (limits : Limits) (n : ℕ) (k : Key) (limit : Option ℕ) (all all' : List (ℕ × Ongoing)) (s : Store) (m : Tracked) (t : Locks) (reply : Reply) (events : List Event) → events ≡ [] → Replies no_facts (C.Put k limit) (open_at n all) reply []
    → MovesRequest (open_at n all) (row (C.Put k limit) reply [] (open_at n all)) → KeepsKey (open_at n all) (row (C.Put k limit) reply [] (open_at n all)) → IsRowed n (C.Put k limit) reply [] all all'
    → Turn limits n (C.Put k limit) (open_at n all) s m t reply events (open_at n all') s m t
push-turn limits n k limit all all' s m t reply events none replies moves keeps rowed =
    let q = open_at n all in
    subst (λ es. Turn limits n (C.Put k limit) q s m t reply es (open_at n all') s m t) (sym none)
    (by-row limits n (C.Put k limit) all all' s s m m t t reply [] (put-replies no_facts (facts_in s t (request_in q)) k limit q reply [] replies) (moves s limits m) keeps rowed refl (push-held no_facts k limit q reply replies) refl)

pub drop-turn : (limits : Limits) (n : ℕ) (all all' : List (ℕ × Ongoing)) (s s' : Store) (m : Tracked) (t : Locks) (reply : Reply) (events : List Event) → Replies no_facts C.Drop (open_at n all) reply events
    → MovesStore (open_at n all) s events (row C.Drop reply events (open_at n all)) s' → KeepsKey (open_at n all) (row C.Drop reply events (open_at n all)) → IsRowed n C.Drop reply events all all'
    → AreOfNoLock events → held_in (row C.Drop reply events (open_at n all)) ≡ held_in (open_at n all) → Turn limits n C.Drop (open_at n all) s m t reply events (open_at n all') s' m t
drop-turn limits n all all' s s' m t reply events replies moves keeps rowed quiet held =
    let q = open_at n all in
    by-row limits n C.Drop all all' s s' m m t t reply events (drop-replies no_facts (facts_in s t (request_in q)) q reply events replies) (moves limits m) keeps rowed (quiet-deeds n 0 (status_left C.Drop events) events quiet) held refl

pub close-turn : (limits : Limits) (n : ℕ) (all all' : List (ℕ × Ongoing)) (says : Says) (s s' : Store) (m m' : Tracked) (t t' : Locks) (reply : Reply) (events : List Event) → IsOfWorldIn (open_at n all) → HasSome says s (open_at n all)
    → (HasSome says s (open_at n all) → Replies (facts_in s t (request_in (open_at n all))) C.Close (open_at n all) reply events)
    → (IsOfWorldIn (open_at n all) → HasSome says s (open_at n all) → Moves limits (open_at n all) s m events (row C.Close reply events (open_at n all)) s' m') → KeepsKey (open_at n all) (row C.Close reply events (open_at n all))
    → IsRowed n C.Close reply events all all' → AreOfNoLock events → held_in (row C.Close reply events (open_at n all)) ≡ held_in (open_at n all) → t' ≡ t → Turn limits n C.Close (open_at n all) s m t reply events (open_at n all') s' m' t'
close-turn limits n all all' says s s' m m' t t' reply events world some replies moves keeps rowed quiet held locks =
    by-row limits n C.Close all all' s s' m m' t t' reply events (replies some) (moves world some) keeps rowed (quiet-deeds n 0 (status_left C.Close events) events quiet) held locks

-- a number that is not free, and one that is
by-put : (P : Type 0) (o : Option Taking) → (o ≡ None → P) → ((o ≡ None → ⊥) → P) → P
by-put P None a b = a refl
by-put P (Some p) a b = b (λ is. cc)

-- a call that hands nothing over
pub wrong-given : (f : Facts) (to : ℕ) (q : Option Ongoing) (reply : Reply) (events : List Event) → (FindsKind (C.Give to) q → MayBe f (C.Give to) q → ⊥) → IsIdle R.WrongCall reply events → Replies f (C.Give to) q reply events
wrong-given f to None reply events fails idle = inl (tt, inr (λ may. may, idle))
wrong-given f to (Some x) reply events fails idle = by-put (Replies f (C.Give to) (Some x) reply events) x.put (λ plain. inl (plain, inr (λ may. fails plain may, idle))) (λ put. inr (put, idle))
