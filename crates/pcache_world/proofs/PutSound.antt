-- A step of a sound world keeps what it keeps of its puts.
use Rattle.std.proofs.Common.{option_map}
use Rattle.pcache_put.specs.Puts.{Says}
use Rattle.pcache_store.specs.Store.{is_told as store-told}
use Rattle.pcache_history.specs.Events.{is_told}
use Rattle.pcache_history.specs.declared.call.Act.{Act}
use Rattle.pcache_history.specs.Ongoing.{is_done}
use Rattle.pcache_history.specs.PutHistory.{Tells, TellsOf}
use Rattle.pcache_world.specs.PutsSound.{EndedIn, HasEnded}
use Rattle.pcache_history.proofs.PutEnds.{told-whole}
use Rattle.pcache_history.proofs.Taken.{taken_keeps}
use Rattle.pcache_world.proofs.Words.{◌≡◌, ℕ, ◌==◌, ◌||◌, nat_lt, true, false, cond, if◌then◌else◌, Option, None, Some, IsSome, List, [], ◌∷◌, refl, ap, sym, subst, ◌∙◌, inl, inr, reverse, eqb-true, is_at, lookup, nat_cmp, FinMap, empty, from_entries, get, get-empty, Counted, OutOfMemory, Piece, IsResult, Stage, InBody, Filled, limit_of, Tracked, Limits, Locks, Meta, Store, begin_of, body_of, in_flight, events_of, Reply, Entry, Event, unheld, Ongoing, kind_of_reply, request_of, row, taken_over, turned_by, untold, uncounted, untold_put, AreWhole, BeginsBy, BeginsOf, SayBegins, ClosesBy, EndsBy, IgnoresAt, IgnoresBy, IgnoresIn, IgnoresOf, WasAtStage, filled_after, filled_of, pieces_of, pieces_on, EndsWhole, HasSome, PutTurn, PutsSound, TakenIn, IsCopy, IsIdle, AreOpen, IsSound, readers, record_of, IsRow, Taking, kind-copied, row-copied}
use Rattle.pcache_history.specs.declared.call.Act.TheVariants as C
use Rattle.pcache_history.specs.declared.call.Reply.TheVariants as R
use Rattle.pcache_world.proofs.MovedState.{set_to}
use Rattle.pcache_world.proofs.Opened.{get-set_to}
use Rattle.pcache_world.proofs.Turned.{at-number, lookup-get}
use Rattle.pcache_world.proofs.Untold.{row-at}

-- at its start
pub puts-none : (says : Says) (all : List (ℕ × Ongoing)) (h : List Entry) → all ≡ [] → h ≡ [] → PutsSound says (from_entries {R = nat_cmp} all) (reverse h)
puts-none says all h none new =
    subst (λ (es : List (ℕ × Ongoing)). PutsSound says (from_entries {R = nat_cmp} es) (reverse h)) (sym none)
    (subst (λ (xs : List Entry). PutsSound says empty (reverse xs)) (sym new) (record { follow = tt; taken = λ r. subst (λ q. TakenIn says q [] None) (sym (get-empty nat_cmp r)) tt }))

-- its history in another form
pub puts-same : (says : Says) (all : FinMap nat_cmp Ongoing) (h h' : List Entry) → PutsSound says all (reverse h) → h' ≡ h → PutsSound says all (reverse h')
puts-same says all h h' k is = subst (λ (xs : List Entry). PutsSound says all (reverse xs)) (sym is) k

-- what the code keeps is what a history knows
limits-alike : (c : Option Counted) → limit_of (option_map uncounted c) ≡ limit_of c
limits-alike None = refl
limits-alike (Some c) = refl

stood : (says : Says) (x : Ongoing) (pieces : List Piece) (f : Option Filled) → TakenIn says (Some x) pieces f → WasAtStage says (Some (untold x)) pieces f
stood says x pieces f taken = by x.put taken
  where
    by : (p : Option Taking) → TakenIn says (Some (record { request = x.request; pair = x.pair; carried = x.carried; put = p })) pieces f → WasAtStage says (Some (untold (record { request = x.request; pair = x.pair; carried = x.carried; put = p }))) pieces f
    by None t = tt
    by (Some p) t = (p.size, p.parser, sym (limits-alike p.size), t)

pub stood-in : (says : Says) (q : Option Ongoing) (pieces : List Piece) (f : Option Filled) → TakenIn says q pieces f → WasAtStage says (option_map untold q) pieces f
stood-in says None pieces f t = tt
stood-in says (Some x) pieces f t = stood says x pieces f t

tells-alike : (says : Says) (p : Option Taking) (pieces : List Piece) (f : Option Filled) (reply : Reply) → TellsOf says p pieces f reply → TellsOf says (option_map untold_put p) pieces f reply
tells-alike says None pieces f reply tells = tells
tells-alike says (Some p) pieces f reply tells = subst (λ n. Tells (IsResult says n pieces) f reply) (sym (limits-alike p.size)) tells

closes-untold : (says : Says) (act : Act) (q : Option Ongoing) (pieces : List Piece) (f : Option Filled) (reply : Reply) → ClosesBy says act q pieces f reply → ClosesBy says act (option_map untold q) pieces f reply
closes-untold says C.Close None pieces f reply c = c
closes-untold says C.Close (Some x) pieces f reply c = tells-alike says x.put pieces f reply c
closes-untold says act q pieces f reply c = tt

-- and a write begins so
begins-alike : (says : Says) (p : Option Taking) (pieces : List Piece) (events : List Event) → BeginsOf says p pieces events → BeginsOf says (option_map untold_put p) pieces events
begins-alike says None pieces events begins = begins
begins-alike says (Some p) pieces events begins = subst (λ n. SayBegins says n pieces events) (sym (limits-alike p.size)) begins

begins-untold : (says : Says) (act : Act) (q : Option Ongoing) (pieces : List Piece) (events : List Event) → BeginsBy says act q pieces events → BeginsBy says act (option_map untold q) pieces events
begins-untold says (C.Feed bytes t) None pieces events begins = begins
begins-untold says (C.Feed bytes t) (Some x) pieces events begins = begins-alike says x.put pieces events begins
begins-untold says act q pieces events begins = tt

-- if memory runs out nothing is said
starved-tells : (says : Says) (p : Option Taking) (pieces : List Piece) (f : Option Filled) → TellsOf says p pieces f (R.Refused OutOfMemory)
starved-tells says None pieces f = tt
starved-tells says (Some p) pieces f = tt

starved-closes : (says : Says) (act : Act) (q : Option Ongoing) (pieces : List Piece) (f : Option Filled) → ClosesBy says act q pieces f (R.Refused OutOfMemory)
starved-closes says C.Close None pieces f = tt
starved-closes says C.Close (Some x) pieces f = starved-tells says x.put pieces f
starved-closes says act q pieces f = tt

copied-closes : (says : Says) (act : Act) (q : Option Ongoing) (pieces : List Piece) (f : Option Filled) (reply told : Reply) → IsCopy reply told → ClosesBy says act q pieces f reply → ClosesBy says act q pieces f told
copied-closes says act q pieces f reply told (inl same) c = subst (ClosesBy says act q pieces f) (sym same) c
copied-closes says act q pieces f reply told (inr (refused, given)) c = subst (ClosesBy says act q pieces f) (sym refused) (starved-closes says act q pieces f)

-- the history says that a piece is ignored just if the code does
copied-idle : (events : List Event) (reply told : Reply) → IsCopy reply told → IsIdle R.Done reply events → IsIdle R.Done told events
copied-idle events reply told (inl same) i = (same ∙ i.0, i.1)
copied-idle events reply told (inr (refused, given)) i = let no : R.Done ≡ R.Data given.0 = sym i.0 ∙ given.1 in absurd (cc)

module _ (pieces : List Piece) (events : List Event) (reply told : Reply) (copy : IsCopy reply told) where
  ignored-at : (stage : Stage) → IgnoresAt stage pieces reply events → IgnoresAt stage pieces told events
  ignored-at (InBody w id until) ignores = λ whole. copied-idle events reply told copy (ignores whole)
  ignored-at stage ignores = tt

  ignored-of : (p : Option Taking) → IgnoresOf p pieces reply events → IgnoresOf (option_map untold_put p) pieces told events
  ignored-of None ignores = tt
  ignored-of (Some p) ignores = ignored-at p.stage ignores

  ignored-in : (q : Option Ongoing) → IgnoresIn q pieces reply events → IgnoresIn (option_map untold q) pieces told events
  ignored-in None ignores = tt
  ignored-in (Some x) ignores = ignored-of x.put ignores

  ignored-by : (act : Act) (q : Option Ongoing) → IgnoresBy act q pieces reply events → IgnoresBy act (option_map untold q) pieces told events
  ignored-by (C.Feed bytes t) q ignores = ignored-in q ignores
  ignored-by act q ignores = tt

-- one more call
pub puts-after : (says : Says) (all : FinMap nat_cmp Ongoing) (h : List Entry) (n : ℕ) (act : Act) (reply told : Reply) (events : List Event) (q' : Option Ongoing) → PutsSound says all h → AreOpen h all → PutTurn says act reply events (get all n) q' → IsRow act reply events (get all n) q' → IsCopy reply told
    → PutsSound says (set_to all n q') (record { call = record { request = n; act = act }; reply = told; events = events } ∷ h)
puts-after says all h n act reply told events q' k are turn now copy =
    let q = get all n in
    let pieces = pieces_of n h in
    let f = filled_of n h in
    let got = turn.taken pieces f (k.taken n) in
    let same = kind-copied reply told copy in
    let row-is : option_map untold q' ≡ row act told events (request_of n h) = row-at act reply events q q' now ∙ ap (row act reply events) (are n) ∙ sym (row-copied act reply told events (request_of n h) copy) in
    let taken : TakenIn says q' (pieces_on act (kind_of_reply told) pieces) (filled_after act (kind_of_reply told) events f) = subst (λ o. TakenIn says q' (pieces_on act o pieces) (filled_after act o events f)) (sym same) got in
    record {
      follow = (
        record {
          stands = subst (λ p. WasAtStage says p (pieces_on act (kind_of_reply told) pieces) (filled_after act (kind_of_reply told) events f)) row-is (stood-in says q' (pieces_on act (kind_of_reply told) pieces) (filled_after act (kind_of_reply told) events f) taken);
          closes = subst (λ p. ClosesBy says act p pieces f told) (are n) (closes-untold says act q pieces f told (copied-closes says act q pieces f reply told copy (turn.closes pieces f (k.taken n))));
          ignores = subst (λ p. IgnoresBy act p pieces told events) (are n) (ignored-by pieces events reply told copy act q (turn.ignores pieces f (k.taken n)));
          begins = subst (λ p. BeginsBy says act p (pieces_on act (kind_of_reply told) pieces) events) (are n)
              (begins-untold says act q (pieces_on act (kind_of_reply told) pieces) events (subst (λ o. BeginsBy says act q (pieces_on act o pieces) events) (sym same) (turn.begins pieces f (k.taken n))));
          ends = subst (λ o. EndsBy act (pieces_on act o pieces) events) (sym same) (turn.ends pieces f (k.taken n));
        },
        k.follow,
      );
      taken = λ r. subst (λ p. TakenIn says p (pieces_of r (record { call = record { request = n; act = act }; reply = told; events = events } ∷ h)) (filled_of r (record { call = record { request = n; act = act }; reply = told; events = events } ∷ h))) (sym (get-set_to all n q' r))
          (elim (n == r) as (λ b. (n == r) ≡ b → TakenIn says (cond b q' (get all r)) (if b then pieces_on act (kind_of_reply told) (pieces_of r h) else pieces_of r h) (if b then filled_after act (kind_of_reply told) events (filled_of r h) else filled_of r h)) [
            | true ↦ λ is. subst (λ x. TakenIn says q' (pieces_on act (kind_of_reply told) (pieces_of x h)) (filled_after act (kind_of_reply told) events (filled_of x h))) (eqb-true n r is) taken
            | false ↦ λ _. k.taken r
          ] refl);
    }

-- a call that hands a permit over leaves each put as it is
row-given : (P : Option Ongoing → Type 0) → ((x : Ongoing) → P (Some x) → P (Some (turned_by unheld false x))) → (to : ℕ) (reply : Reply) (events : List Event) (q : Option Ongoing) → P q → P (row (C.Give to) reply events q)
row-given P turns to reply events None is = elim (is_done (kind_of_reply reply)) as (λ b. P (cond b None None)) [ true ↦ is | false ↦ is ]
row-given P turns to reply events (Some x) is = elim (is_done (kind_of_reply reply)) as (λ b. P (cond b (Some (turned_by unheld false x)) (Some x))) [ true ↦ turns x is | false ↦ is ]

pub puts-given : (says : Says) (all new : FinMap nat_cmp Ongoing) (h : List Entry) (from to : ℕ) (reply told : Reply) (events : List Event) → PutsSound says all h → AreOpen h all
    → ((q : ℕ) → get new q ≡ taken_over (C.Give to) (kind_of_reply reply) q (get all from) (cond (is_at (nat_cmp from) q) (row (C.Give to) reply events (get all from)) (get all q))) → PutsSound says new (record { call = record { request = from; act = C.Give to }; reply = told; events = events } ∷ h)
puts-given says all new h from to reply told events k are moved = record {
  follow = (
    record {
      stands = row-given (λ q. WasAtStage says q (pieces_of from h) (filled_of from h)) (λ x is. is) to told events (request_of from h) (subst (λ q. WasAtStage says q (pieces_of from h) (filled_of from h)) (are from) (stood-in says (get all from) (pieces_of from h) (filled_of from h) (k.taken from)));
      closes = tt;
      ignores = tt;
      begins = tt;
      ends = tt;
    },
    k.follow,
  );
  taken = λ r.
      let P : Option Ongoing → Type 0 = λ q. TakenIn says q (if from == r then pieces_of r h else pieces_of r h) (if from == r then filled_of r h else filled_of r h) in
      subst P (sym (moved r)) (taken_keeps P (λ x o is. is) (C.Give to) (kind_of_reply reply) r (get all from) (cond (is_at (nat_cmp from) r) (row (C.Give to) reply events (get all from)) (get all r))
      (subst (λ b. P (cond b (row (C.Give to) reply events (get all from)) (get all r))) (at-number from r)
      (elim (from == r) as (λ b. (from == r) ≡ b → TakenIn says (cond b (row (C.Give to) reply events (get all from)) (get all r)) (if b then pieces_of r h else pieces_of r h) (if b then filled_of r h else filled_of r h)) [
        | true ↦ λ is. row-given (λ q. TakenIn says q (pieces_of r h) (filled_of r h)) (λ x t. t) to reply events (get all from) (subst (λ n. TakenIn says (get all n) (pieces_of r h) (filled_of r h)) (sym (eqb-true from r is)) (k.taken r))
        | false ↦ λ _. k.taken r
      ] refl)));
}

-- the record of a write has the mark of its end only if the history announced it
record-told : (w n : ℕ) (es : List Event) → store-told (record_of w n es) ≡ true → is_told w es ≡ true
record-told w n es =
    elim (in_flight w es || nat_lt 0 n) as (λ b. store-told (if b then option_map (λ (p : ℕ × Meta). record { slot = p.0; meta = p.1; bytes = body_of w es; told = is_told w es; flying = in_flight w es; readers = n }) (begin_of w es) else None) ≡ true → is_told w es ≡ true) [
      | true ↦ elim (begin_of w es) as (λ o. store-told (option_map (λ (p : ℕ × Meta). record { slot = p.0; meta = p.1; bytes = body_of w es; told = is_told w es; flying = in_flight w es; readers = n }) o) ≡ true → is_told w es ≡ true) [ None ↦ λ no. absurd (cc) | Some p ↦ λ is. is ]
      | false ↦ λ no. absurd (cc)
    ]

-- the put that a call names has taken in some pieces, and its end was announced only with the whole body
module _ (limits : Limits) (start m : Tracked) (s : Store) (t : Locks) (says : Says) (all : FinMap nat_cmp Ongoing) (h : List Entry) (k : IsSound limits start m s t all h) (puts : PutsSound says all h) (n : ℕ) where
  ended-at : (x : Ongoing) (w : ℕ) → get all n ≡ Some x → IsSome (untold x).put → x.request.write ≡ Some w → store-told (get s.writes w) ≡ true → AreWhole (pieces_of n h)
  ended-at x w is put write told =
      told-whole t.age_timeout limits start says h n w (untold x) k.legal puts.follow (sym (k.requests n) ∙ ap (option_map untold) is) put write
      (record-told w (readers all w) (events_of h) (ap store-told (sym (k.state.writes w)) ∙ told))

  ended-put : (x : Ongoing) → get all n ≡ Some x → (p : Option Taking) → x.put ≡ p → HasEnded s x p (pieces_of n h)
  ended-put x is None put = tt
  ended-put x is (Some p) put = by x.request.write refl
    where
      by : (o : Option ℕ) → x.request.write ≡ o → EndsWhole s o (pieces_of n h)
      by None write = tt
      by (Some w) write = ended-at x w is (subst (λ o. IsSome (option_map untold_put o)) (sym put) refl) write

  ended-in : (q : Option Ongoing) → get all n ≡ q → EndedIn s q (pieces_of n h)
  ended-in None is = tt
  ended-in (Some x) is = ended-put x is x.put refl

  has-some-at : HasSome says s (get all n)
  has-some-at = (pieces_of n h, filled_of n h, puts.taken n, ended-in (get all n) refl, k.state.newest)

pub has-some : (limits : Limits) (start m : Tracked) (s : Store) (t : Locks) (says : Says) (all : List (ℕ × Ongoing)) (h : List Entry) (n : ℕ) → IsSound limits start m s t (from_entries {R = nat_cmp} all) h → PutsSound says (from_entries {R = nat_cmp} all) h → HasSome says s (lookup (is_at (nat_cmp n)) all)
has-some limits start m s t says all h n k puts = subst (HasSome says s) (sym (lookup-get all n)) (has-some-at limits start m s t says (from_entries {R = nat_cmp} all) h k puts n)
