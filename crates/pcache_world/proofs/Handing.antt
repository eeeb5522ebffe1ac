-- A permit that one request hands to another leaves a sound world sound.
use Rattle.std.proofs.Common.{option_map}
use Rattle.std.proofs.lemmas.Bool.{ne_eqb}
use Rattle.pcache_lock.specs.Permits.{Reader}
use Rattle.pcache_lock.specs.declared.lock.permit.Locked.TheVariants.{Read}
use Rattle.pcache_request.specs.LockUse.{gone_for, permit_in, table_handed}
use Rattle.pcache_request.specs.Requests.{Request}
use Rattle.pcache_lock.specs.Deeds.{LetGo}
use Rattle.pcache_history.specs.Deeds.{Did, handed_on}
use Rattle.pcache_world.specs.Handing.{HandsOver, table_given}
use Rattle.pcache_history.specs.Ongoing.{handed_by, permit_held}
use Rattle.pcache_world.specs.Moved.{Did}
use Rattle.pcache_history.specs.Rules.{MayTake, given_up, let_go_of}
use Rattle.pcache_history.proofs.Taken.{handed-keeps}
use Rattle.pcache_world.proofs.Words.{◌≡◌, ◌≢◌, ℕ, ◌+◌, ◌^◌, ◌<◌, ◌==◌, Bool, true, false, cond, if◌then◌else◌, Option, None, Some, IsSome, List, [], ◌∷◌, ◌++◌, reverse, refl, ap, sym, subst, ◌∙◌, arith, inl, inr, length, nat_cmp, is_at, nat_cmp_total, FinMap, from_entries, get, remove, same_map, nat_cmp-IsAntisymmetric, eqb-true, eq-eqb, both_ways, Tracked, Limits, Locks, Permit, Locked, Write, unheld, let_go_by, Store, Reply, Entry, Event, is_held, Deed, Handed, deeds_by, deeds_of, done, held_in, shown, who_holds, AreDue, Facts, request_in, facts_for, facts_in, open_at, taker_at, Ongoing, on_request, request_of, row, taker_in, turned_by, untold, untold_put, untold_lock, untold_request, events_of, Gives, IsLegal, each_deed, Holds, IsTable, locks_read, read_locks, Moves, reads_of, FindsKind, IsCopy, IsIdle, MayBe, Replies, each, permit_of, AllHold, AreOpen, IsSound, readers, Turn, Taking, AreGiven, Waiting, waiting_in, same-number}
use Rattle.pcache_lock.specs.declared.lock.status.LockStatus.TheVariants as status
use Rattle.pcache_history.specs.declared.call.Act.TheVariants as C
use Rattle.pcache_history.specs.declared.call.Reply.TheVariants as R
use Rattle.pcache_history.specs.declared.entry.Event.TheVariants as E
use Rattle.pcache_world.proofs.LockKept.{go, held-by, holds-none, reversed-two}
use Rattle.pcache_world.proofs.LockSteps.{let-go-deeds}
use Rattle.pcache_world.proofs.LockTable as table
use Rattle.pcache_world.proofs.LockTable.{Follows, given-there, read-there, some-same}
use Rattle.pcache_world.proofs.LockWatch.{watch-same}
use Rattle.pcache_world.proofs.MovedState.{readers-set, readers-split, set_to}
use Rattle.pcache_world.proofs.MovesOf.{idle}
use Rattle.pcache_world.proofs.Opened.{get-set_to}
use Rattle.pcache_world.proofs.PutTurns.{wrong-given}
use Rattle.pcache_world.proofs.TurnOf.{wrong-turn}
use Rattle.pcache_world.proofs.ReadLocks.{lock-counted, locks-few, locks-moved}
use Rattle.pcache_world.proofs.SoundOf.{sound-of}
use Rattle.pcache_world.proofs.States.{state-same}
use Rattle.pcache_world.proofs.Turned.{lookup-get, set-at}
use Rattle.pcache_world.proofs.Uniform.{each-turn-keeps, facts-agree, legal-with, parts-move}
use Rattle.pcache_world.proofs.Waiting.{let-go-by, locked-after}

-- ---- what is let go

abbrev gone : Permit → Ongoing → Option Locked
gone p y = gone_for p y.request

table-gone : (p : Permit) (y : Request) (t : Locks) → table_handed p y t ≡ let_go_by (gone_for p y) t
table-gone p y t = elim y.uses.lock as (λ b. cond b (let_go_by y.held t) (let_go_by (Some (Write p)) t) ≡ let_go_by (cond b y.held (Some (Write p))) t) [ true ↦ refl | false ↦ refl ]

gone-moves : (limits : Limits) (x x' : Ongoing) (s : Store) (m : Tracked) (o : Option ℕ) → x'.request.reader ≡ x.request.reader → x'.pair ≡ x.pair → x'.request.write ≡ x.request.write → Moves limits (Some x) s m (each E.LetGo o) (Some x') s m
gone-moves limits x x' s m None reader pair write = ([], refl, record { count = λ w. (λ i. reads_of (Some (record x { request = record x.request { reader = reader i }; pair = pair i })) w); write = write; owed = refl; store = refl; tracked = refl })
gone-moves limits x x' s m (Some l) reader pair write = (Did (E.LetGo l) ∷ [], refl, (tt, record { count = λ w. (λ i. reads_of (Some (record x { request = record x.request { reader = reader i }; pair = pair i })) w); write = write; owed = refl; store = refl; tracked = refl }))

gone-due : (limits : Limits) (start : Tracked) (es : List Event) (q : Option Ongoing) (w : Option ℕ) (o : Option ℕ) → AreDue limits start es q w None (each E.LetGo o) w
gone-due limits start es q w None = (refl, refl)
gone-due limits start es q w (Some l) = (tt, (refl, refl))

gone-given : (w : Waiting) (o : Option ℕ) → AreGiven w (each E.LetGo o)
gone-given w None = tt
gone-given w (Some l) = (tt, tt)

-- ---- what a read lock was told plays no part

permit-untold : (h : Option Locked) → permit_in (option_map untold_lock h) ≡ permit_in h
permit-untold None = refl
permit-untold (Some (Write p)) = refl
permit-untold (Some (Read rd)) = refl

number-untold : (h : Option Locked) → permit_of (option_map untold_lock h) ≡ permit_of h
number-untold None = refl
number-untold (Some (Write p)) = refl
number-untold (Some (Read rd)) = refl

handed-untold : (p : Permit) (y : Ongoing) → untold (handed_by (Some p) y) ≡ handed_by (Some p) (untold y)
handed-untold p y =
    elim y.request.uses.lock as (λ b. untold (record { request = cond b (record y.request { held = Some (Write p) }) y.request; pair = y.pair; carried = y.carried; put = y.put })
    ≡ record { request = cond b (record (untold_request y.request) { held = Some (Write p) }) (untold_request y.request); pair = y.pair; carried = y.carried; put = option_map untold_put y.put }) [ true ↦ refl | false ↦ refl ]

given-untold : (p : Permit) (y : Ongoing) → let_go_of (gone p (untold y)) ≡ let_go_of (gone p y)
given-untold p y =
    elim y.request.uses.lock as (λ b. let_go_of (cond b (option_map untold_lock y.request.held) (Some (Write p))) ≡ let_go_of (cond b y.request.held (Some (Write p)))) [
      | true ↦ ap (each E.LetGo) (number-untold y.request.held)
      | false ↦ refl
    ]

held-write : (h : Option Locked) (p : Permit) → permit_in h ≡ Some p → h ≡ Some (Write p)
held-write None p e = absurd (cc)
held-write (Some (Write q)) p e = let same : q ≡ p = cc in ap (λ z. Some (Write z)) same
held-write (Some (Read rd)) p e = absurd (cc)

unheld-untold : (q : Option Ongoing) → option_map (on_request unheld) (option_map untold q) ≡ option_map untold (option_map (on_request unheld) q)
unheld-untold None = refl
unheld-untold (Some z) = refl

-- the taker as the history names it
taker-is : (all : FinMap nat_cmp Ongoing) (h : List Entry) (from to : ℕ) → AreOpen h all → taker_in from (C.Give to) h ≡ option_map untold (taker_at from to (get all))
taker-is all h from to are =
    ap (λ q. cond (from == to) (option_map (on_request unheld) q) q) (sym (are to))
    ∙ elim (from == to) as (λ b. cond b (option_map (on_request unheld) (option_map untold (get all to))) (option_map untold (get all to)) ≡ option_map untold (cond b (option_map (on_request unheld) (get all to)) (get all to))) [
      | true ↦ unheld-untold (get all to)
      | false ↦ refl
    ]

-- ---- a lock that a request goes on to hold

abbrev Deeds : ℕ → ℕ → ℕ → Option ℕ → List Deed → List Deed
Deeds r l to o ds = each_deed (λ x. Did r (LetGo x)) o ++ Handed l to ∷ ds

who-still : (who : ℕ) (ds : List Deed) (l to z : ℕ) (o : Option ℕ) → (l == z) ≡ false → ((w : ℕ) → o ≡ Some w → (w == z) ≡ false) → who_holds z (Deeds who l to o ds) ≡ who_holds z ds
who-still who ds l to z None other others = ap (λ b. if b then option_map (λ _. to) (who_holds z ds) else who_holds z ds) other
who-still who ds l to z (Some w) other others = ap (λ b. if b then None else who_holds z (Handed l to ∷ ds)) (others w refl) ∙ ap (λ b. if b then option_map (λ _. to) (who_holds z ds) else who_holds z ds) other

who-takes : (who : ℕ) (ds : List Deed) (l from to : ℕ) (o : Option ℕ) → who_holds l ds ≡ Some from → ((w : ℕ) → o ≡ Some w → (w == l) ≡ false) → who_holds l (Deeds who l to o ds) ≡ Some to
who-takes who ds l from to None is others = ap (λ b. if b then option_map (λ _. to) (who_holds l ds) else who_holds l ds) (same-number l) ∙ ap (option_map (λ _. to)) is
who-takes who ds l from to (Some w) is others =
    ap (λ b. if b then None else who_holds l (Handed l to ∷ ds)) (others w refl) ∙ ap (λ b. if b then option_map (λ _. to) (who_holds l ds) else who_holds l ds) (same-number l) ∙ ap (option_map (λ _. to)) is

shown-still : (who : ℕ) (ds : List Deed) (l to r q : ℕ) (o : Option ℕ) → shown r q (Deeds who l to o ds) ≡ shown r q ds
shown-still who ds l to r q None = refl
shown-still who ds l to r q (Some w) = refl

holds-on : (r : ℕ) (ds es : List Deed) (n m : ℕ → ℕ) (t u : Locks) (h : Option Locked) → IsTable ds n t → Follows es m t u → ((z : ℕ) → permit_of h ≡ Some z → who_holds z es ≡ Some r) → ((q : ℕ) → shown r q es ≡ shown r q ds) → ((rd : Reader) → h ≡ Some (Read rd) → 0 < n rd.number)
    → Holds r ds t h → Holds r es u h
holds-on r ds es n m t u h k a permit shows read old = record {
  permit = permit;
  watch = λ rd is there.
      let l = rd.number in
      let w = a.kept l (given-there ds n t k l (read-there ds n t k l (read rd is))) there in
      watch-same r l ds es rd.watch _ _ (shows l) w.1 (old.watch rd is w.0);
}

-- ---- a permit is handed over

module _ (limits : Limits) (start m : Tracked) (s : Store) (t : Locks) (all : FinMap nat_cmp Ongoing) (h : List Entry) (from to : ℕ) (k : IsSound limits start m s t all h) (x y : Ongoing) (p : Permit)
    (giver : get all from ≡ Some x) (plain : x.put ≡ None) (holds : x.request.held ≡ Some (Write p)) (taker : taker_at from to (get all) ≡ Some y) (may : MayTake (Some y)) where
  abbrev es : List Event
  es = events_of h

  abbrev ds : List Deed
  ds = deeds_of h

  abbrev x1 : Ongoing
  x1 = on_request unheld x

  abbrev y2 : Ongoing
  y2 = handed_by (Some p) y

  abbrev g : Option Locked
  g = gone p y

  abbrev events : List Event
  events = let_go_of g

  abbrev mid : FinMap nat_cmp Ongoing
  mid = set_to all from (Some x1)

  abbrev after : FinMap nat_cmp Ongoing
  after = set_to mid to (Some y2)

  abbrev t' : Locks
  t' = let_go_by g t

  abbrev entry : Entry
  entry = record { call = record { request = from; act = C.Give to }; reply = R.Done; events = events }

  abbrev n : ℕ → ℕ
  n = read_locks all

  -- the taker, after the giver no longer holds the permit
  at-taker : (b : Bool) → (from == to) ≡ b → cond b (option_map (on_request unheld) (get all to)) (get all to) ≡ Some y → cond b (Some x1) (get all to) ≡ Some y
  at-taker true same e = sym (ap (option_map (on_request unheld)) (ap (get all) (sym (eqb-true from to same)) ∙ giver)) ∙ e
  at-taker false other e = e

  pub mid-taker : get mid to ≡ Some y
  mid-taker = get-set_to all from (Some x1) to ∙ at-taker (from == to) refl taker

  -- who takes it and is not the giver held this before; who is the giver holds nothing then
  taker-other : (from == to) ≡ false → get all to ≡ Some y
  taker-other other = sym (ap (λ b. cond b (option_map (on_request unheld) (get all to)) (get all to)) other) ∙ taker

  taker-self : (from == to) ≡ true → y.request.held ≡ None
  taker-self same =
      let is : Some x1 ≡ Some y = sym (ap (option_map (on_request unheld)) (ap (get all) (sym (eqb-true from to same)) ∙ giver)) ∙ sym (ap (λ b. cond b (option_map (on_request unheld) (get all to)) (get all to)) same) ∙ taker in
      ap (λ (z : Ongoing). z.request.held) (sym (some-same x1 y is))

  held-by-giver : who_holds p.number ds ≡ Some from
  held-by-giver = (k.holds from x giver).permit p.number (ap permit_of holds)

  -- a permit of another request is another
  not-this : (r z : ℕ) → r ≢ from → who_holds z ds ≡ Some r → (p.number == z) ≡ false
  not-this r z other is = ne_eqb p.number z (λ same. other (some-same r from (sym is ∙ ap (λ l. who_holds l ds) (sym same) ∙ held-by-giver)))

  -- what the taker held
  taker-permit : (z : ℕ) → permit_of y.request.held ≡ Some z → (to ≢ from) × (who_holds z ds ≡ Some to)
  taker-permit z e = by (from == to) refl
    where
      by : (b : Bool) → (from == to) ≡ b → (to ≢ from) × (who_holds z ds ≡ Some to)
      by true same = let no : ◌≡◌ {A = Option ℕ} None (Some z) = sym (ap permit_of (taker-self same)) ∙ e in absurd (cc)
      by false other = ((λ same. both_ways (from == to) other (eq-eqb from to (sym same))), (k.holds to y (taker-other other)).permit z e)

  taker-held : (b : Bool) (z : ℕ) → permit_of (cond b y.request.held (Some (Write p))) ≡ Some z → is_held z (done ds) ≡ true
  taker-held true z e = held-by z ds to (taker-permit z e).1
  taker-held false z e = held-by z ds from (ap (λ l. who_holds l ds) (sym (some-same p.number z e)) ∙ held-by-giver)

  -- ---- the lock table

  giver-reads : (l : ℕ) → locks_read l (held_in (get all from)) ≡ 0
  giver-reads l = ap (λ q. locks_read l (held_in q)) giver ∙ ap (locks_read l) holds

  count-by : (b : Bool) (l a c : ℕ) → a + locks_read l y.request.held ≡ c + locks_read l (cond b (Some (Write p)) y.request.held) → a + locks_read l (cond b y.request.held (Some (Write p))) ≡ c
  count-by true l a c is = omega (arith, is)
  count-by false l a c is = omega (arith, is)

  held-after : y2.request.held ≡ cond y.request.uses.lock (Some (Write p)) y.request.held
  held-after = elim y.request.uses.lock as (λ b. (cond b (record y.request { held = Some (Write p) }) y.request).held ≡ cond b (Some (Write p)) y.request.held) [ true ↦ refl | false ↦ refl ]

  count : (l : ℕ) → read_locks after l + locks_read l g ≡ n l
  count l =
      let a = locks-moved all from (Some x1) l in
      let gave = giver-reads l in
      let b : read_locks after l + locks_read l y.request.held ≡ read_locks mid l + locks_read l y2.request.held = ap (λ q. read_locks after l + locks_read l (held_in q)) (sym mid-taker) ∙ locks-moved mid to (Some y2) l in
      let c : read_locks after l + locks_read l y.request.held ≡ read_locks mid l + locks_read l (cond y.request.uses.lock (Some (Write p)) y.request.held) = b ∙ ap (λ o. read_locks mid l + locks_read l o) held-after in
      let d = count-by y.request.uses.lock l (read_locks after l) (read_locks mid l) c in
      omega (arith, a, gave, d)

  first : Follows (Handed p.number to ∷ ds) n t t
  first = table.hands ds n t k.table p.number to

  second : Follows (Deeds from p.number to (permit_of g) ds) (read_locks after) t t'
  second = go from (Handed p.number to ∷ ds) n (read_locks after) t g first.table (λ z e. taker-held y.request.uses.lock z e) count

  -- ---- what requests hold

  gone-other : (b : Bool) (r z : ℕ) → r ≢ from → r ≢ to → who_holds z ds ≡ Some r → (w : ℕ) → permit_of (cond b y.request.held (Some (Write p))) ≡ Some w → (w == z) ≡ false
  gone-other true r z not-from not-to is w e = ne_eqb w z (λ same. not-to (some-same r to (sym is ∙ ap (λ l. who_holds l ds) (sym same) ∙ (taker-permit w e).1)))
  gone-other false r z not-from not-to is w e = ap (λ l. l == z) (sym (some-same p.number w e)) ∙ not-this r z not-from is

  gone-not-this : (w : ℕ) → permit_of y.request.held ≡ Some w → (w == p.number) ≡ false
  gone-not-this w e =
      let was = taker-permit w e in
      ne_eqb w p.number (λ same. was.0 (some-same to from (sym was.1 ∙ ap (λ l. who_holds l ds) same ∙ held-by-giver)))

  hold-others : (r : ℕ) (z : Ongoing) → r ≢ from → r ≢ to → get all r ≡ Some z → Holds r (Deeds from p.number to (permit_of g) ds) t' z.request.held
  hold-others r z not-from not-to is =
      let old = k.holds r z is in
      holds-on r ds (Deeds from p.number to (permit_of g) ds) n (read_locks after) t t' z.request.held k.table second
      (λ l e. let was = old.permit l e in who-still from ds p.number to l (permit_of g) (not-this r l not-from was) (λ w at. gone-other y.request.uses.lock r l not-from not-to was w at) ∙ was)
      (λ q. shown-still from ds p.number to r q (permit_of g)) (λ rd e. lock-counted all r z rd is e) old

  -- the taker holds the permit, if it uses a lock; else what it held
  taker-by : (b : Bool) → (from == to) ≡ b → Follows (Deeds from p.number to (Some p.number) ds) (read_locks after) t t' → Holds to (Deeds from p.number to (Some p.number) ds) t' y.request.held
  taker-by true same a = subst (Holds to (Deeds from p.number to (Some p.number) ds) t') (sym (taker-self same)) (holds-none to _ _)
  taker-by false other a =
      let is = taker-other other in
      let old = k.holds to y is in
      let apart : to ≢ from = λ same. both_ways (from == to) other (eq-eqb from to (sym same)) in
      holds-on to ds (Deeds from p.number to (Some p.number) ds) n (read_locks after) t t' y.request.held k.table a
      (λ l e. let was = old.permit l e in who-still from ds p.number to l (Some p.number) (not-this to l apart was) (λ w at. ap (λ z. z == l) (sym (some-same p.number w at)) ∙ not-this to l apart was) ∙ was)
      (λ q. shown-still from ds p.number to to q (Some p.number)) (λ rd e. lock-counted all to y rd is e) old

  taker-holds : (b : Bool) → Follows (Deeds from p.number to (permit_of (cond b y.request.held (Some (Write p)))) ds) (read_locks after) t t' → Holds to (Deeds from p.number to (permit_of (cond b y.request.held (Some (Write p)))) ds) t' (cond b (Some (Write p)) y.request.held)
  taker-holds true a = record {
    permit = λ l e. subst (λ z. who_holds z (Deeds from p.number to (permit_of y.request.held) ds) ≡ Some to) (some-same p.number l e) (who-takes from ds p.number from to (permit_of y.request.held) held-by-giver gone-not-this);
    watch = λ rd e. absurd (cc);
  }
  taker-holds false a = taker-by (from == to) refl a

  all-after : AllHold (Deeds from p.number to (permit_of g) ds) t' after
  all-after r z is =
      elim (to == r) as (λ b. (to == r) ≡ b → cond b (Some y2) (get mid r) ≡ Some z → Holds r (Deeds from p.number to (permit_of g) ds) t' z.request.held) [
        | true ↦ λ same e.
            subst (λ q. Holds q (Deeds from p.number to (permit_of g) ds) t' z.request.held) (eqb-true to r same)
            (subst (λ o. Holds to (Deeds from p.number to (permit_of g) ds) t' o) (sym held-after ∙ ap (λ (w : Ongoing). w.request.held) (some-same y2 z e)) (taker-holds y.request.uses.lock second))
        | false ↦ λ not-to e.
            elim (from == r) as (λ b. (from == r) ≡ b → cond b (Some x1) (get all r) ≡ Some z → Holds r (Deeds from p.number to (permit_of g) ds) t' z.request.held) [
              | true ↦ λ _ a. subst (λ o. Holds r (Deeds from p.number to (permit_of g) ds) t' o) (ap (λ (w : Ongoing). w.request.held) (some-same x1 z a)) (holds-none r _ _)
              | false ↦ λ not-from a. hold-others r z (λ same. both_ways (from == r) not-from (eq-eqb from r (sym same))) (λ same. both_ways (to == r) not-to (eq-eqb to r (sym same))) a
            ] refl (sym (get-set_to all from (Some x1) r) ∙ e)
      ] refl (sym (get-set_to mid to (Some y2) r) ∙ is)

  -- ---- the history

  named : request_of from h ≡ Some (untold x)
  named = sym (k.requests from) ∙ ap (option_map untold) giver

  permit-named : permit_in (untold x).request.held ≡ Some p
  permit-named = permit-untold x.request.held ∙ ap permit_in holds

  taker-named : taker_in from (C.Give to) h ≡ Some (untold y)
  taker-named = taker-is all h from to k.requests ∙ ap (option_map untold) taker

  deeds-after : deeds_of (entry ∷ h) ≡ Deeds from p.number to (permit_of g) ds
  deeds-after =
      ap (λ q. reverse (handed_on to (held_in q) ++ deeds_by from 0 status.Done events) ++ ds) named
      ∙ ap (λ o. reverse (handed_on to o ++ deeds_by from 0 status.Done events) ++ ds) (ap (option_map untold_lock) holds)
      ∙ ap (λ xs. reverse (Handed p.number to ∷ xs) ++ ds) (let-go-deeds from 0 status.Done (permit_of g))
      ∙ reversed-two (Handed p.number to) (λ x. Did from (LetGo x)) (permit_of g) ds

  row-after : (q : ℕ) → option_map untold (get mid q) ≡ (if from == q then row (C.Give to) R.Done events (request_of q h) else request_of q h)
  row-after q =
      ap (option_map untold) (get-set_to all from (Some x1) q)
      ∙ elim (from == q) as (λ b. (from == q) ≡ b → option_map untold (cond b (Some x1) (get all q)) ≡ (if b then row (C.Give to) R.Done events (request_of q h) else request_of q h)) [
        | true ↦ λ same. ap (option_map (turned_by unheld false)) (sym named) ∙ ap (λ r. row (C.Give to) R.Done events (request_of r h)) (eqb-true from q same)
        | false ↦ λ _. k.requests q
      ] refl

  open-after : AreOpen (entry ∷ h) after
  open-after q =
      ap (option_map untold) (get-set_to mid to (Some y2) q)
      ∙ elim (to == q) as (λ b. (to == q) ≡ b → option_map untold (cond b (Some y2) (get mid q)) ≡ cond b (option_map (handed_by (permit_held (request_of from h))) (if from == q then row (C.Give to) R.Done events (request_of q h) else request_of q h)) (if from == q then row (C.Give to) R.Done events (request_of q h) else request_of q h)) [
        | true ↦ λ same.
            ap Some (handed-untold p y)
            ∙ ap (λ o. option_map (handed_by o) (Some (untold y))) (sym (ap permit_held named ∙ permit-named))
            ∙ ap (λ o. option_map (handed_by (permit_held (request_of from h))) (option_map untold o)) (sym (ap (get mid) (sym (eqb-true to q same)) ∙ mid-taker))
            ∙ ap (option_map (handed_by (permit_held (request_of from h)))) (row-after q)
        | false ↦ λ _. row-after q
      ] refl

  may-give : MayBe (facts_for s t x.request (taker_in from (C.Give to) h)) (C.Give to) (Some (untold x))
  may-give = (subst IsSome (sym permit-named) refl, subst MayTake (sym taker-named) (may.0, ap (option_map untold_put) may.1))

  abbrev gives : Gives t.age_timeout limits start es ds from (Some (untold x)) (C.Give to) R.Done events
  gives = record {
    facts = facts_for s t x.request (taker_in from (C.Give to) h);
    says = facts-agree limits start m s t all h k from (taker_in from (C.Give to) h) (Some x) giver;
    reply_made = R.Done;
    answers = inl (ap (option_map untold_put) plain, inl (may-give, tt, (refl, sym (given-untold p y) ∙ sym ((λ i. given_up (permit-named i) (taker-named i))))));
    copy = inl refl;
    due = gone-due limits start es (Some (untold x)) x.request.write (permit_of g);
    keeps = λ is. (record { eviction = is.eviction; fills = is.fills }, λ _. refl);
    given = gone-given (waiting_in es) (permit_of g);
  }

  reads-handed : (w : ℕ) → reads_of (Some y2) w ≡ reads_of (Some y) w
  reads-handed w = handed-keeps (λ q. reads_of q w ≡ reads_of (Some y) w) (λ z o is. is) (Some p) y refl

  same-readers : (w : ℕ) → readers (remove all from) w + reads_of (Some x1) w ≡ readers after w
  same-readers w =
      sym (readers-set all from (Some x1) w)
      ∙ readers-split mid to w
      ∙ ap (λ q. readers (remove mid to) w + reads_of q w) mid-taker
      ∙ ap (λ c. readers (remove mid to) w + c) (sym (reads-handed w))
      ∙ sym (readers-set mid to (Some y2) w)

  pub handed-sound : IsSound limits start m s t' after (entry ∷ h)
  handed-sound =
      let done = parts-move limits start m s t all h k from (Some x) (Some x1) s m events giver (gone-moves limits x x1 s m (permit_of g) refl refl refl) in
      sound-of limits start m s t' after (entry ∷ h)
      (subst (λ a. IsLegal a limits start (entry ∷ h)) (sym second.age) (legal-with t.age_timeout limits start h (record { request = from; act = C.Give to }) R.Done events (Some (untold x)) gives k.legal refl tt (sym named)))
      done.kept.tracks
      (state-same (reverse events ++ es) (λ w. readers (remove all from) w + reads_of (Some x1) w) (readers after) s same-readers done.kept.state)
      open-after
      (locked-after es events t t' k.locks (let-go-by t g))
      (subst (λ xs. IsTable xs (read_locks after) t') (sym deeds-after) second.table)
      (subst (λ xs. AllHold xs t' after) (sym deeds-after) all-after)

  pub handed-age : t'.age_timeout ≡ t.age_timeout
  handed-age = second.age

-- ---- a call that hands a permit over, or whose reply is WrongCall

wrong-may : (f : Facts) (to : ℕ) (q : Option Ongoing) → f.taker ≡ None → MayBe f (C.Give to) q → ⊥
wrong-may f to None none may = absurd may
wrong-may f to (Some x) none may = absurd (subst MayTake none may.1)

told-done : (told : Reply) → IsCopy R.Done told → told ≡ R.Done
told-done told (inl same) = same
told-done told (inr other) = let no : R.Done ≡ R.Data other.1.0 = other.1.1 in absurd (cc)

plain-told : (p : Option Taking) → option_map untold_put p ≡ None → p ≡ None
plain-told None is = refl
plain-told (Some p) is = absurd (cc)

may-told : (q : Option Ongoing) → MayTake (option_map untold q) → MayTake q
may-told None may = absurd may
may-told (Some y) may = (may.0, plain-told y.put may.1)

module _ (limits : Limits) (start m : Tracked) (s : Store) (t t' : Locks) (before after : List (ℕ × Ongoing)) (h : List Entry) (from to : ℕ) (reply : Reply) (events : List Event) (k : IsSound limits start m s t (from_entries {R = nat_cmp} before) h) (small : length before < 2 ^ 64)
    (hands : HandsOver from to (λ q. open_at q before) t reply events (λ q. open_at q after) t') where
  abbrev all : FinMap nat_cmp Ongoing
  all = from_entries before

  abbrev new : FinMap nat_cmp Ongoing
  new = from_entries after

  pub hands-by-map : HandsOver from to (get all) t reply events (get new) t'
  hands-by-map =
      subst (λ (f : ℕ → Option Ongoing). HandsOver from to (get all) t reply events f t') (λ i q. lookup-get after q i)
      (subst (λ (f : ℕ → Option Ongoing). HandsOver from to f t reply events (λ q. open_at q after) t') (λ i q. lookup-get before q i) hands)

  as-told : (r : Reply) (noted : List Event) → reply ≡ r → events ≡ noted → HandsOver from to (get all) t r noted (get new) t'
  as-told r noted is are = subst (λ z. HandsOver from to (get all) t z noted (get new) t') is (subst (λ z. HandsOver from to (get all) t reply z (get new) t') are hands-by-map)

  few : (l : ℕ) → read_locks all l + 1 < 2 ^ 128
  few l = let most = locks-few before l in omega arith

  abbrev F : Facts
  F = facts_for s t (request_in (get all from)) (taker_at from to (get all))

  -- what comes of it
  abbrev Ends : Reply → List Event → Type 0
  Ends told noted = IsSound limits start m s t' new (record { call = record { request = from; act = C.Give to }; reply = told; events = noted } ∷ h) × (t'.age_timeout ≡ t.age_timeout)

  -- a wrong call
  as-wrong : Turn limits from (C.Give to) (get all from) s m t R.WrongCall [] (get all from) s m t
  as-wrong = wrong-turn limits from (C.Give to) (get all from) (get all from) s m t R.WrongCall []
      (wrong-given (facts_in s t (request_in (get all from))) to (get all from) R.WrongCall [] (λ _. wrong-may (facts_in s t (request_in (get all from))) to (get all from) refl) (refl, refl)) refl refl refl

  wrong-ends : (told : Reply) → IsCopy R.WrongCall told → (FindsKind (C.Give to) (get all from) → MayBe F (C.Give to) (get all from) → ⊥) → HandsOver from to (get all) t R.WrongCall [] (get new) t' → Ends told []
  wrong-ends told copy fails w =
      let same : new ≡ set_to all from (get all from) = same_map nat_cmp_total nat_cmp-IsAntisymmetric _ _ (λ q. w.requests q ∙ sym (set-at all from (get all from) q)) in
      let kept = each-turn-keeps limits start m m s s t t all h (record { request = from; act = C.Give to }) R.WrongCall told [] (get all from) k few as-wrong copy
      (wrong-given (facts_for s t (request_in (get all from)) (taker_in from (C.Give to) h)) to (get all from) R.WrongCall [] (λ kind may. fails kind (still (get all from) may)) (refl, refl)) tt (λ r giver q. refl) in (
        subst (λ (u : Locks). IsSound limits start m s u new (record { call = record { request = from; act = C.Give to }; reply = told; events = [] } ∷ h)) (sym w.table)
            (subst (λ (x : FinMap nat_cmp Ongoing). IsSound limits start m s t x (record { call = record { request = from; act = C.Give to }; reply = told; events = [] } ∷ h)) (sym same) kept),
        ap (λ (u : Locks). u.age_timeout) w.table,
      )
    where
      still : (q : Option Ongoing) → MayBe (facts_for s t (request_in (get all from)) (taker_in from (C.Give to) h)) (C.Give to) q → MayBe F (C.Give to) q
      still None may = absurd may
      still (Some x) may = (may.0, may-told (taker_at from to (get all)) (subst MayTake (taker-is all h from to k.requests) may.1))

  -- the permit is handed over
  done-ends : (told : Reply) → IsCopy R.Done told → (x y : Ongoing) (p : Permit) → get all from ≡ Some x → x.put ≡ None → permit_in x.request.held ≡ Some p → taker_at from to (get all) ≡ Some y → MayTake (Some y)
      → HandsOver from to (get all) t R.Done (let_go_of (gone p y)) (get new) t' → Ends told (let_go_of (gone p y))
  done-ends told copy x y p giver plain permit taker may w =
      let holds = held-write x.request.held p permit in
      let x1 : Ongoing = on_request unheld x in
      let mid : FinMap nat_cmp Ongoing = set_to all from (Some x1) in
      let at-mid : (q : ℕ) → cond (is_at (nat_cmp from) q) (option_map (turned_by unheld false) (get all from)) (get all q) ≡ get mid q =
      λ q. ap (λ o. cond (is_at (nat_cmp from) q) (option_map (turned_by unheld false) o) (get all q)) giver ∙ sym (set-at all from (Some x1) q) in
      let given : permit_held (get all from) ≡ Some p = ap permit_held giver ∙ permit in
      let same : new ≡ set_to mid to (Some (handed_by (Some p) y)) = same_map nat_cmp_total nat_cmp-IsAntisymmetric _ _ (λ q.
      w.requests q ∙ (λ i. cond (to == q) (option_map (handed_by (given i)) (at-mid q i)) (at-mid q i))
      ∙ elim (to == q) as (λ b. (to == q) ≡ b → cond b (option_map (handed_by (Some p)) (get mid q)) (get mid q) ≡ cond b (Some (handed_by (Some p) y)) (get mid q)) [
        | true ↦ λ is. ap (option_map (handed_by (Some p))) (ap (get mid) (sym (eqb-true to q is)) ∙ mid-taker limits start m s t all h from to k x y p giver plain holds taker may)
        | false ↦ λ _. refl
      ] refl
      ∙ sym (get-set_to mid to (Some (handed_by (Some p) y)) q)) in
      let table : t' ≡ let_go_by (gone p y) t = w.table ∙ (λ i. table_given (given i) (taker i) t) ∙ table-gone p y.request t in (
        subst (λ (r : Reply). IsSound limits start m s t' new (record { call = record { request = from; act = C.Give to }; reply = r; events = let_go_of (gone p y) } ∷ h)) (sym (told-done told copy))
            (subst (λ (u : Locks). IsSound limits start m s u new (record { call = record { request = from; act = C.Give to }; reply = R.Done; events = let_go_of (gone p y) } ∷ h)) (sym table)
            (subst (λ (z : FinMap nat_cmp Ongoing). IsSound limits start m s (let_go_by (gone p y) t) z (record { call = record { request = from; act = C.Give to }; reply = R.Done; events = let_go_of (gone p y) } ∷ h)) (sym same)
            (handed-sound limits start m s t all h from to k x y p giver plain holds taker may))),
        ap (λ (u : Locks). u.age_timeout) table ∙ handed-age limits start m s t all h from to k x y p giver plain holds taker may,
      )

  -- by its reply
  by-taker : (told : Reply) → IsCopy R.Done told → reply ≡ R.Done → (x : Ongoing) (p : Permit) (o : Option Ongoing) → get all from ≡ Some x → x.put ≡ None → permit_in x.request.held ≡ Some p → taker_at from to (get all) ≡ o → MayTake o → events ≡ given_up (Some p) o → Ends told events
  by-taker told copy is x p None giver plain permit taker may noted = absurd may
  by-taker told copy is x p (Some y) giver plain permit taker may noted = subst (Ends told) (sym noted) (done-ends told copy x y p giver plain permit taker may (as-told R.Done (let_go_of (gone p y)) is noted))

  by-permit : (told : Reply) → IsCopy R.Done told → reply ≡ R.Done → (x : Ongoing) (o : Option Permit) → get all from ≡ Some x → x.put ≡ None → permit_in x.request.held ≡ o → IsSome o → MayTake (taker_at from to (get all)) → events ≡ given_up o (taker_at from to (get all)) → Ends told events
  by-permit told copy is x None giver plain permit some may noted = absurd (both_ways false refl some)
  by-permit told copy is x (Some p) giver plain permit some may noted = by-taker told copy is x p (taker_at from to (get all)) giver plain permit refl may noted

  by-wrong : (told : Reply) → IsCopy reply told → (q : Option Ongoing) → get all from ≡ q → (FindsKind (C.Give to) q → MayBe F (C.Give to) q → ⊥) → IsIdle R.WrongCall reply events → Ends told events
  by-wrong told copy q giver fails idle =
      subst (Ends told) (sym idle.1) (wrong-ends told (subst (λ r. IsCopy r told) idle.0 copy) (subst (λ o. FindsKind (C.Give to) o → MayBe F (C.Give to) o → ⊥) (sym giver) fails) (as-told R.WrongCall [] idle.0 idle.1))

  by-giver : (told : Reply) → IsCopy reply told → (q : Option Ongoing) → get all from ≡ q → Replies F (C.Give to) q reply events → Ends told events
  by-giver told copy None giver (inl (kind, inl (may, other, does))) = absurd may
  by-giver told copy (Some x) giver (inl (kind, inl (may, other, does))) = by-permit told (subst (λ r. IsCopy r told) does.0 copy) does.0 x (permit_in x.request.held) giver kind refl may.0 may.1 does.1
  by-giver told copy q giver (inl (kind, inr (fails, idle))) = by-wrong told copy q giver (λ _ may. fails may) idle
  by-giver told copy q giver (inr (other, idle)) = by-wrong told copy q giver (λ kind _. other kind) idle

  pub give_sound : (told : Reply) → IsCopy reply told → IsSound limits start m s t' new (record { call = record { request = from; act = C.Give to }; reply = told; events = events } ∷ h)
  give_sound told copy = (by-giver told copy (get all from) refl (hands-by-map.answers s)).0

  pub give_age : t'.age_timeout ≡ t.age_timeout
  give_age = (by-giver reply (inl refl) (get all from) refl (hands-by-map.answers s)).1
