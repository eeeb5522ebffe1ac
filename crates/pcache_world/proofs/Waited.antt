-- What a wait does to its request and to the lock table, as one move.
use Rattle.std.proofs.Common.{IsOk, option_map}
use Rattle.pcache_base.specs.declared.poll.Poll.TheVariants.{Ready}
use Rattle.pcache_lock.specs.Locks.{reader_dropped}
use Rattle.pcache_lock.specs.Permits.{Reader}
use Rattle.pcache_lock.specs.Waiting.{table_at}
use Rattle.pcache_lock.specs.declared.lock.outcome.WaitOutcome.{WaitOutcome}
use Rattle.pcache_lock.specs.declared.lock.permit.Locked.TheVariants.{Read}
use Rattle.pcache_request.specs.LockWaits.{held_after, let_go_after, table_waited}
use Rattle.pcache_request.specs.Requests.{Request}
use Rattle.pcache_history.specs.Rules.{was_polled}
use Rattle.pcache_world.proofs.Words.{◌≡◌, ℕ, Bool, true, false, if◌then◌else◌, Option, None, Some, is_some, IsSome, IfSome, List, [], ◌∷◌, ◌++◌, refl, ap, sym, subst, ◌∙◌, Result, Err, get, UnusableFill, Poll, Pending, Locks, Core, Watch, after_poll, answer_at, watched, polled, reader_polled, permit_state, watch_at, LockWaitOutcome, PermitState, Locked, Write, LockStatus, read_in, result_by, is_old_result, too_old_for, unusable_in, wait_result, waited, name_of, LockName, Reply, Event, deeds_in, KeepsIn, kind_of_reply, waited_by, was_waited, MovesLocks, ages, lets_go, polls, each, number_read, wait_reply, untold_request}
use Rattle.pcache_lock.specs.declared.lock.outcome.PermitState.TheVariants as stage
use Rattle.pcache_lock.specs.declared.lock.outcome.WaitOutcome.TheVariants as poll
use Rattle.pcache_history.specs.declared.call.Act.TheVariants as C
use Rattle.pcache_history.specs.declared.entry.Event.TheVariants as E
use Rattle.pcache_world.proofs.MovesOf.{AreQuiet}
use Rattle.pcache_world.proofs.Untold.{waited-untold}

-- if a wait fails

refused-first : (A X : Type 0) (w : Option Watch) (e : X) → (IsSome w → IsOk {T = A} {E = X} (Err e)) → is_some w ≡ false
refused-first A X None e f = refl
refused-first A X (Some w) e f = let no : false ≡ true = f refl in absurd (cc)

pub not-polled : {A X : Type 0} (held : Option Locked) (o : Result A X) (e : X) → o ≡ Err e → IfSome (read_in held) (λ rd. IsSome rd.watch → IsOk o) → was_polled held ≡ false
not-polled None o e is later = refl
not-polled (Some (Write p)) o e is later = refl
not-polled {A = A} {X = X} (Some (Read rd)) o e is later = refused-first A X rd.watch e (subst (λ (r : Result A X). IsSome rd.watch → IsOk r) is later)

pub names-fills : {A X : Type 0} (fills : Option (List UnusableFill)) (o : Result A X) (e : X) → o ≡ Err e → (fills ≡ None → IsOk o) → IsSome fills
names-fills {A = A} {X = X} None o e is unnamed = let no : false ≡ true = subst (λ (r : Result A X). IsOk r) is (unnamed refl) in absurd (cc)
names-fills (Some fs) o e is unnamed = refl

-- what is noted

pub aged-noted : (b : Bool) (held : Option Locked) (l : LockName) (old events : List Event) → Some l ≡ option_map name_of held → IsSome (read_in held) → old ≡ [] → events ≡ old ++ (if b then E.Aged l.number ∷ [] else []) → events ≡ (if b then each E.Aged (number_read held) else [])
aged-noted b None l old events same some none is = absurd (cc)
aged-noted b (Some (Write p)) l old events same some none is = absurd (cc)
aged-noted b (Some (Read rd)) l old events same some none is =
    let names : ◌≡◌ {A = Option LockName} (Some l) (Some (name_of (Read rd))) = same in
    let name : l ≡ name_of (Read rd) = cc in
    is ∙ (λ i. none i ++ (if b then E.Aged (name i).number ∷ [] else []))

-- by what the wait reports
pub aged-by : (old-by : Bool) (held : Option Locked) (b : Bool) (l : LockName) (old events : List Event) → b ≡ old-by → Some l ≡ option_map name_of held → IsSome (read_in held) → old ≡ [] → events ≡ old ++ (if b then E.Aged l.number ∷ [] else []) → events ≡ (if old-by then each E.Aged (number_read held) else [])
aged-by old-by held b l old events so same some none is = aged-noted b held l old events same some none is ∙ ap (λ c. if c then each E.Aged (number_read held) else []) so

pub aged-quiet : (b : Bool) (n : ℕ) (old events : List Event) → old ≡ [] → events ≡ old ++ (if b then E.Aged n ∷ [] else []) → AreQuiet events
aged-quiet b n old events none is = subst AreQuiet (sym (is ∙ ap (λ es. es ++ (if b then E.Aged n ∷ [] else [])) none)) (elim b as (λ b. AreQuiet (if b then E.Aged n ∷ [] else [])) [ true ↦ (tt, tt) | false ↦ tt ])

-- the request after it

pub wait-keeps : (t : Locks) (now : ℕ) (held : Option Locked) (x : Request) → KeepsIn x (waited t now held x)
wait-keeps t now None x world = (world, λ some. refl)
wait-keeps t now (Some (Write p)) x world = (world, λ some. refl)
wait-keeps t now (Some (Read rd)) x world = (record { eviction = world.eviction; fills = world.fills }, λ some. refl)

pub wait-reader : (t : Locks) (now : ℕ) (held : Option Locked) (x : Request) → (waited t now held x).reader ≡ x.reader
wait-reader t now None x = refl
wait-reader t now (Some (Write p)) x = refl
wait-reader t now (Some (Read rd)) x = refl

pub wait-write : (t : Locks) (now : ℕ) (held : Option Locked) (x : Request) → (waited t now held x).write ≡ x.write
wait-write t now None x = refl
wait-write t now (Some (Write p)) x = refl
wait-write t now (Some (Read rd)) x = refl

pub wait-kept : (t : Locks) (now : ℕ) (held : Option Locked) (x y : Request) → y ≡ waited t now held x → KeepsIn x y
wait-kept t now held x y is = subst (KeepsIn x) (sym is) (wait-keeps t now held x)

-- the kind of its reply
pub wait-kind : (a : Poll LockWaitOutcome) → kind_of_reply (wait_reply a) ≡ was_waited a
wait-kind Pending = refl
wait-kind (Ready o) = refl

-- ---- as one move

-- a poll that finds nothing too old leaves the table
same-table : (t : Locks) (now n : ℕ) (w : Option Watch) (fills : Option (List UnusableFill)) (o : Option Core) → is_old_result (polled now fills w o) ≡ false → after_poll t now n o ≡ t
same-table t now n w fills None e = refl
same-table t now n w fills (Some c) e = by (permit_state now c) e
  where
    by : (s : PermitState) → is_old_result (answer_at s (watched c (watch_at c fills w))) ≡ false → table_at s t n c ≡ t
    by stage.Over e = refl
    by stage.Old e = absurd (cc)
    by stage.Held e = refl

-- a wait that goes on was told nothing by its poll
goes-on : (s : LockStatus) (late : Bool) (p : Poll WaitOutcome) → result_by s late p ≡ Pending → p ≡ Pending
goes-on s late (Ready poll.Released) e = absurd (cc)
goes-on s late (Ready poll.AgeTimeout) e = absurd (cc)
goes-on s late (Ready (poll.Abandoned f)) e = absurd (cc)
goes-on s late Pending e = refl

-- of a request x that holds this read lock
module _ (r now : ℕ) (t u : Locks) (rd : Reader) (x y : Request) (events : List Event) (held : x.held ≡ Some (Read rd)) (request : y ≡ waited t now (Some (Read rd)) x) (table : u ≡ table_waited t now (Some (Read rd)) x)
    (noted : events ≡ (if too_old_for t now (Some (Read rd)) (unusable_in x.key) then E.Aged rd.number ∷ [] else [])) where
  abbrev answer : Poll LockWaitOutcome
  answer = wait_result t now (Some (Read rd)) x

  abbrev told : Poll WaitOutcome
  told = polled now (unusable_in x.key) rd.watch (get t.cores rd.number)

  abbrev old : Bool
  old = too_old_for t now (Some (Read rd)) (unusable_in x.key)

  abbrev Moved : Poll LockWaitOutcome → Type 0
  Moved a = MovesLocks r (deeds_in r (C.Wait now) (was_waited a) events None) (Some (Read rd)) t y.held u

  still : answer ≡ Pending → Moved Pending
  still is =
      let pending : told ≡ Pending = goes-on _ _ told is in
      let young : old ≡ false = ap is_old_result pending in
      record {
        move = polls (unusable_in x.key) now;
        may = pending;
        done = ap (λ es. deeds_in r (C.Wait now) (was_waited Pending) es None) (noted ∙ ap (λ b. if b then E.Aged rd.number ∷ [] else []) young);
        held = ap (λ (z : Request). z.held) request ∙ ap (λ a. held_after a (reader_polled now (unusable_in x.key) rd (get t.cores rd.number))) is;
        table = table ∙ ap (λ a. let_go_after a rd.number (after_poll t now rd.number (get t.cores rd.number))) is ∙ same-table t now rd.number rd.watch (unusable_in x.key) (get t.cores rd.number) young;
      }

  over : (o : LockWaitOutcome) → answer ≡ Ready o → (b : Bool) → old ≡ b → Moved (Ready o)
  over o is true aged = record {
    move = ages (unusable_in x.key) now;
    may = aged;
    done = ap (λ es. deeds_in r (C.Wait now) (was_waited (Ready o)) es None) (noted ∙ ap (λ b. if b then E.Aged rd.number ∷ [] else []) aged);
    held = ap (λ (z : Request). z.held) request ∙ ap (λ a. held_after a (reader_polled now (unusable_in x.key) rd (get t.cores rd.number))) is;
    table = table ∙ ap (λ a. let_go_after a rd.number (after_poll t now rd.number (get t.cores rd.number))) is;
  }
  over o is false young = record {
    move = lets_go;
    may = tt;
    done = ap (λ es. deeds_in r (C.Wait now) (was_waited (Ready o)) es None) (noted ∙ ap (λ b. if b then E.Aged rd.number ∷ [] else []) young);
    held = ap (λ (z : Request). z.held) request ∙ ap (λ a. held_after a (reader_polled now (unusable_in x.key) rd (get t.cores rd.number))) is;
    table = table ∙ ap (λ a. let_go_after a rd.number (after_poll t now rd.number (get t.cores rd.number))) is ∙ ap (λ v. reader_dropped v rd.number (get v.cores rd.number)) (same-table t now rd.number rd.watch (unusable_in x.key) (get t.cores rd.number) young);
  }

  waits : (a : Poll LockWaitOutcome) → answer ≡ a → Moved a
  waits Pending is = still is
  waits (Ready o) is = over o is old refl

  wait-read : (reply : Reply) → reply ≡ wait_reply answer → MovesLocks r (deeds_in r (C.Wait now) (kind_of_reply reply) events None) x.held t y.held u
  wait-read reply is =
      subst (λ h. MovesLocks r (deeds_in r (C.Wait now) (kind_of_reply reply) events None) h t y.held u) (sym held)
      (subst (λ o. MovesLocks r (deeds_in r (C.Wait now) o events None) (Some (Read rd)) t y.held u) (sym (ap kind_of_reply is ∙ wait-kind answer)) (waits answer refl))

-- of a request that holds any
pub wait-locks : (r now : ℕ) (t u : Locks) (h : Option Locked) (x y : Request) (reply : Reply) (events : List Event) → x.held ≡ h → IsSome (read_in h) → y ≡ waited t now h x → u ≡ table_waited t now h x → events ≡ (if too_old_for t now h (unusable_in x.key) then each E.Aged (number_read h) else []) → reply ≡ wait_reply (wait_result t now h x)
    → MovesLocks r (deeds_in r (C.Wait now) (kind_of_reply reply) events None) x.held t y.held u
wait-locks r now t u None x y reply events held some request table noted is = absurd (cc)
wait-locks r now t u (Some (Write p)) x y reply events held some request table noted is = absurd (cc)
wait-locks r now t u (Some (Read rd)) x y reply events held some request table noted is = wait-read r now t u rd x y events held request table noted reply is

-- but for what its read lock was told, the request is as its row has it
pub untold-after : (t : Locks) (now : ℕ) (h : Option Locked) (x y : Request) (reply : Reply) → x.held ≡ h → IsSome (read_in h) → y ≡ waited t now h x → reply ≡ wait_reply (wait_result t now h x) → untold_request y ≡ untold_request (waited_by (kind_of_reply reply) now x)
untold-after t now None x y reply held some request is = absurd (cc)
untold-after t now (Some (Write p)) x y reply held some request is = absurd (cc)
untold-after t now (Some (Read rd)) x y reply held some request is =
    let a = wait_result t now (Some (Read rd)) x in
    ap untold_request request ∙ waited-untold t now rd x held ∙ ap (λ o. untold_request (waited_by o now x)) (sym (ap kind_of_reply is ∙ wait-kind a))
