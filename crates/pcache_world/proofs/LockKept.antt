-- What a request's move makes of the lock table, and of the locks that requests hold, is what the deeds say.
use Rattle.std.proofs.lemmas.Bool.{ne_eqb}
use Rattle.pcache_lock.specs.declared.lock.permit.Locked.TheVariants.{Read}
use Rattle.pcache_lock.specs.Statuses.{is_free}
use Rattle.pcache_lock.specs.Deeds.{LetGo, Aged, asked}
use Rattle.pcache_lock.specs.Permits.{Reader}
use Rattle.pcache_lock.specs.Locks.{held_by, unless_free, changed}
use Rattle.pcache_lock.specs.Waiting.{with_publication}
use Rattle.pcache_history.specs.Deeds.{Did}
use Rattle.pcache_world.specs.LockMoves.{held_moved}
use Rattle.pcache_world.proofs.Words.{◌≡◌, ◌≢◌, ℕ, ◌+◌, ◌^◌, ◌<◌, ◌==◌, Bool, true, false, cond, if◌then◌else◌, Option, None, Some, is_some, List, [], ◌∷◌, ◌++◌, reverse, refl, ap, sym, subst, ◌∙◌, arith, get, eqb-true, UnusableFill, Pending, PermitState, Locked, Write, LockStatus, IsReason, Granted, Joined, Released, Published, is_held, Core, Permit, Watch, publications_at, readers_at, Locks, holder, lock_given, after_request, is_permit, number_of_lock, answer_at, is_old, watched, polled, published, reader_at, reader_polled, permit_state, told_or_pending, watch_at, publications_with, is_old_at, is_old_result, too_old_for, let_go_by, settled, Deed, Polled, done, who_holds, shown, shown_first, shown_more, publication, LockMove, rests, asks, settles, lets_go, publishes, polls, ages, each_deed, deeds_moved, table_moved, table_polled, MayMoveLock, MovesLocks, IsTable, Holds, IsWatch, last_of, locks_read, permit_of, kept-if, same-number}
use Rattle.pcache_lock.specs.declared.lock.outcome.PermitState.TheVariants as stage
use Rattle.pcache_world.proofs.LockTable as table
use Rattle.pcache_world.proofs.LockTable.{Follows, some-same, given-there, held-given, read-there, who-held}
use Rattle.pcache_world.proofs.LockWatch.{watch-polled, watch-published, watch-same}
use Rattle.pcache_world.proofs.StateWrites.{get-set}

-- ---- two steps, and other counts

both : (es fs : List Deed) (m p : ℕ → ℕ) (t u v : Locks) → Follows es m t u → Follows fs p u v → Follows fs p t v
both es fs m p t u v a b = record {
  table = b.table;
  age = b.age ∙ a.age;
  next = omega (arith, a.next, b.next);
  kept = λ l lt there. let w = b.kept l (omega (arith, lt, a.next)) there in let x = a.kept l lt w.0 in (x.0, w.1 ∙ x.1);
}

-- as many read locks, counted another way
same-count : (es : List Deed) (m p : ℕ → ℕ) (t u : Locks) → ((q : ℕ) → m q ≡ p q) → Follows es m t u → Follows es p t u
same-count es m p t u same k = subst (λ f. Follows es f t u) (λ i q. same q i) k

-- ---- the locks that requests hold

abbrev Reads : (ℕ → ℕ) → Option Locked → Type 0
Reads n held = (rd : Reader) → held ≡ Some (Read rd) → 0 < n rd.number

-- what other requests hold than r is what the deeds say
abbrev OthersHold : ℕ → List Deed → List Deed → (ℕ → ℕ) → Locks → Locks → Type 0
OthersHold r ds es n t u = (q : ℕ) (other : Option Locked) → q ≢ r → Holds q ds t other → Reads n other → Holds q es u other

pub record Kept (r : ℕ) (ds es : List Deed) (n m : ℕ → ℕ) (t u : Locks) (last : Option Locked) : Type 0 where
  pub table : IsTable es m u
  pub age : u.age_timeout ≡ t.age_timeout
  pub mine : Holds r es u last
  pub others : OthersHold r ds es n t u

pub holds-none : (r : ℕ) (ds : List Deed) (t : Locks) → Holds r ds t None
holds-none r ds t = record { permit = λ p e. absurd (cc); watch = λ rd e. absurd (cc) }

-- a step by which no other request loses a permit, and that shows no other anything
others-by : (r : ℕ) (ds es : List Deed) (n m : ℕ → ℕ) (t u : Locks) → IsTable ds n t → Follows es m t u
    → ((p q : ℕ) → q ≢ r → who_holds p ds ≡ Some q → who_holds p es ≡ Some q) → ((q l : ℕ) → q ≢ r → shown q l es ≡ shown q l ds) → OthersHold r ds es n t u
others-by r ds es n m t u k a holds shows q other ne old read = record {
  permit = λ p e. holds p q ne (old.permit p e);
  watch = λ rd is there.
      let l = rd.number in
      let w = a.kept l (given-there ds n t k l (read-there ds n t k l (read rd is))) there in
      watch-same q l ds es rd.watch _ _ (shows q l ne) w.1 (old.watch rd is w.0);
}

kept-by : (r : ℕ) (ds es : List Deed) (n m : ℕ → ℕ) (t u : Locks) (last : Option Locked) → IsTable ds n t → Follows es m t u → Holds r es u last
    → ((p q : ℕ) → q ≢ r → who_holds p ds ≡ Some q → who_holds p es ≡ Some q) → ((q l : ℕ) → q ≢ r → shown q l es ≡ shown q l ds) → Kept r ds es n m t u last
kept-by r ds es n m t u last k a mine holds shows = record { table = a.table; age = a.age; mine = mine; others = others-by r ds es n m t u k a holds shows }

-- permits that two requests hold are two
differ : (ds : List Deed) (a b r q : ℕ) → q ≢ r → who_holds a ds ≡ Some r → who_holds b ds ≡ Some q → (a == b) ≡ false
differ ds a b r q ne is at = ne_eqb a b (λ same. ne (some-same q r (sym at ∙ ap (λ l. who_holds l ds) (sym same) ∙ is)))

other-number : (r q : ℕ) → q ≢ r → (r == q) ≡ false
other-number r q ne = ne_eqb r q (λ e. ne (sym e))

-- a deed that ends the permit that r holds
abbrev Ends : (ℕ → Deed) → Type 0
Ends f = (x p : ℕ) (gs : List Deed) → who_holds p (f x ∷ gs) ≡ (if x == p then None else who_holds p gs)

abbrev IsHolder : ℕ → List Deed → Option ℕ → Type 0
IsHolder r ds o = (p : ℕ) → o ≡ Some p → who_holds p ds ≡ Some r

still-others : (r : ℕ) (ds gs : List Deed) (f : ℕ → Deed) (o : Option ℕ) → Ends f → IsHolder r ds o → (p q : ℕ) → q ≢ r → who_holds p ds ≡ Some q → who_holds p gs ≡ Some q → who_holds p (each_deed f o ++ gs) ≡ Some q
still-others r ds gs f None ends holds p q ne is at = at
still-others r ds gs f (Some x) ends holds p q ne is at = ends x p gs ∙ ap (λ b. if b then None else who_holds p gs) (differ ds x p r q ne (holds x refl) is) ∙ at

still-shown : (q l : ℕ) (gs : List Deed) (f : ℕ → Deed) (o : Option ℕ) → ((x : ℕ) → shown q l (f x ∷ gs) ≡ shown q l gs) → shown q l (each_deed f o ++ gs) ≡ shown q l gs
still-shown q l gs f None same = refl
still-shown q l gs f (Some x) same = same x

-- ---- what is held is let go, or released

pub go : (r : ℕ) (ds : List Deed) (n m : ℕ → ℕ) (t : Locks) (old : Option Locked) → IsTable ds n t → ((p : ℕ) → permit_of old ≡ Some p → is_held p (done ds) ≡ true) → ((q : ℕ) → m q + locks_read q old ≡ n q) → Follows (each_deed (λ x. Did r (LetGo x)) (permit_of old) ++ ds) m t (let_go_by old t)
go r ds n m t None k held count = same-count ds n m t t (λ q. omega (arith, count q)) (table.rests ds n t k)
go r ds n m t (Some (Write p)) k held count = same-count (Did r (LetGo p.number) ∷ ds) n m t _ (λ q. omega (arith, count q)) (table.lets-go ds n t k r p (held p.number refl))
go r ds n m t (Some (Read rd)) k held count = table.leaves ds n t k m rd (λ q. sym (count q))

release : (r : ℕ) (ds : List Deed) (n m : ℕ → ℕ) (t : Locks) (s : LockStatus) (old : Option Locked) → IsTable ds n t → ((p : ℕ) → permit_of old ≡ Some p → is_held p (done ds) ≡ true) → IsReason s → ((q : ℕ) → m q + locks_read q old ≡ n q)
    → Follows (each_deed (λ x. Did r (Released x s)) (permit_of old) ++ ds) m t (settled s old t)
release r ds n m t s None k held reason count = same-count ds n m t t (λ q. omega (arith, count q)) (table.rests ds n t k)
release r ds n m t s (Some (Write p)) k held reason count = same-count (Did r (Released p.number s) ∷ ds) n m t _ (λ q. omega (arith, count q)) (table.releases ds n t k r p.number s (held p.number refl) reason)
release r ds n m t s (Some (Read rd)) k held reason count = table.leaves ds n t k m rd (λ q. sym (count q))

-- ---- one move

pub held-by : (p : ℕ) (ds : List Deed) (r : ℕ) → who_holds p ds ≡ Some r → is_held p (done ds) ≡ true
held-by p ds r e = sym (who-held p ds) ∙ ap is_some e

-- the lock on which a request would wait is known
holder-there : (t : Locks) (k l : ℕ) → holder t k ≡ Some l → (c : Core) × (get t.cores l ≡ Some c)
holder-there t k l is = by (get t.current k) is
  where
    on : (n : ℕ) (o : Option Core) → get t.cores n ≡ o → unless_free n o ≡ Some l → (c : Core) × (get t.cores l ≡ Some c)
    on n None at e = absurd (cc)
    on n (Some c) at e = elim (is_free c.status) as (λ b. cond b None (Some n) ≡ Some l → (c : Core) × (get t.cores l ≡ Some c)) [
      | true ↦ λ e. absurd (cc)
      | false ↦ λ e. (c, subst (λ x. get t.cores x ≡ Some c) (some-same n l e) at)
    ] e

    by : (o : Option ℕ) → held_by t o ≡ Some l → (c : Core) × (get t.cores l ≡ Some c)
    by None e = absurd (cc)
    by (Some n) e = on n (get t.cores n) refl e

read-same : (a b : Reader) → ◌≡◌ {A = Option Locked} (Some (Read a)) (Some (Read b)) → a ≡ b
read-same a b e = cc e

module _ (r : ℕ) (ds : List Deed) (n m : ℕ → ℕ) (t : Locks) (mine : Option Locked) (k : IsTable ds n t) (holds : Holds r ds t mine) where
  held-mine : (p : ℕ) → permit_of mine ≡ Some p → is_held p (done ds) ≡ true
  held-mine p e = held-by p ds r (holds.permit p e)

  still-held : (p l : ℕ) (h : Bool) → h ≡ true → cond (p == l) true h ≡ true
  still-held p l h e = elim (p == l) as (λ b. cond b true h ≡ true) [ true ↦ refl | false ↦ e ]

  -- the permit is given, or a read lock, and the lock that was held goes
  asked-holds : (o : Option ℕ) (slot at : ℕ) → IsHolder r ds o → who_holds t.next (each_deed (λ x. Did r (LetGo x)) o ++ Did r (Granted slot t.next false at) ∷ ds) ≡ Some r
  asked-holds None slot at old = ap (λ b. if b then Some r else who_holds t.next ds) (same-number t.next)
  asked-holds (Some x) slot at old =
      let lt = held-given ds n t k x (held-by x ds r (old x refl)) in
      ap (λ b. if b then None else (if t.next == t.next then Some r else who_holds t.next ds)) (ne_eqb x t.next (λ same. absurd (omega (arith, same, lt)))) ∙ ap (λ b. if b then Some r else who_holds t.next ds) (same-number t.next)

  asked-kept : (slot : ℕ) (stale : Bool) (at : ℕ) (o : Option ℕ) → holder t slot ≡ o → ((l : ℕ) → n l + 1 < 2 ^ 128) → ((l : ℕ) → m l + locks_read l mine ≡ n l + locks_read l (Some (lock_given t stale o)))
      → Kept r ds (each_deed (λ x. Did r (LetGo x)) (permit_of mine) ++ Did r (asked slot false at (number_of_lock (lock_given t stale o)) (is_permit (lock_given t stale o))) ∷ ds) n m t (let_go_by mine (after_request t slot stale at o)) (Some (lock_given t stale o))
  asked-kept slot stale at None is few count =
      let gs = Did r (Granted slot t.next false at) ∷ ds in
      let es = each_deed (λ x. Did r (LetGo x)) (permit_of mine) ++ gs in
      let first = table.gives-permit ds n t k r slot stale at is in
      let second = go r gs n m (after_request t slot stale at None) mine first.table (λ p e. still-held p t.next (is_held p (done ds)) (held-mine p e)) (λ q. omega (arith, count q)) in
      kept-by r ds es n m t _ _ k (both gs es n m t _ _ first second)
      (record {
        permit = λ p e. subst (λ x. who_holds x es ≡ Some r) (some-same t.next p e) (asked-holds (permit_of mine) slot at holds.permit);
        watch = λ rd e. absurd (cc);
      })
      (λ p q ne e. still-others r ds gs (λ x. Did r (LetGo x)) (permit_of mine) (λ x p gs. refl) holds.permit p q ne e
      (ap (λ b. if b then Some r else who_holds p ds) (ne_eqb t.next p (λ same. absurd (omega (arith, same, held-given ds n t k p (held-by p ds q e))))) ∙ e))
      (λ q l ne. still-shown q l gs (λ x. Did r (LetGo x)) (permit_of mine) (λ x. refl) ∙ ap (λ b. if b then [] else shown q l ds) (other-number r q ne))
  asked-kept slot stale at (Some l) is few count =
      let gs = Did r (Joined slot l at) ∷ ds in
      let es = each_deed (λ x. Did r (LetGo x)) (permit_of mine) ++ gs in
      let more : ℕ → ℕ = λ q. n q + (if l == q then 1 else 0) in
      let found = holder-there t slot l is in
      let first = table.joins ds n t k more r slot stale at l is (ap is_some found.1) (λ q. refl) few in
      let second = go r gs more m (after_request t slot stale at (Some l)) mine first.table (λ p e. kept-if (p == l) refl ∙ held-mine p e) count in
      kept-by r ds es n m t _ _ k (both gs es more m t _ _ first second)
      (record {
        permit = λ p e. absurd (cc);
        watch = λ rd e _. subst (λ x. IsWatch r x.number es x.watch (publications_at (get (let_go_by mine (after_request t slot stale at (Some l))).cores x.number))) (read-same (record { number = l; watch = None }) rd e)
            (still-shown r l gs (λ x. Did r (LetGo x)) (permit_of mine) (λ x. refl) ∙ ap (λ b. if b then [] else shown r l ds) (same-number r));
      })
      (λ p q ne e. still-others r ds gs (λ x. Did r (LetGo x)) (permit_of mine) (λ x p gs. refl) holds.permit p q ne e e)
      (λ q l ne. still-shown q l gs (λ x. Did r (LetGo x)) (permit_of mine) (λ x. refl) ∙ ap (λ b. if b then [] else shown q l ds) (other-number r q ne))

  settled-kept : (s : LockStatus) → IsReason s → ((l : ℕ) → m l + locks_read l mine ≡ n l + 0) → Kept r ds (each_deed (λ x. Did r (Released x s)) (permit_of mine) ++ ds) n m t (settled s mine t) None
  settled-kept s reason count =
      let es = each_deed (λ x. Did r (Released x s)) (permit_of mine) ++ ds in
      kept-by r ds es n m t _ None k (release r ds n m t s mine k held-mine reason (λ q. omega (arith, count q))) (holds-none r es _)
      (λ p q ne e. still-others r ds ds (λ x. Did r (Released x s)) (permit_of mine) (λ x p gs. refl) holds.permit p q ne e e)
      (λ q l ne. still-shown q l ds (λ x. Did r (Released x s)) (permit_of mine) (λ x. refl))

  gone-kept : ((l : ℕ) → m l + locks_read l mine ≡ n l + 0) → Kept r ds (each_deed (λ x. Did r (LetGo x)) (permit_of mine) ++ ds) n m t (let_go_by mine t) None
  gone-kept count =
      let es = each_deed (λ x. Did r (LetGo x)) (permit_of mine) ++ ds in
      kept-by r ds es n m t _ None k (go r ds n m t mine k held-mine (λ q. omega (arith, count q))) (holds-none r es _)
      (λ p q ne e. still-others r ds ds (λ x. Did r (LetGo x)) (permit_of mine) (λ x p gs. refl) holds.permit p q ne e e)
      (λ q l ne. still-shown q l ds (λ x. Did r (LetGo x)) (permit_of mine) (λ x. refl))

  rest-kept : ((l : ℕ) → m l + locks_read l mine ≡ n l + locks_read l mine) → Kept r ds ds n m t t mine
  rest-kept count = kept-by r ds ds n m t t mine k (same-count ds n m t t (λ q. omega (arith, count q)) (table.rests ds n t k)) holds (λ p q ne e. e) (λ q l ne. refl)

-- tokens are published if a permit is held, and shown to who waits on it
module _ (r : ℕ) (ds : List Deed) (n m : ℕ → ℕ) (t : Locks) (p : Permit) (tokens : List ℕ) (k : IsTable ds n t) where
  abbrev l : ℕ
  l = p.number

  abbrev es : List Deed
  es = Did r (Published l tokens) ∷ ds

  abbrev u : Locks
  u = published t l tokens

  at-lock : (o : Option Core) → get t.cores l ≡ o → is_some o ≡ true → publications_at (get (changed (with_publication tokens) t.cores l o) l) ≡ publications_with (readers_at o) tokens (publications_at o)
  at-lock None is there = absurd (cc)
  at-lock (Some c) is there = let d : Core = with_publication tokens c in ap publications_at (get-set t.cores l d l ∙ ap (λ b. cond b (Some d) (get t.cores l)) (same-number l))

  off : (q : ℕ) (o : Option Core) → get t.cores l ≡ o → (l == q) ≡ false → get (changed (with_publication tokens) t.cores l o) q ≡ get t.cores q
  off q None is f = refl
  off q (Some c) is f = let d : Core = with_publication tokens c in get-set t.cores l d q ∙ ap (λ b. cond b (Some d) (get t.cores q)) f

  shown-on : (q : ℕ) (rd : Reader) → 0 < n rd.number → IsWatch q rd.number ds rd.watch (publications_at (get t.cores rd.number)) → (b : Bool) → (l == rd.number) ≡ b → IsWatch q rd.number es rd.watch (publications_at (get u.cores rd.number))
  shown-on q rd read old true e =
      let here : l ≡ rd.number = eqb-true l rd.number e in
      let count : 0 < n l = subst (λ x. 0 < n x) (sym here) read in
      subst (λ x. IsWatch q x es rd.watch (publications_at (get u.cores x))) here
      (subst (IsWatch q l es rd.watch) (sym (at-lock (get t.cores l) refl (read-there ds n t k l count)))
      (watch-published r q l ds rd.watch tokens (readers_at (get t.cores l)) (publications_at (get t.cores l)) (subst (λ x. 0 < x) (sym (k.readers l)) count)
      (subst (λ x. IsWatch q x ds rd.watch (publications_at (get t.cores x))) (sym here) old)))
  shown-on q rd read old false e =
      watch-same q rd.number ds es rd.watch _ (publications_at (get t.cores rd.number)) (ap (λ b. if b then shown_more tokens (shown q rd.number ds) else shown q rd.number ds) e) (ap publications_at (off rd.number (get t.cores l) refl e)) old

  published-kept : Holds r ds t (Some (Write p)) → ((q : ℕ) → m q + 0 ≡ n q + 0) → Kept r ds es n m t u (Some (Write p))
  published-kept holds count = record {
    table = subst (λ f. IsTable es f u) (λ i q. (let same : n q ≡ m q = omega (arith, count q) in same) i) (table.publishes ds n t k r l tokens (held-by l ds r (holds.permit l refl)));
    age = refl;
    mine = record { permit = λ x e. holds.permit x e; watch = λ rd e. absurd (cc) };
    others = λ q other ne old read. record { permit = λ x e. old.permit x e; watch = λ rd is there. shown-on q rd (read rd is) (old.watch rd is (read-there ds n t k rd.number (read rd is))) (l == rd.number) refl };
  }

-- a read lock is polled, and waits on
module _ (r : ℕ) (ds : List Deed) (n m : ℕ → ℕ) (t : Locks) (rd : Reader) (k : IsTable ds n t) (holds : Holds r ds t (Some (Read rd))) where
  polled-stage : (at : ℕ) (fills : Option (List UnusableFill)) (c : Core) → get t.cores rd.number ≡ Some c → (s : PermitState) → answer_at s (watched c (watch_at c fills rd.watch)) ≡ Pending
      → ((l : ℕ) → m l + locks_read l (Some (Read rd)) ≡ n l + locks_read l (Some (Read (reader_at s rd (watched c (watch_at c fills rd.watch))))))
      → Kept r ds (Polled r ∷ ds) n m t t (Some (Read (reader_at s rd (watched c (watch_at c fills rd.watch)))))
  polled-stage at fills c is stage.Over pending count = absurd (cc)
  polled-stage at fills c is stage.Old pending count = absurd (cc)
  polled-stage at fills c is stage.Held pending count =
      let x : Watch = watched c (watch_at c fills rd.watch) in
      let now : Reader = record rd { watch = Some x } in
      kept-by r ds (Polled r ∷ ds) n m t t (Some (Read now)) k (same-count (Polled r ∷ ds) n m t t (λ q. omega (arith, count q)) (table.polls ds n t k r))
      (record {
        permit = λ p e. absurd (cc);
        watch = λ rd' e there.
            subst (λ y. IsWatch r y.number (Polled r ∷ ds) y.watch (publications_at (get t.cores y.number))) (read-same now rd' e)
            (subst (IsWatch r rd.number (Polled r ∷ ds) (Some x)) (ap publications_at (sym is))
            (watch-polled ds c r rd.number fills rd.watch (ap (λ o. last_of (publications_at o)) (sym is) ∙ k.said rd.number (ap is_some is)) (subst (λ o. IsWatch r rd.number ds rd.watch (publications_at o)) is (holds.watch rd refl (ap is_some is)))));
      })
      (λ p q ne e. e) (λ q l ne. ap (λ b. if b then shown_first (publication l ds) (shown q l ds) else shown q l ds) (other-number r q ne))

  polled-kept : (at : ℕ) (fills : Option (List UnusableFill)) (o : Option Core) → get t.cores rd.number ≡ o → polled at fills rd.watch o ≡ Pending → ((l : ℕ) → m l + locks_read l (Some (Read rd)) ≡ n l + locks_read l (Some (Read (reader_polled at fills rd o))))
      → Kept r ds (Polled r ∷ ds) n m t t (Some (Read (reader_polled at fills rd o)))
  polled-kept at fills None is pending count = absurd (cc)
  polled-kept at fills (Some c) is pending count = polled-stage at fills c is (permit_state at c) pending count

  -- or finds its permit too old, and is let go
  old-told : (o : Option UnusableFill) → is_old_result (told_or_pending o) ≡ false
  old-told None = refl
  old-told (Some f) = refl

  old-stage : (s : PermitState) (w : Watch) → is_old_result (answer_at s w) ≡ true → is_old s ≡ true
  old-stage stage.Over w e = absurd (cc)
  old-stage stage.Old w e = refl
  old-stage stage.Held w e = let no : false ≡ true = sym (old-told w.told) ∙ e in absurd (cc)

  old-core : (at : ℕ) (fills : Option (List UnusableFill)) (o : Option Core) → is_old_result (polled at fills rd.watch o) ≡ true → is_old_at at o ≡ true
  old-core at fills None e = absurd (cc)
  old-core at fills (Some c) e = old-stage (permit_state at c) (watched c (watch_at c fills rd.watch)) e

  aged-there : (at : ℕ) (o : Option Core) → is_old_at at o ≡ true → is_some o ≡ true
  aged-there at None e = absurd (cc)
  aged-there at (Some c) e = refl

  aged-kept : (at : ℕ) (fills : Option (List UnusableFill)) → too_old_for t at (Some (Read rd)) fills ≡ true → ((l : ℕ) → m l + locks_read l (Some (Read rd)) ≡ n l + 0)
      → Kept r ds (Did r (Aged rd.number at) ∷ ds) n m t (let_go_by (Some (Read rd)) (table_polled at (Some (Read rd)) t)) None
  aged-kept at fills old count =
      let es = Did r (Aged rd.number at) ∷ ds in
      let v : Locks = table_polled at (Some (Read rd)) t in
      let first = table.ages ds n t k r rd.number at (aged-there at (get t.cores rd.number) (old-core at fills (get t.cores rd.number) old)) (old-core at fills (get t.cores rd.number) old) in
      let second = table.leaves es n v first.table m rd (λ q. omega (arith, count q)) in
      kept-by r ds es n m t _ None k (both es es n m t v _ first second) (holds-none r es _) (λ p q ne e. e) (λ q l ne. refl)

-- ---- every move

reversed-one : (f : ℕ → Deed) (o : Option ℕ) (ds : List Deed) → reverse (each_deed f o) ++ ds ≡ each_deed f o ++ ds
reversed-one f None ds = refl
reversed-one f (Some x) ds = refl

pub reversed-two : (d : Deed) (f : ℕ → Deed) (o : Option ℕ) (ds : List Deed) → reverse (d ∷ each_deed f o) ++ ds ≡ each_deed f o ++ d ∷ ds
reversed-two d f None ds = refl
reversed-two d f (Some x) ds = refl

moved-kept : (r : ℕ) (ds : List Deed) (n m : ℕ → ℕ) (t : Locks) (move : LockMove) (mine : Option Locked) → IsTable ds n t → Holds r ds t mine → MayMoveLock move mine t → ((l : ℕ) → n l + 1 < 2 ^ 128)
    → ((l : ℕ) → m l + locks_read l mine ≡ n l + locks_read l (held_moved move mine t)) → Kept r ds (reverse (deeds_moved move r mine t) ++ ds) n m t (table_moved move mine t) (held_moved move mine t)
moved-kept r ds n m t rests mine k holds may few count = rest-kept r ds n m t mine k holds count
moved-kept r ds n m t (asks slot stale at) mine k holds may few count =
    subst (λ es. Kept r ds es n m t (let_go_by mine (after_request t slot stale at (holder t slot))) (Some (lock_given t stale (holder t slot)))) (sym (reversed-two (Did r (asked slot false at (number_of_lock (lock_given t stale (holder t slot))) (is_permit (lock_given t stale (holder t slot))))) (λ x. Did r (LetGo x)) (permit_of mine) ds))
    (asked-kept r ds n m t mine k holds slot stale at (holder t slot) refl few count)
moved-kept r ds n m t (settles s) mine k holds may few count = subst (λ es. Kept r ds es n m t (settled s mine t) None) (sym (reversed-one (λ x. Did r (Released x s)) (permit_of mine) ds)) (settled-kept r ds n m t mine k holds s may count)
moved-kept r ds n m t lets_go mine k holds may few count = subst (λ es. Kept r ds es n m t (let_go_by mine t) None) (sym (reversed-one (λ x. Did r (LetGo x)) (permit_of mine) ds)) (gone-kept r ds n m t mine k holds count)
moved-kept r ds n m t (publishes tokens) None k holds may few count = rest-kept r ds n m t None k holds count
moved-kept r ds n m t (publishes tokens) (Some (Write p)) k holds may few count = published-kept r ds n m t p tokens k holds count
moved-kept r ds n m t (publishes tokens) (Some (Read rd)) k holds may few count = rest-kept r ds n m t (Some (Read rd)) k holds count
moved-kept r ds n m t (polls fills at) None k holds may few count = absurd may
moved-kept r ds n m t (polls fills at) (Some (Write p)) k holds may few count = absurd may
moved-kept r ds n m t (polls fills at) (Some (Read rd)) k holds may few count = polled-kept r ds n m t rd k holds at fills (get t.cores rd.number) refl may count
moved-kept r ds n m t (ages fills at) None k holds may few count = absurd (cc)
moved-kept r ds n m t (ages fills at) (Some (Write p)) k holds may few count = absurd (cc)
moved-kept r ds n m t (ages fills at) (Some (Read rd)) k holds may few count = aged-kept r ds n m t rd k holds at fills may count

module _ (ds : List Deed) (n n' : ℕ → ℕ) (r : ℕ) (mine last : Option Locked) (t u : Locks) (new : List Deed) (k : IsTable ds n t) (holds : Holds r ds t mine) (moves : MovesLocks r new mine t last u) (few : (l : ℕ) → n l + 1 < 2 ^ 128)
    (count : (l : ℕ) → n' l + locks_read l mine ≡ n l + locks_read l last) where
  all-kept : Kept r ds (reverse new ++ ds) n n' t u last
  all-kept =
      subst (λ done. Kept r ds (reverse done ++ ds) n n' t u last) (sym moves.done)
      (subst (λ v. Kept r ds (reverse (deeds_moved moves.move r mine t) ++ ds) n n' t v last) (sym moves.table)
      (subst (λ held. Kept r ds (reverse (deeds_moved moves.move r mine t) ++ ds) n n' t (table_moved moves.move mine t) held) (sym moves.held)
      (moved-kept r ds n n' t moves.move mine k holds moves.may few (λ l. count l ∙ ap (λ held. n l + locks_read l held) moves.held))))

  pub table-kept : IsTable (reverse new ++ ds) n' u
  table-kept = all-kept.table

  pub age-kept : u.age_timeout ≡ t.age_timeout
  age-kept = all-kept.age

  pub holds-kept : Holds r (reverse new ++ ds) u last
  holds-kept = all-kept.mine

  -- what another request holds, if its read lock is counted
  pub others-hold : (q : ℕ) (other : Option Locked) → q ≢ r → Holds q ds t other → ((rd : Reader) → other ≡ Some (Read rd) → 0 < n rd.number) → Holds q (reverse new ++ ds) u other
  others-hold = all-kept.others
