-- Every lock that a table keeps is named by its permit or a read lock.
use Rattle.std.proofs.Common.{IsSome}
use Rattle.pcache_lock.specs.PastLaws.{NothingRemainsAlways}
use Rattle.pcache_lock.proofs.Words.{◌≡◌, ◌+◌, ◌-◌, ◌^◌, ℕ, Bool, true, false, ◌||◌, Option, None, Some, List, [], ◌∷◌, ◌==◌, cond, refl, sym, ◌∙◌, ap, subst, arith, min, nat_lt, nat_cmp, nat_tests, get, get-empty, Core, is_named, with_reader, without_reader, spent, released_status, dropped_status, Locks, no_locks_from, ended, aged, with_publication, Deed, Granted, Joined, Released, LetGo, Aged, Left, Polled, Published, Made, ReadLocked, Unlocked, PastLeads, number_of}
use Rattle.pcache_lock.proofs.Tidy.{Stands}
use Rattle.pcache_lock.proofs.Calls.{any_tidy}
use Rattle.pcache_lock.proofs.PastWaits.{turned_by, left_by, turned, turns, own_by}

abbrev Named : Option Core → Type 0
Named None = Unit {0}
Named (Some c) = is_named c ≡ true

named-if : (b : Bool) (x y : Option Core) → Named x → Named y → Named (cond b x y)
named-if true x y a b = a
named-if false x y a b = b

named-left : (f : Core → Core) (o : Option Core) → Named (left_by f o)
named-left f None = tt
named-left f (Some c) = by (is_named (f c)) refl
  where
    by : (b : Bool) → is_named (f c) ≡ b → Named (cond b (Some (f c)) None)
    by true e = e
    by false e = tt

named-turned : (f : Core → Core) (o : Option Core) → ((c : Core) → is_named c ≡ true → is_named (f c) ≡ true) → Named o → Named (turned_by f o)
named-turned f None keeps k = tt
named-turned f (Some c) keeps k = keeps c k

reads : (held : Bool) (r : ℕ) → (held || nat_lt 0 (min (r + 1) (2 ^ 128 - 1))) ≡ true
reads true r = refl
reads false r = grind (arith, nat_tests)

deed-named : (age : ℕ) (deed : Deed) (o : Option Core) → Named o → Named (turned age deed o)
deed-named age (Granted slot n stale now) o k = refl
deed-named age (Joined slot n now) o k = named-turned with_reader o (λ c _. reads c.held c.readers) k
deed-named age (Released n reason) o k = named-left (λ c. spent c (released_status reason c.status)) o
deed-named age (LetGo n) o k = named-left (λ c. spent c (dropped_status c.status)) o
deed-named age (Aged n now) o k = named-turned aged o (λ c e. e) k
deed-named age (Left n) o k = named-left without_reader o
deed-named age (Polled n now) o k = k
deed-named age (Published n tokens) o k = named-turned (with_publication tokens) o (λ c e. e) k
deed-named age (Made n own stale now) o k = refl
deed-named age (ReadLocked n) o k = named-turned with_reader o (λ c _. reads c.held c.readers) k
deed-named age (Unlocked n reason) o k = named-turned (ended reason) o (λ c e. e) k

past-named : (past : List Deed) (start age : ℕ) (t : Locks) (n : ℕ) → PastLeads past (no_locks_from start age) t → Named (get t.cores n)
past-named [] start age t n h = subst Named (sym (ap (λ u. get u.cores n) h ∙ get-empty nat_cmp n)) tt
past-named (deed ∷ before) start age t n h =
    let m = number_of deed in
    let s : Locks = h.0 in
    let old = past-named before start age s n h.1.0 in
    subst Named (sym (turns deed s t n h.1.1 ∙ own_by (turned s.age_timeout deed) (get s.cores) m n (get s.cores n) (n == m) refl))
    (named-if (n == m) (turned s.age_timeout deed (get s.cores n)) (get s.cores n) (deed-named s.age_timeout deed (get s.cores n) old) old)

known : (slot : ℕ) (o : Option Core) → Stands true slot o → IsSome o
known slot None s = absurd s
known slot (Some c) s = refl

pub nothing_remains : NothingRemainsAlways
nothing_remains t past is = record {
  locks = λ n c e. subst Named e (past-named past is.0 is.1.0 t n is.1.1);
  entries = λ slot n e. known slot (get t.cores n) ((any_tidy past is.0 is.1.0 t is.1.1).entries slot n e);
}
