-- Which permits wait after each deed, and what a reader is told when it looks twice.
use Rattle.std.proofs.Common.{drop}
use Rattle.std.proofs.Math.Seq.{drop-append_seam}
use Rattle.std.proofs.lemmas.List.{drop-append-le}
use Rattle.pcache_lock.specs.Locks.{released, unlocked}
use Rattle.pcache_lock.specs.Waiting.{published}
use Rattle.pcache_lock.specs.Waits.{LooksAtEachPublication, WaitsUntilItsEnd}
use Rattle.pcache_lock.specs.PastLaws.{WaitsAfterEachDeed}
use Rattle.pcache_lock.proofs.Words.{◌≡◌, ◌==◌, ℕ, Bool, true, false, ◌+◌, ◌&&◌, ◌||◌, Option, None, Some, List, [], ◌∷◌, ◌++◌, cond, length, nat_lt, refl, sym, ◌∙◌, ap, option_or, get, insert, UnusableFill, first_match, PermitState, is_waiting, Core, new_core, is_named, with_reader, without_reader, spent, released_status, dropped_status, Locks, ended, permit_dropped, reader_dropped, with_read_lock, after_poll, aged, first_told, is_old, permit_state, table_at, with_publication, is_old_at, waits_under, waiting_slot, Deed, Granted, Joined, Released, LetGo, Aged, Left, Polled, Published, Made, ReadLocked, Unlocked}
use Rattle.pcache_lock.specs.declared.lock.outcome.PermitState.TheVariants as stage
use Rattle.pcache_lock.proofs.Calls.{reason_ends}
use Rattle.pcache_lock.proofs.PastWaits.{aged_at, changed_at, dropped_at, left_by, own_by, read_at, released_at, turned_by, unread_at, written}

-- which permit waits after a lock was turned
pub kept-if : {A : Type 0} (b : Bool) {x y : A} → x ≡ y → cond b x y ≡ y
kept-if true e = e
kept-if false e = refl

waits-turned : (f : Core → Core) (o : Option Core) → ((c : Core) → waiting_slot (Some (f c)) ≡ waiting_slot (Some c)) → waiting_slot (turned_by f o) ≡ waiting_slot o
waits-turned f None e = refl
waits-turned f (Some c) e = e c

waits-none : (f : Core → Core) (o : Option Core) → ((c : Core) → waiting_slot (Some (f c)) ≡ None) → waiting_slot (turned_by f o) ≡ None
waits-none f None e = refl
waits-none f (Some c) e = e c

never-waits : (held : Bool) (o : Option ℕ) → cond (held && false) o None ≡ None
never-waits true o = refl
never-waits false o = refl

-- a lock that nothing names does not wait
through : {A B : Type 0} (f : A → B) (b : Bool) (x y : A) → f (cond b x y) ≡ cond b (f x) (f y)
through f true x y = refl
through f false x y = refl

slot-left : (held more waiting : Bool) (o : Option ℕ) → cond (held || more) (cond (held && waiting) o None) None ≡ cond (held && waiting) o None
slot-left true more waiting o = refl
slot-left false true waiting o = refl
slot-left false false waiting o = refl

waits-left : (f : Core → Core) (o : Option Core) → waiting_slot (left_by f o) ≡ waiting_slot (turned_by f o)
waits-left f None = refl
waits-left f (Some c) = let d : Core = f c in through waiting_slot (is_named d) (Some d) None ∙ slot-left d.held (nat_lt 0 d.readers) (is_waiting d.status) d.slot

-- which permits wait after a function of tables that turns one lock
waits-of : (f : Option Core → Option Core) (s t : Locks) (m n : ℕ) → get t.cores n ≡ cond (n == m) (f (get s.cores m)) (get s.cores n) → waits_under t n ≡ cond (n == m) (waiting_slot (f (get s.cores n))) (waits_under s n)
waits-of f s t m n e =
    let o : Option Core = get s.cores n in
    ap waiting_slot (e ∙ own_by f (get s.cores) m n o (n == m) refl) ∙ through waiting_slot (n == m) (f o) o

ending : (f : Option Core → Option Core) (s t : Locks) (m n : ℕ) → get t.cores n ≡ cond (n == m) (f (get s.cores m)) (get s.cores n) → ((o : Option Core) → waiting_slot (f o) ≡ None) → waits_under t n ≡ cond (n == m) None (waits_under s n)
ending f s t m n e none = waits-of f s t m n e ∙ ap (λ x. cond (n == m) x (waits_under s n)) (none (get s.cores n))

staying : (f : Option Core → Option Core) (s t : Locks) (m n : ℕ) → get t.cores n ≡ cond (n == m) (f (get s.cores m)) (get s.cores n) → ((o : Option Core) → waiting_slot (f o) ≡ waiting_slot o) → waits_under t n ≡ waits_under s n
staying f s t m n e same = waits-of f s t m n e ∙ kept-if (n == m) (same (get s.cores n))

let-go-at : (t : Locks) (m n : ℕ) → waits_under (permit_dropped t m (get t.cores m)) n ≡ cond (n == m) None (waits_under t n)
let-go-at t m n =
    let f : Core → Core = λ c. spent c (dropped_status c.status) in
    ending (left_by f) t (permit_dropped t m (get t.cores m)) m n (dropped_at t m n (get t.cores m) refl) (λ o. waits-left f o ∙ waits-none f o (λ c. refl))

left-at : (t : Locks) (m n : ℕ) → waits_under (reader_dropped t m (get t.cores m)) n ≡ waits_under t n
left-at t m n =
    staying (left_by without_reader) t (reader_dropped t m (get t.cores m)) m n (unread_at t m n (get t.cores m) refl) (λ o. waits-left without_reader o ∙ waits-turned without_reader o (λ c. refl))

joined-at : (t : Locks) (m n : ℕ) → waits_under (with_read_lock t m (get t.cores m)) n ≡ waits_under t n
joined-at t m n = staying (turned_by with_reader) t (with_read_lock t m (get t.cores m)) m n (read_at t m n (get t.cores m) refl) (λ o. waits-turned with_reader o (λ c. refl))

asked-at : (t : Locks) (c : Core) (n : ℕ) → waits_under (record t { cores = insert t.cores t.next c; next = t.next + 1 }) n ≡ cond (n == t.next) (waiting_slot (Some c)) (waits_under t n)
asked-at t c n = ap waiting_slot (written t.cores t.next c n) ∙ through waiting_slot (n == t.next) (Some c) (get t.cores n)

-- a poll ages a lock or leaves the table
unaged-by : (s : PermitState) (t : Locks) (m : ℕ) (c : Core) → is_old s ≡ false → table_at s t m c ≡ t
unaged-by stage.Over t m c e = refl
unaged-by stage.Old t m c e = cc
unaged-by stage.Held t m c e = refl

unaged : (t : Locks) (now m : ℕ) (o : Option Core) → is_old_at now o ≡ false → after_poll t now m o ≡ t
unaged t now m None e = refl
unaged t now m (Some c) e = unaged-by (permit_state now c) t m c e

and-true : (b : Bool) → b ≡ (b && true)
and-true true = refl
and-true false = refl

and-false : {X : Type 0} (b : Bool) (x y : X) → y ≡ cond (b && false) x y
and-false true x y = refl
and-false false x y = refl

polled-by : (t : Locks) (now m n : ℕ) (b : Bool) → is_old_at now (get t.cores m) ≡ b → waits_under (after_poll t now m (get t.cores m)) n ≡ cond ((n == m) && b) None (waits_under t n)
polled-by t now m n true e =
    ending (turned_by aged) t (after_poll t now m (get t.cores m)) m n (aged_at t now m n (get t.cores m) refl e) (λ o. waits-none aged o (λ c. never-waits c.held c.slot))
    ∙ ap (λ b. cond b None (waits_under t n)) (and-true (n == m))
polled-by t now m n false e = ap (λ u. waits_under u n) (unaged t now m (get t.cores m) e) ∙ and-false (n == m) None (waits_under t n)

pub waits_until_its_end : WaitsUntilItsEnd
waits_until_its_end = record {
  asking = λ t slot stale now n. asked-at t (new_core (Some slot) t.age_timeout stale now) n;
  joining = λ t slot stale now m n. joined-at t m n;
  releasing = λ t m reason n.
      let f : Core → Core = λ c. spent c (released_status reason c.status) in
      ending (left_by f) t (released t m reason) m n (released_at t m reason n (get t.cores m) refl) (λ o. waits-left f o ∙ waits-none f o (λ c. refl));
  letting_go = λ t p n. let-go-at t p.number n;
  leaving = λ t r n. left-at t r.number n;
  polling = λ t now m n. polled-by t now m n (is_old_at now (get t.cores m)) refl;
  publishing = λ t m tokens n. staying (turned_by (with_publication tokens)) t (published t m tokens) m n (changed_at (with_publication tokens) t.cores m n (get t.cores m) refl) (λ o. waits-turned (with_publication tokens) o (λ c. refl));
  making = λ t age_timeout stale now n. asked-at t (new_core None age_timeout stale now) n;
  reading = λ t m n. joined-at t m n;
  unlocking = λ t m reason n is.
      ending (turned_by (ended reason)) t (unlocked t m reason) m n (changed_at (ended reason) t.cores m n (get t.cores m) refl) (λ o. waits-none (ended reason) o (λ c. ap (λ b. cond (c.held && b) c.slot None) (reason_ends reason is) ∙ never-waits c.held c.slot));
}

-- so do the deeds
pub waits_after_each_deed : WaitsAfterEachDeed
waits_after_each_deed (Granted slot m stale now) s t n h =
    ap (λ u. waits_under u n) h.2 ∙ waits_until_its_end.asking s slot stale now n ∙ ap (λ x. cond (n == x) (Some slot) (waits_under s n)) (sym h.1)
waits_after_each_deed (Joined slot m now) s t n h = ap (λ u. waits_under u n) h.1 ∙ joined-at s m n
waits_after_each_deed (Released m reason) s t n h = ap (λ u. waits_under u n) h.1 ∙ waits_until_its_end.releasing s m reason n
waits_after_each_deed (LetGo m) s t n h = ap (λ u. waits_under u n) h ∙ let-go-at s m n
waits_after_each_deed (Aged m now) s t n h =
    ap (λ u. waits_under u n) h.1 ∙ polled-by s now m n true h.0 ∙ ap (λ b. cond b None (waits_under s n)) (sym (and-true (n == m)))
waits_after_each_deed (Left m) s t n h = ap (λ u. waits_under u n) h ∙ left-at s m n
waits_after_each_deed (Polled m now) s t n h = ap (λ u. waits_under u n) h.1
waits_after_each_deed (Published m tokens) s t n h = ap (λ u. waits_under u n) h ∙ waits_until_its_end.publishing s m tokens n
waits_after_each_deed (Made m own stale now) s t n h =
    ap (λ u. waits_under u n) h.1 ∙ waits_until_its_end.making s own stale now n ∙ ap (λ x. cond (n == x) None (waits_under s n)) (sym h.0)
waits_after_each_deed (ReadLocked m) s t n h = ap (λ u. waits_under u n) h ∙ joined-at s m n
waits_after_each_deed (Unlocked m reason) s t n h = ap (λ u. waits_under u n) h.1 ∙ waits_until_its_end.unlocking s m reason n h.0

-- publications looked at in two steps
or_or : {X : Type 0} (a b c : Option X) → option_or (option_or a b) c ≡ option_or a (option_or b c)
or_or None b c = refl
or_or (Some x) b c = refl

told_more : (fills : List UnusableFill) (ps qs : List (List ℕ)) → first_told fills (ps ++ qs) ≡ option_or (first_told fills ps) (first_told fills qs)
told_more fills [] qs = refl
told_more fills (p ∷ ps) qs = ap (option_or (first_match p fills)) (told_more fills ps qs) ∙ sym (or_or (first_match p fills) (first_told fills ps) (first_told fills qs))

pub looks_at_each : LooksAtEachPublication
looks_at_each c more w le =
    let ps = c.publications in
    ap (λ o. record w { seen = length (ps ++ more); told = o }) (
    ap (λ x. option_or (option_or w.told (first_told w.fills (drop w.seen ps))) (first_told w.fills x)) (drop-append_seam ps more)
    ∙ or_or w.told (first_told w.fills (drop w.seen ps)) (first_told w.fills more)
    ∙ ap (option_or w.told) (sym (ap (first_told w.fills) (drop-append-le w.seen ps more le) ∙ told_more w.fills (drop w.seen ps) more)))
