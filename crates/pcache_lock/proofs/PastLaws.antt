-- The laws of each table's past, by induction over the past.
use Rattle.std.proofs.Common.{◌↔◌}
use Rattle.std.specs.Prelude.{unwrap_or}
use Rattle.pcache_lock.specs.PastLaws.{waits_after, waits_for, Gets, IsGiven, AllGiven, UnlocksNone, grant_of, ends, GivesByPastAlways, AllGivenAlways, AtMostOneWaitsAlways, OneFetchAtATimeAlways}
use Rattle.pcache_lock.proofs.Words.{◌≡◌, ◌==◌, ℕ, Bool, true, false, ◌||◌, ◌++◌, Option, None, Some, List, [], ◌∷◌, cond, refl, sym, ◌∙◌, ap, subst, arith, list_any, nat_cmp, get-empty, nat_tests, Locks, no_locks_from, holder, lock_given, waits_under, waiting_slot, Deed, Granted, Joined, Released, LetGo, Aged, Left, Polled, Published, Made, ReadLocked, Unlocked, Does, PastLeads, is_unlocking}
use Rattle.pcache_lock.proofs.Tidy.{Tidy, none_some, asked_waits, found}
use Rattle.pcache_lock.proofs.Calls.{start_tidy_from, past_tidy, any_tidy}
use Rattle.pcache_lock.proofs.Ends.{waits_after_each_deed}

-- The permits that wait are those that wait by the past.
pub waits-said : (past : List Deed) (start age : ℕ) (t : Locks) (n : ℕ) → PastLeads past (no_locks_from start age) t → waits_under t n ≡ waits_for n past
waits-said [] start age t n h = ap (λ u. waits_under u n) h ∙ ap waiting_slot (get-empty nat_cmp n)
waits-said (deed ∷ past) start age t n h = waits_after_each_deed deed h.0 t n h.1.1 ∙ ap (waits_after n deed) (waits-said past start age h.0 n h.1.0)

pub at_most_one : AtMostOneWaitsAlways
at_most_one t past is slot n m a b =
    let tidy = any_tidy past is.0 is.1.0 t is.1.1 in
    let e : Some n ≡ Some m = sym (tidy.waiting slot n (waits-said past is.0 is.1.0 t n is.1.1 ∙ a)) ∙ tidy.waiting slot m (waits-said past is.0 is.1.0 t m is.1.1 ∙ b) in
    cc e

-- What a request is given.
finds : (past : List Deed) (start age : ℕ) (t : Locks) → PastLeads past (no_locks_from start age) t → UnlocksNone past → (slot n : ℕ) → (holder t slot ≡ Some n) ↔ (waits_for n past ≡ Some slot)
finds past start age t h none slot n =
    let tidy = past_tidy false past (no_locks_from start age) t h (λ e. sym none ∙ e) (start_tidy_from false start age) in
    (λ a. sym (waits-said past start age t n h) ∙ asked_waits t tidy slot n a, λ b. found false t tidy slot n (waits-said past start age t n h ∙ b))

gets-by : (past : List Deed) (t : Locks) (slot : ℕ) (stale : Bool) (o : Option ℕ) → holder t slot ≡ o → ((n : ℕ) → (holder t slot ≡ Some n) ↔ (waits_for n past ≡ Some slot)) → Gets past slot (lock_given t stale o)
gets-by past t slot stale None e f = λ n w. none_some (holder t slot) n e ((f n).1 w)
gets-by past t slot stale (Some m) e f = (f m).0 e

pub gives_by_past : GivesByPastAlways
gives_by_past t past is none slot stale = gets-by past t slot stale (holder t slot) refl (λ n. finds past is.0 is.1.0 t is.1.1 none slot n)

given-by : (deed : Deed) (past : List Deed) (s t : Locks) → Does deed s t → ((slot n : ℕ) → (holder s slot ≡ Some n) ↔ (waits_for n past ≡ Some slot)) → IsGiven deed past
given-by (Granted slot m stale now) past s t h f = λ n w. none_some (holder s slot) n h.0 ((f slot n).1 w)
given-by (Joined slot m now) past s t h f = (f slot m).0 h.0
given-by (Released m reason) past s t h f = tt
given-by (LetGo m) past s t h f = tt
given-by (Aged m now) past s t h f = tt
given-by (Left m) past s t h f = tt
given-by (Polled m now) past s t h f = tt
given-by (Published m tokens) past s t h f = tt
given-by (Made m age stale now) past s t h f = tt
given-by (ReadLocked m) past s t h f = tt
given-by (Unlocked m reason) past s t h f = tt

neither-first : (a b : Bool) → (a || b) ≡ false → a ≡ false
neither-first true b e = e
neither-first false b e = refl

neither-second : (a b : Bool) → (a || b) ≡ false → b ≡ false
neither-second true b e = cc
neither-second false b e = e

given-all : (past : List Deed) (start age : ℕ) (t : Locks) → PastLeads past (no_locks_from start age) t → UnlocksNone past → AllGiven past
given-all [] start age t h none = tt
given-all (deed ∷ past) start age t h none =
    let before = neither-second (is_unlocking deed) (list_any is_unlocking past) none in
    (given-by deed past h.0 t h.1.1 (λ slot n. finds past start age h.0 h.1.0 before slot n), given-all past start age h.0 h.1.0 before)

pub all_given : AllGivenAlways
all_given t past is none = given-all past is.0 is.1.0 t is.1.1 none

-- One fetch at a time: a permit waits until it ends, and while it waits none is given.
number-self : (n : ℕ) (b : Bool) → (n == n) ≡ b → b ≡ true
number-self n true e = refl
number-self n false e = grind (arith, nat_tests)

not-next : (s : Locks) (n slot : ℕ) (b : Bool) → Tidy true s → waits_under s n ≡ Some slot → (n == s.next) ≡ b → b ≡ false
not-next s n slot false tidy w e = refl
not-next s n slot true tidy w e =
    let is : n ≡ s.next = grind (arith, nat_tests) in
    none_some (waits_under s n) slot (ap waiting_slot (tidy.unused n (omega (arith, is)))) w

unmoved : (n m : ℕ) (o v : Option ℕ) (slot : ℕ) → (n == m) ≡ false → v ≡ Some slot → cond (n == m) o v ≡ Some slot
unmoved n m o v slot off w = ap (λ b. cond b o v) off ∙ w

stays : (deed : Deed) (s t : Locks) (n slot : ℕ) → Does deed s t → Tidy true s → ends n deed ≡ false → waits_under s n ≡ Some slot → waits_after n deed (waits_under s n) ≡ Some slot
stays (Granted k m stale now) s t n slot h tidy off w = unmoved n m (Some k) (waits_under s n) slot (ap (λ x. n == x) h.1 ∙ not-next s n slot (n == s.next) tidy w refl) w
stays (Joined k m now) s t n slot h tidy off w = w
stays (Released m reason) s t n slot h tidy off w = unmoved n m None (waits_under s n) slot off w
stays (LetGo m) s t n slot h tidy off w = unmoved n m None (waits_under s n) slot off w
stays (Aged m now) s t n slot h tidy off w = unmoved n m None (waits_under s n) slot off w
stays (Left m) s t n slot h tidy off w = w
stays (Polled m now) s t n slot h tidy off w = w
stays (Published m tokens) s t n slot h tidy off w = w
stays (Made m age stale now) s t n slot h tidy off w = unmoved n m None (waits_under s n) slot (ap (λ x. n == x) h.0 ∙ not-next s n slot (n == s.next) tidy w refl) w
stays (ReadLocked m) s t n slot h tidy off w = w
stays (Unlocked m reason) s t n slot h tidy off w = unmoved n m None (waits_under s n) slot off w

grant-slot : (k slot m n : ℕ) → ◌≡◌ {A = Option (ℕ × ℕ)} (Some (k, m)) (Some (slot, n)) → k ≡ slot
grant-slot k slot m n e = ap (λ (o : Option (ℕ × ℕ)). (unwrap_or o (k, m)).0) e

grant-number : (k slot m n : ℕ) → ◌≡◌ {A = Option (ℕ × ℕ)} (Some (k, m)) (Some (slot, n)) → m ≡ n
grant-number k slot m n e = ap (λ (o : Option (ℕ × ℕ)). (unwrap_or o (k, m)).1) e

waits-first : (deed : Deed) (n slot : ℕ) (v : Option ℕ) → grant_of deed ≡ Some (slot, n) → waits_after n deed v ≡ Some slot
waits-first (Granted k m stale now) n slot v e =
    ap (λ x. cond (n == x) (Some k) v) (grant-number k slot m n e)
    ∙ ap (λ b. cond b (Some k) v) (number-self n (n == n) refl)
    ∙ ap Some (grant-slot k slot m n e)
waits-first (Joined k m now) n slot v e = cc
waits-first (Released m reason) n slot v e = cc
waits-first (LetGo m) n slot v e = cc
waits-first (Aged m now) n slot v e = cc
waits-first (Left m) n slot v e = cc
waits-first (Polled m now) n slot v e = cc
waits-first (Published m tokens) n slot v e = cc
waits-first (Made m age stale now) n slot v e = cc
waits-first (ReadLocked m) n slot v e = cc
waits-first (Unlocked m reason) n slot v e = cc

waits-on : (between before : List Deed) (first : Deed) (start age : ℕ) (t : Locks) (n slot : ℕ) → PastLeads (between ++ (first ∷ before)) (no_locks_from start age) t → grant_of first ≡ Some (slot, n) → list_any (ends n) between ≡ false → waits_under t n ≡ Some slot
waits-on [] before first start age t n slot h grant none = waits_after_each_deed first h.0 t n h.1.1 ∙ waits-first first n slot (waits_under h.0 n) grant
waits-on (deed ∷ between) before first start age t n slot h grant none =
    waits_after_each_deed deed h.0 t n h.1.1
    ∙ stays deed h.0 t n slot h.1.1 (any_tidy (between ++ (first ∷ before)) start age h.0 h.1.0) (neither-first (ends n deed) (list_any (ends n) between) none)
    (waits-on between before first start age h.0 n slot h.1.0 grant (neither-second (ends n deed) (list_any (ends n) between) none))

none-held : (deed : Deed) (s t : Locks) (slot m : ℕ) → Does deed s t → grant_of deed ≡ Some (slot, m) → holder s slot ≡ None
none-held (Granted k number stale now) s t slot m h e = ap (holder s) (sym (grant-slot k slot number m e)) ∙ h.0
none-held (Joined k number now) s t slot m h e = cc
none-held (Released number reason) s t slot m h e = cc
none-held (LetGo number) s t slot m h e = cc
none-held (Aged number now) s t slot m h e = cc
none-held (Left number) s t slot m h e = cc
none-held (Polled number now) s t slot m h e = cc
none-held (Published number tokens) s t slot m h e = cc
none-held (Made number age stale now) s t slot m h e = cc
none-held (ReadLocked number) s t slot m h e = cc
none-held (Unlocked number reason) s t slot m h e = cc

earlier : (later rest : List Deed) (s t : Locks) → PastLeads (later ++ rest) s t → (u : Locks) × PastLeads rest s u
earlier [] rest s t h = (t, h)
earlier (deed ∷ later) rest s t h = earlier later rest s h.0 h.1.0

or-else : (b : Bool) → (b ≡ false → ⊥) → b ≡ true
or-else true f = refl
or-else false f = absurd (f refl)

pub one_fetch : OneFetchAtATimeAlways
one_fetch t past is later between before second first slot m n e given again =
    let at = earlier later (second ∷ (between ++ (first ∷ before))) (no_locks_from is.0 is.1.0) t (subst (λ p. PastLeads p (no_locks_from is.0 is.1.0) t) e is.1.1) in
    let held = none-held second at.1.0 at.0 slot m at.1.1.1 again in
    or-else (list_any (ends n) between) (λ none.
    none_some (holder at.1.0 slot) n held (found true at.1.0 (any_tidy (between ++ (first ∷ before)) is.0 is.1.0 at.1.0 at.1.1.0) slot n
    (waits-on between before first is.0 is.1.0 at.1.0 n slot at.1.1.0 given none)))
