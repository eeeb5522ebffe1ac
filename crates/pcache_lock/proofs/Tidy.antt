-- What holds of every table that calls lead to.
use Rattle.pcache_lock.specs.Locks.{held_by, unless_free, with_permit, is_current}
use Rattle.pcache_table.proofs.Sharded.{same_key}
use Rattle.pcache_lock.proofs.Words.{◌≡◌, ◌≤◌, ◌==◌, ℕ, Bool, true, false, ◌&&◌, ◌||◌, Option, None, Some, cond, refl, sym, ◌∙◌, ap, subst, arith, nat_cmp, eq_by_cmp, nat_cmp_total, unsigned_tied, nat_tests, FinMap, get, insert, remove, get-remove, LockStatus, is_free, is_waiting, Core, new_core, Locks, holder, without_entry, waiting_slot, waits_under, by_test, get-insert-at, get-insert-off}
use Rattle.pcache_lock.specs.declared.lock.status.LockStatus.TheVariants as status

-- the current lock of a key is a lock of that key whose status is free, or whose permit waits; if permits may be
-- unlocked, any lock of that key
abbrev pub is_open : Core → Bool
is_open c = is_free c.status || (c.held && is_waiting c.status)

module _ (unlocks : Bool) where
  abbrev pub Stands : ℕ → Option Core → Type 0
  Stands slot None = ⊥
  Stands slot (Some c) = (c.slot ≡ Some slot) × ((unlocks || is_open c) ≡ true)

  pub record Tidy (t : Locks) : Type 0 where
    pub entries : (slot n : ℕ) → get t.current slot ≡ Some n → Stands slot (get t.cores n)
    pub waiting : (slot n : ℕ) → waits_under t n ≡ Some slot → get t.current slot ≡ Some n
    pub unused : (n : ℕ) → t.next ≤ n → get t.cores n ≡ None

-- the current locks of the keys after a lock's entry was removed
picked : (b : Bool) (st : FinMap nat_cmp ℕ) (k s : ℕ) → get (cond b (remove st k) st) s ≡ cond b (cond (eq_by_cmp nat_cmp s k) None (get st s)) (get st s)
picked true st k s = get-remove nat_cmp_total st k s
picked false st k s = refl

some_of : (b e : Bool) (v : Option ℕ) (m : ℕ) → cond b (cond e None v) v ≡ Some m → v ≡ Some m
some_of true true v m h = cc
some_of true false v m h = h
some_of false e v m h = h

pub stood : (n : ℕ) (o : Option ℕ) (st : FinMap nat_cmp ℕ) (s m : ℕ) → get (without_entry n o st) s ≡ Some m → get st s ≡ Some m
stood n None st s m h = h
stood n (Some k) st s m h = some_of (is_current n (get st k)) (eq_by_cmp nat_cmp s k) (get st s) m (sym (picked (is_current n (get st k)) st k s) ∙ h)

tested : (m n : ℕ) (b : Bool) → (m == n) ≡ b → cond b None (Some m) ≡ Some n → ⊥
tested m n true e h = cc
tested m n false e h = let is : m ≡ n = cc in grind (arith, nat_tests)

own : (v : Option ℕ) (n : ℕ) → cond (is_current n v) None v ≡ Some n → ⊥
own None n h = cc
own (Some m) n h = tested m n (m == n) refl h

pub own_gone : (n s : ℕ) (st : FinMap nat_cmp ℕ) → get (without_entry n (Some s) st) s ≡ Some n → ⊥
own_gone n s st h = own (get st s) n (sym (picked (is_current n (get st s)) st s s ∙ ap (λ b. cond (is_current n (get st s)) (cond b None (get st s)) (get st s)) (same_key s)) ∙ h)

kept_other : (v : Option ℕ) (n m : ℕ) → v ≡ Some m → (m == n) ≡ false → is_current n v ≡ false
kept_other v n m e off = rw e off

same_both : (b : Bool) (v : Option ℕ) → cond b v v ≡ v
same_both true v = refl
same_both false v = refl

pub other_stays : (n : ℕ) (o : Option ℕ) (st : FinMap nat_cmp ℕ) (s m : ℕ) → get st s ≡ Some m → (m == n) ≡ false → get (without_entry n o st) s ≡ Some m
other_stays n None st s m h off = h
other_stays n (Some k) st s m h off = by_test s k (eq_by_cmp nat_cmp s k) refl
    (λ e. picked (is_current n (get st k)) st k s ∙ ap (λ b. cond b (cond (eq_by_cmp nat_cmp s k) None (get st s)) (get st s)) (kept_other (get st k) n m (ap (get st) (sym e) ∙ h) off) ∙ h)
    (λ e. picked (is_current n (get st k)) st k s ∙ ap (λ b. cond (is_current n (get st k)) (cond b None (get st s)) (get st s)) e ∙ same_both (is_current n (get st k)) (get st s) ∙ h)

-- a lock changed in place
open_of : (bd bc : Bool) (d c : Option ℕ) (slot : ℕ) → (bd ≡ true → bc ≡ true) → d ≡ c → cond bd d None ≡ Some slot → cond bc c None ≡ Some slot
open_of true bc d c slot w e h = ap (λ b. cond b c None) (w refl) ∙ sym e ∙ h
open_of false bc d c slot w e h = cc

pub none_some : {X P : Type 0} (o : Option X) (x : X) → o ≡ None → o ≡ Some x → P
none_some o x n s = cc

-- what a request finds is what waits
free_not : (held : Bool) (s : LockStatus) (v : Option ℕ) (slot n : ℕ) → cond (held && is_waiting s) v None ≡ Some slot → cond (is_free s) None (Some n) ≡ Some n
free_not false s v slot n h = cc
free_not true status.Waiting v slot n h = refl
free_not true status.Done v slot n h = cc
free_not true status.TransientError v slot n h = cc
free_not true status.GiveUp v slot n h = cc
free_not true status.Dangling v slot n h = cc
free_not true status.WaitTimeout v slot n h = cc
free_not true status.AgeTimeout v slot n h = cc

waits_free : (n slot : ℕ) (o : Option Core) → waiting_slot o ≡ Some slot → unless_free n o ≡ Some n
waits_free n slot None h = cc
waits_free n slot (Some c) h = free_not c.held c.status c.slot slot n h

stands_waits : (free waits : Bool) (o : Option ℕ) (slot m n : ℕ) → o ≡ Some slot → (free || waits) ≡ true → cond free None (Some m) ≡ Some n → (m ≡ n) × (cond waits o None ≡ Some slot)
stands_waits true waits o slot m n e b h = cc
stands_waits false true o slot m n e b h = (cc, e)
stands_waits false false o slot m n e b h = cc

or_true : (b : Bool) → (b || true) ≡ true
or_true true = refl
or_true false = refl

-- a fact of a lock that is kept, whether permits may be unlocked or not
pub or_kept : (b x y : Bool) → (x ≡ true → y ≡ true) → (b || x) ≡ true → (b || y) ≡ true
or_kept true x y f h = refl
or_kept false x y f h = f h

module _ (unlocks : Bool) where
  pub put_tidy : (t : Locks) (n : ℕ) (c d : Core) → get t.cores n ≡ Some c → d.slot ≡ c.slot → ((unlocks || is_open c) ≡ true → (unlocks || is_open d) ≡ true) → ((d.held && is_waiting d.status) ≡ true → (c.held && is_waiting c.status) ≡ true) → Tidy unlocks t → Tidy unlocks (record t { cores = insert t.cores n d })
  put_tidy t n c d is e o w tidy = record {
    entries = λ slot m h. by_test m n (eq_by_cmp nat_cmp m n) refl
        (λ same. let old = subst (Stands unlocks slot) (ap (get t.cores) same ∙ is) (tidy.entries slot m h) in
        subst (Stands unlocks slot) (sym (ap (get (insert t.cores n d)) same ∙ get-insert-at t.cores n d)) (e ∙ old.0, o old.1))
        (λ off. subst (Stands unlocks slot) (sym (get-insert-off t.cores n d m off)) (tidy.entries slot m h));
    waiting = λ slot m h. by_test m n (eq_by_cmp nat_cmp m n) refl
        (λ same. tidy.waiting slot m (ap waiting_slot (ap (get t.cores) same ∙ is)
        ∙ open_of (d.held && is_waiting d.status) (c.held && is_waiting c.status) d.slot c.slot slot w e (sym (ap waiting_slot (ap (get (insert t.cores n d)) same ∙ get-insert-at t.cores n d)) ∙ h)))
        (λ off. tidy.waiting slot m (ap waiting_slot (sym (get-insert-off t.cores n d m off)) ∙ h));
    unused = λ m le. by_test m n (eq_by_cmp nat_cmp m n) refl
        (λ same. none_some (get t.cores m) c (tidy.unused m le) (ap (get t.cores) same ∙ is))
        (λ off. get-insert-off t.cores n d m off ∙ tidy.unused m le);
  }

  -- a lock that no longer waits, with its entry gone
  pub left_tidy : (t : Locks) (n : ℕ) (c : Core) (cores : FinMap nat_cmp Core) (st : FinMap nat_cmp ℕ) → get t.cores n ≡ Some c → ((m : ℕ) → eq_by_cmp nat_cmp m n ≡ false → get cores m ≡ get t.cores m) → waiting_slot (get cores n) ≡ None → st ≡ without_entry n c.slot t.current → Tidy unlocks t → Tidy unlocks (record t { cores = cores; current = st })
  left_tidy t n c cores st is rest none gone tidy = record {
    entries = λ slot m h.
        let now = ap (λ s. get s slot) (sym gone) ∙ h in
        let old = stood n c.slot t.current slot m now in
        by_test m n (eq_by_cmp nat_cmp m n) refl
        (λ same. let own = (subst (Stands unlocks slot) (ap (get t.cores) same ∙ is) (tidy.entries slot m old)).0 in
        absurd (own_gone n slot t.current (ap (λ o. get (without_entry n o t.current) slot) (sym own) ∙ now ∙ ap Some same)))
        (λ off. subst (Stands unlocks slot) (sym (rest m off)) (tidy.entries slot m old));
    waiting = λ slot m h. by_test m n (eq_by_cmp nat_cmp m n) refl
        (λ same. none_some (waiting_slot (get cores m)) slot (ap (λ x. waiting_slot (get cores x)) same ∙ none) h)
        (λ off. ap (λ s. get s slot) gone ∙ other_stays n c.slot t.current slot m (tidy.waiting slot m (ap waiting_slot (sym (rest m off)) ∙ h)) (sym (unsigned_tied m n) ∙ off));
    unused = λ m le. by_test m n (eq_by_cmp nat_cmp m n) refl
        (λ same. none_some (get t.cores m) c (tidy.unused m le) (ap (get t.cores) same ∙ is))
        (λ off. rest m off ∙ tidy.unused m le);
  }

  pub found : (t : Locks) → Tidy unlocks t → (slot n : ℕ) → waits_under t n ≡ Some slot → holder t slot ≡ Some n
  found t tidy slot n h = ap (held_by t) (tidy.waiting slot n h) ∙ waits_free n slot (get t.cores n) h

  -- a new permit
  pub asked_tidy : (t : Locks) (k : ℕ) (stale : Bool) (now : ℕ) → holder t k ≡ None → Tidy unlocks t → Tidy unlocks (with_permit t k stale now)
  asked_tidy t k stale now free tidy =
      let c : Core = new_core (Some k) t.age_timeout stale now in
      record {
        entries = λ slot m h. by_test slot k (eq_by_cmp nat_cmp slot k) refl
            (λ same.
            let at : Some t.next ≡ Some m = sym (ap (get (insert t.current k t.next)) same ∙ get-insert-at t.current k t.next) ∙ h in
            let is : t.next ≡ m = cc at in
            subst (Stands unlocks slot) (sym (ap (get (insert t.cores t.next c)) (sym is) ∙ get-insert-at t.cores t.next c)) (ap Some (sym same), or_true unlocks))
            (λ off.
            let old = tidy.entries slot m (sym (get-insert-off t.current k t.next slot off) ∙ h) in
            by_test m t.next (eq_by_cmp nat_cmp m t.next) refl
            (λ same. absurd (subst (Stands unlocks slot) (ap (get t.cores) same ∙ tidy.unused t.next (omega arith)) old))
            (λ other. subst (Stands unlocks slot) (sym (get-insert-off t.cores t.next c m other)) old));
        waiting = λ slot m h. by_test m t.next (eq_by_cmp nat_cmp m t.next) refl
            (λ same.
            let at : Some k ≡ Some slot = sym (ap waiting_slot (ap (get (insert t.cores t.next c)) same ∙ get-insert-at t.cores t.next c)) ∙ h in
            let is : k ≡ slot = cc at in
            ap (get (insert t.current k t.next)) (sym is) ∙ get-insert-at t.current k t.next ∙ ap Some (sym same))
            (λ other.
            let old : waits_under t m ≡ Some slot = ap waiting_slot (sym (get-insert-off t.cores t.next c m other)) ∙ h in
            by_test slot k (eq_by_cmp nat_cmp slot k) refl
            (λ same. none_some (holder t slot) m (ap (holder t) same ∙ free) (found t tidy slot m old))
            (λ off. get-insert-off t.current k t.next slot off ∙ tidy.waiting slot m old));
        unused = λ m le. by_test m t.next (eq_by_cmp nat_cmp m t.next) refl
            (λ same. absurd (omega arith))
            (λ other. get-insert-off t.cores t.next c m other ∙ tidy.unused m (omega arith));
      }

-- if none was unlocked, what a request finds waits
core_waits : (o : Option Core) (slot m n : ℕ) → Stands false slot o → unless_free m o ≡ Some n → (m ≡ n) × (waiting_slot o ≡ Some slot)
core_waits None slot m n s h = absurd s
core_waits (Some c) slot m n s h = stands_waits (is_free c.status) (c.held && is_waiting c.status) c.slot slot m n s.0 s.1 h

entry_waits : (t : Locks) → Tidy false t → (slot n : ℕ) (o : Option ℕ) → get t.current slot ≡ o → held_by t o ≡ Some n → waits_under t n ≡ Some slot
entry_waits t tidy slot n None e h = cc
entry_waits t tidy slot n (Some m) e h =
    let w = core_waits (get t.cores m) slot m n (tidy.entries slot m e) h in
    ap (λ x. waiting_slot (get t.cores x)) (sym w.0) ∙ w.1

pub asked_waits : (t : Locks) → Tidy false t → (slot n : ℕ) → holder t slot ≡ Some n → waits_under t n ≡ Some slot
asked_waits t tidy slot n h = entry_waits t tidy slot n (get t.current slot) refl h
