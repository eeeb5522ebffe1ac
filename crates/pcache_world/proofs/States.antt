-- The store that events speak of: at the start, and after events that leave it as it is.
use Rattle.pcache_history.specs.declared.entry.Event.TheVariants.{LetGo, Aged, Read}
use Rattle.pcache_world.proofs.Words.{◌≡◌, ℕ, Bool, false, Option, None, Some, List, [], ◌∷◌, ap, sym, subst, ◌∙◌, arith, nat_cmp, Poll, CacheEntryKey, Store, Slot, complete_body, is_untouched_in, Answer, Event, Look, Ask, Access, Release, Untrack, IsState}
use Rattle.std.specs.FinMap as map

pub state-none : (s : Store) → s.slots ≡ map.empty → s.writes ≡ map.empty → s.next ≡ 0 → s.newest ≡ false → IsState [] (λ _. 0) s
state-none s slots writes next newest =
    let none : (k : ℕ) → map.get s.slots k ≡ None = λ k. ap (λ m. map.get m k) slots ∙ map.get-empty nat_cmp k in
    record {
      next = next;
      writes = λ w. ap (λ m. map.get m w) writes ∙ map.get-empty nat_cmp w;
      untouched = λ k w. ap (is_untouched_in w) (none k);
      bodies = λ k. ap complete_body (none k);
      filled = λ k x is. let e : ◌≡◌ {A = Option Slot} None (Some x) = sym (none k) ∙ is in cc;
      known = λ w lt. absurd (omega arith);
      newest = newest;
    }

pub state-same : (es : List Event) (n m : ℕ → ℕ) (s : Store) → ((w : ℕ) → n w ≡ m w) → IsState es n s → IsState es m s
state-same es n m s same st = subst (λ f. IsState es f s) (λ i w. same w i) st

module _ (es : List Event) (n : ℕ → ℕ) (s : Store) (st : IsState es n s) where
  pub state-look : (k : ℕ) (a : Answer) → IsState (Look k a ∷ es) n s
  state-look k a = record { next = st.next; writes = st.writes; untouched = st.untouched; bodies = st.bodies; filled = st.filled; known = st.known; newest = st.newest }

  pub state-ask : (k lock : ℕ) (is_permit : Bool) → IsState (Ask k lock is_permit ∷ es) n s
  state-ask k lock is_permit = record { next = st.next; writes = st.writes; untouched = st.untouched; bodies = st.bodies; filled = st.filled; known = st.known; newest = st.newest }

  pub state-access : (e : CacheEntryKey) (weight : ℕ) → IsState (Access e weight ∷ es) n s
  state-access e weight = record { next = st.next; writes = st.writes; untouched = st.untouched; bodies = st.bodies; filled = st.filled; known = st.known; newest = st.newest }

  pub state-release : (lock : ℕ) → IsState (Release lock ∷ es) n s
  state-release lock = record { next = st.next; writes = st.writes; untouched = st.untouched; bodies = st.bodies; filled = st.filled; known = st.known; newest = st.newest }

  pub state-let_go : (lock : ℕ) → IsState (LetGo lock ∷ es) n s
  state-let_go lock = record { next = st.next; writes = st.writes; untouched = st.untouched; bodies = st.bodies; filled = st.filled; known = st.known; newest = st.newest }

  pub state-aged : (lock : ℕ) → IsState (Aged lock ∷ es) n s
  state-aged lock = record { next = st.next; writes = st.writes; untouched = st.untouched; bodies = st.bodies; filled = st.filled; known = st.known; newest = st.newest }

  pub state-untrack : (e : CacheEntryKey) → IsState (Untrack e ∷ es) n s
  state-untrack e = record { next = st.next; writes = st.writes; untouched = st.untouched; bodies = st.bodies; filled = st.filled; known = st.known; newest = st.newest }

  pub state-read : (a : Poll (Option (List ℕ))) → IsState (Read a ∷ es) n s
  state-read a = record { next = st.next; writes = st.writes; untouched = st.untouched; bodies = st.bodies; filled = st.filled; known = st.known; newest = st.newest }
