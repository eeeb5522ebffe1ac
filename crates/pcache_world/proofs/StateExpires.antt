-- The store after an expiry, and after a revalidation.
use Rattle.std.specs.Option.{option_map}
use Rattle.pcache_meta.specs.Meta.{expired_at}
use Rattle.pcache_store.specs.Store.{Stored, with_meta, meta_changed_in, meta_changed_on}
use Rattle.pcache_history.proofs.Steps.{complete-expire, complete-renew, altered_body}
use Rattle.pcache_world.proofs.Words.{◌≡◌, ℕ, ◌==◌, true, false, cond, if◌then◌else◌, Option, None, Some, List, ◌∷◌, refl, ap, sym, ◌∙◌, nat_cmp, FinMap, get, contains_key, eqb-true, Meta, in_place_of, Store, Slot, is_untouched_in, is_idle, complete_body, meta_changed, meta_set, Event, Expire, Renew, complete, is_open, IsState, IsTidy}
use Rattle.pcache_world.proofs.StateSlots.{filled-at}
use Rattle.pcache_world.proofs.StateWrites.{get-set}

-- a slot whose body has another meta
abbrev changed_slot : (Meta → Meta) → Option Slot → Option Slot
changed_slot f o = option_map (λ x. with_meta f x x.body) o

here-is : (xs : FinMap nat_cmp Slot) (k q : ℕ) (o : Option Slot) → get xs k ≡ o → get xs q ≡ cond (k == q) o (get xs q)
here-is xs k q o e = elim (k == q) as (λ b. (k == q) ≡ b → get xs q ≡ cond b o (get xs q)) [ true ↦ λ t. ap (get xs) (sym (eqb-true k q t)) ∙ e | false ↦ λ _. refl ] refl

get-changed-in : (f : Meta → Meta) (xs : FinMap nat_cmp Slot) (k q : ℕ) (x : Slot) (b : Option Stored) → get xs k ≡ Some x → get (meta_changed_in f xs k x b) q ≡ cond (k == q) (Some (with_meta f x b)) (get xs q)
get-changed-in f xs k q x None e = here-is xs k q (Some x) e
get-changed-in f xs k q x (Some b) e = get-set xs k (with_meta f x (Some b)) q

get-changed-on : (f : Meta → Meta) (xs : FinMap nat_cmp Slot) (k q : ℕ) (o : Option Slot) → get xs k ≡ o → get (meta_changed_on f xs k o) q ≡ cond (k == q) (changed_slot f o) (get xs q)
get-changed-on f xs k q None e = here-is xs k q None e
get-changed-on f xs k q (Some x) e = get-changed-in f xs k q x x.body e

get-changed : (f : Meta → Meta) (xs : FinMap nat_cmp Slot) (k q : ℕ) → get (meta_changed_on f xs k (get xs k)) q ≡ cond (k == q) (changed_slot f (get xs k)) (get xs q)
get-changed f xs k q = get-changed-on f xs k q (get xs k) refl

same-untouched : (f : Meta → Meta) (q : ℕ) (o : Option Slot) → is_untouched_in q (changed_slot f o) ≡ is_untouched_in q o
same-untouched f q None = refl
same-untouched f q (Some x) = elim x.body as (λ b. contains_key (with_meta f x b).untouched q ≡ contains_key x.untouched q) [ None ↦ refl | Some b ↦ refl ]

altered-slot : (f : Meta → Meta) (o : Option Slot) → complete_body (changed_slot f o) ≡ option_map (altered_body f) (complete_body o)
altered-slot f None = refl
altered-slot f (Some x) = elim x.body as (λ b. x.body ≡ b → (with_meta f x b).body ≡ option_map (altered_body f) b) [ None ↦ λ e. e | Some b ↦ λ _. refl ] refl

-- a slot that holds something still does
changed-filled : (f : Meta → Meta) (o : Option Slot) (z : Slot) → ((x : Slot) → o ≡ Some x → is_idle x ≡ false) → changed_slot f o ≡ Some z → is_idle z ≡ false
changed-filled f None z filled h = cc
changed-filled f (Some x) z filled h =
    elim x.body as (λ b. x.body ≡ b → Some (with_meta f x b) ≡ Some z → is_idle z ≡ false) [
      | None ↦ λ _ e. let same : x ≡ z = cc in ap is_idle (sym same) ∙ filled x refl
      | Some b ↦ λ _ e. let same : with_meta f x (Some b) ≡ z = cc in ap is_idle (sym same)
    ] refl h

module _ (es : List Event) (n : ℕ → ℕ) (s : Store) (k : ℕ) (f : Meta → Meta) (st : IsState es n s) where
  abbrev ys : FinMap nat_cmp Slot
  ys = meta_changed_on f s.slots k (get s.slots k)

  set : (q : ℕ) → get ys q ≡ cond (k == q) (changed_slot f (get s.slots k)) (get s.slots q)
  set q = get-changed f s.slots k q

  changed-untouched : (q w : ℕ) → is_untouched_in w (get ys q) ≡ is_open q w es
  changed-untouched q w =
      ap (is_untouched_in w) (set q)
      ∙ elim (k == q) as (λ b. (k == q) ≡ b → is_untouched_in w (cond b (changed_slot f (get s.slots k)) (get s.slots q)) ≡ is_untouched_in w (get s.slots q)) [
        | true ↦ λ is. same-untouched f w (get s.slots k) ∙ ap (λ j. is_untouched_in w (get s.slots j)) (eqb-true k q is)
        | false ↦ λ _. refl
      ] refl
      ∙ st.untouched q w

  changed-bodies : (q : ℕ) → complete_body (get ys q) ≡ (if k == q then option_map (altered_body f) (complete q es) else complete q es)
  changed-bodies q =
      ap complete_body (set q)
      ∙ elim (k == q) as (λ b. (k == q) ≡ b → complete_body (cond b (changed_slot f (get s.slots k)) (get s.slots q)) ≡ (if b then option_map (altered_body f) (complete q es) else complete q es)) [
        | true ↦ λ is. altered-slot f (get s.slots k) ∙ ap (option_map (altered_body f)) (ap (λ j. complete_body (get s.slots j)) (eqb-true k q is) ∙ st.bodies q)
        | false ↦ λ _. st.bodies q
      ] refl

  still-filled : (q : ℕ) (x : Slot) → get ys q ≡ Some x → is_idle x ≡ false
  still-filled = filled-at s.slots ys k (changed_slot f (get s.slots k)) set (λ z e. changed-filled f (get s.slots k) z (st.filled k) e) st.filled

pub state-expire : (es : List Event) (n : ℕ → ℕ) (s : Store) (k t : ℕ) → IsTidy es → IsState es n s → IsState (Expire k t ∷ es) n (meta_changed (expired_at t) s k)
state-expire es n s k t tidy st = record {
  next = st.next;
  writes = st.writes;
  untouched = changed-untouched es n s k (expired_at t) st;
  bodies = λ q. changed-bodies es n s k (expired_at t) st q ∙ sym (complete-expire es k t tidy q);
  filled = still-filled es n s k (expired_at t) st;
  known = st.known;
  newest = st.newest;
}

pub state-renew : (es : List Event) (n : ℕ → ℕ) (s : Store) (k : ℕ) (m : Meta) → IsTidy es → IsState es n s → IsState (Renew k m ∷ es) n (meta_set m s k)
state-renew es n s k m tidy st = record {
  next = st.next;
  writes = st.writes;
  untouched = changed-untouched es n s k (λ old. in_place_of old m) st;
  bodies = λ q. changed-bodies es n s k (λ old. in_place_of old m) st q ∙ sym (complete-renew es k m tidy q);
  filled = still-filled es n s k (λ old. in_place_of old m) st;
  known = st.known;
  newest = st.newest;
}
