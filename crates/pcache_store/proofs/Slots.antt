-- Slots that were changed in place.
use Rattle.pcache_store.proofs.Words.{◌≡◌, ◌+◌, ℕ, true, false, Option, None, Some, Result, Ok, Err, OnErr, ◌∙◌, sym, ap, cond, refl, nat_cmp, FinMap, get, insert, remove, Meta, get-insert-at, get-remove-at, one_if_some, Slot, Stored, is_idle, with_slot, opened_in, opened, slot_or_new, shut_on, slot_without, write_gone_on, stored_on, with_meta, meta_changed_in, meta_changed_on}
use Rattle.pcache_store.proofs.Maps.{insert_same, remove-insert}

-- what holds in any case holds if a call fails
pub on_err : {A E P : Type 0} (r : Result A E) → P → OnErr r P
on_err (Ok a) p = tt
on_err (Err e) p = p

module _ (xs : FinMap nat_cmp Slot) (k : ℕ) (x v : Slot) (m : FinMap nat_cmp Slot) (is : Some x ≡ get xs k) (set : m ≡ insert xs k v) where
  pub opened_there : (n : ℕ) → v ≡ opened_in x n → m ≡ opened xs k n
  opened_there n e = set ∙ ap (insert xs k) e ∙ ap (λ o. insert xs k (opened_in (slot_or_new o) n)) is

  pub same_slot : v ≡ x → m ≡ xs
  same_slot e = set ∙ ap (insert xs k) e ∙ insert_same xs k x is

  pub shut_there : (n : ℕ) → v ≡ record x { untouched = remove x.untouched n } → is_idle v ≡ false → m ≡ shut_on xs k n (get xs k)
  shut_there n e busy = set ∙ ap (λ b. cond b (remove xs k) (insert xs k v)) (sym busy) ∙ ap (with_slot xs k) e ∙ ap (shut_on xs k n) is

  pub shut_gone : (n : ℕ) (r : FinMap nat_cmp Slot) → v ≡ record x { untouched = remove x.untouched n } → is_idle v ≡ true → r ≡ remove m k → r ≡ shut_on xs k n (get xs k)
  shut_gone n r e idle out = out ∙ ap (λ y. remove y k) set ∙ remove-insert xs k v ∙ ap (λ b. cond b (remove xs k) (insert xs k v)) (sym idle) ∙ ap (with_slot xs k) e ∙ ap (shut_on xs k n) is

  pub lost_there : (n : ℕ) → v ≡ slot_without n x → is_idle v ≡ false → m ≡ write_gone_on xs k n (get xs k)
  lost_there n e busy = set ∙ ap (λ b. cond b (remove xs k) (insert xs k v)) (sym busy) ∙ ap (with_slot xs k) e ∙ ap (write_gone_on xs k n) is

  pub lost_out : (n : ℕ) (r : FinMap nat_cmp Slot) → v ≡ slot_without n x → is_idle v ≡ true → r ≡ remove m k → r ≡ write_gone_on xs k n (get xs k)
  lost_out n r e idle out = out ∙ ap (λ y. remove y k) set ∙ remove-insert xs k v ∙ ap (λ b. cond b (remove xs k) (insert xs k v)) (sym idle) ∙ ap (with_slot xs k) e ∙ ap (write_gone_on xs k n) is

  -- how many slots of the key there are, if it was changed in place, and if it was removed then
  found : Some v ≡ get m k
  found = sym (ap (λ x. get x k) set ∙ get-insert-at xs k v)

  pub one_stays : one_if_some (get m k) + 0 ≡ one_if_some (get xs k)
  one_stays = rw (← is, ← found) refl

  pub one_goes : (r : FinMap nat_cmp Slot) → r ≡ remove m k → one_if_some (get r k) + 1 ≡ one_if_some (get xs k)
  one_goes r out = rw (← is, out, get-remove-at m k) refl

  pub stored_there : (n : ℕ) (b : Stored) → v ≡ record { body = Some b; untouched = remove x.untouched n } → m ≡ stored_on xs k n b (get xs k)
  stored_there n b e = set ∙ ap (insert xs k) e ∙ ap (stored_on xs k n b) is

  changed_in : (f : Meta → Meta) (o : Option Stored) → v ≡ with_meta f x o → m ≡ meta_changed_in f xs k x o
  changed_in f None e = same_slot e
  changed_in f (Some b) e = set ∙ ap (insert xs k) e

  pub changed_there : (f : Meta → Meta) → v ≡ with_meta f x x.body → m ≡ meta_changed_on f xs k (get xs k)
  changed_there f e = changed_in f x.body e ∙ ap (meta_changed_on f xs k) is
