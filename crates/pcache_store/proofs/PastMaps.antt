-- The records and slots of a store after one of them was set, changed or removed.
use Rattle.std.proofs.Common.{is_some}
use Rattle.pcache_store.proofs.Words.{◌≡◌, ℕ, ◌==◌, true, false, cond, Option, None, Some, is_none, refl, ap, sym, ◌∙◌, arith, nat_cmp, eq_by_cmp, nat_cmp_total, FinMap, get, insert, remove, contains_key, len, get-empty, get-insert, get-remove, empty_of_len, eqb-true, and_parts, nat_tests, Slot, Stored, Written, is_named, kept, is_untouched_in, is_idle, complete_body, with_slot, slot_or_new, shut_on, shut, body_without, slot_without, write_gone_on}

-- the two tests of numbers agree
cmp_same : (q w : ℕ) → eq_by_cmp nat_cmp q w ≡ (w == q)
cmp_same q w = grind (arith, nat_tests)

pub same-number : (w : ℕ) → (w == w) ≡ true
same-number w = grind (arith, nat_tests)

-- One value set or removed.

pub get-set : {X : Type 0} (m : FinMap nat_cmp X) (w : ℕ) (v : X) (q : ℕ) → get (insert m w v) q ≡ cond (w == q) (Some v) (get m q)
get-set m w v q = get-insert nat_cmp_total m w v q ∙ ap (λ b. cond b (Some v) (get m q)) (cmp_same q w)

pub get-unset : {X : Type 0} (m : FinMap nat_cmp X) (w : ℕ) (q : ℕ) → get (remove m w) q ≡ cond (w == q) None (get m q)
get-unset m w q = get-remove nat_cmp_total m w q ∙ ap (λ b. cond b None (get m q)) (cmp_same q w)

pub get-kept : (ws : FinMap nat_cmp Written) (w : ℕ) (v : Written) (q : ℕ) → get (kept ws w v) q ≡ cond (w == q) (cond (is_named v) (Some v) None) (get ws q)
get-kept ws w v q = elim (is_named v) as (λ b. get (cond b (insert ws w v) (remove ws w)) q ≡ cond (w == q) (cond b (Some v) None) (get ws q)) [ true ↦ get-set ws w v q | false ↦ get-unset ws w q ]

-- Slots that hold nothing.

no-keys : {X : Type 0} (m : FinMap nat_cmp X) → (len m == 0) ≡ true → (q : ℕ) → contains_key m q ≡ false
no-keys m e q = ap (λ (x : FinMap nat_cmp _). is_some (get x q)) (empty_of_len m (eqb-true (len m) 0 e)) ∙ ap is_some (get-empty nat_cmp q)

no-body : (o : Option Stored) → is_none o ≡ true → o ≡ None
no-body None e = refl
no-body (Some b) e = cc

-- a slot as it stays: removed if it holds nothing
abbrev pub tidied : Slot → Option Slot
tidied y = cond (is_idle y) None (Some y)

pub tidied-body : (y : Slot) → complete_body (tidied y) ≡ y.body
tidied-body y = elim (is_idle y) as (λ t. is_idle y ≡ t → complete_body (cond t None (Some y)) ≡ y.body) [ true ↦ λ e. sym (no-body y.body (and_parts _ _ e).0) | false ↦ λ _. refl ] refl

pub tidied-untouched : (y : Slot) (q : ℕ) → is_untouched_in q (tidied y) ≡ contains_key y.untouched q
tidied-untouched y q = elim (is_idle y) as (λ t. is_idle y ≡ t → is_untouched_in q (cond t None (Some y)) ≡ contains_key y.untouched q) [ true ↦ λ e. sym (no-keys y.untouched (and_parts _ _ e).1 q) | false ↦ λ _. refl ] refl

pub get-with_slot : (xs : FinMap nat_cmp Slot) (k : ℕ) (y : Slot) (q : ℕ) → get (with_slot xs k y) q ≡ cond (k == q) (tidied y) (get xs q)
get-with_slot xs k y q = elim (is_idle y) as (λ b. get (cond b (remove xs k) (insert xs k y)) q ≡ cond (k == q) (cond b None (Some y)) (get xs q)) [ true ↦ get-unset xs k q | false ↦ get-set xs k y q ]

-- a slot without the number of a write
abbrev pub cut : ℕ → Slot → Slot
cut w x = record x { untouched = remove x.untouched w }

abbrev pub cut_of : ℕ → Option Slot → Option Slot
cut_of w None = None
cut_of w (Some x) = tidied (cut w x)

pub get-shut : (xs : FinMap nat_cmp Slot) (k w q : ℕ) → get (shut xs k w) q ≡ cond (k == q) (cut_of w (get xs k)) (get xs q)
get-shut xs k w q =
    elim (get xs k) as (λ o. get xs k ≡ o → get (shut_on xs k w o) q ≡ cond (k == q) (cut_of w o) (get xs q)) [
      | None ↦ λ e. elim (k == q) as (λ b. (k == q) ≡ b → get xs q ≡ cond b None (get xs q)) [ true ↦ λ t. ap (get xs) (sym (eqb-true k q t)) ∙ e | false ↦ λ _. refl ] refl
      | Some x ↦ λ _. get-with_slot xs k (cut w x) q
    ] refl

pub gone-key : {X : Type 0} (m : FinMap nat_cmp X) (w q : ℕ) → contains_key (remove m w) q ≡ cond (w == q) false (contains_key m q)
gone-key m w q = ap is_some (get-unset m w q) ∙ elim (w == q) as (λ b. is_some (cond b None (get m q)) ≡ cond b false (contains_key m q)) [ true ↦ refl | false ↦ refl ]

pub new-key : {X : Type 0} (m : FinMap nat_cmp X) (w : ℕ) (v : X) (q : ℕ) → contains_key (insert m w v) q ≡ cond (w == q) true (contains_key m q)
new-key m w v q = ap is_some (get-set m w v q) ∙ elim (w == q) as (λ b. is_some (cond b (Some v) (get m q)) ≡ cond b true (contains_key m q)) [ true ↦ refl | false ↦ refl ]

pub cut-untouched : (w : ℕ) (o : Option Slot) (q : ℕ) → is_untouched_in q (cut_of w o) ≡ cond (w == q) false (is_untouched_in q o)
cut-untouched w None q = elim (w == q) as (λ b. false ≡ cond b false false) [ true ↦ refl | false ↦ refl ]
cut-untouched w (Some x) q = tidied-untouched (cut w x) q ∙ gone-key x.untouched w q

pub cut-body : (w : ℕ) (o : Option Slot) → complete_body (cut_of w o) ≡ complete_body o
cut-body w None = refl
cut-body w (Some x) = tidied-body (cut w x)

-- One slot changed.

pub bodies-at : (xs ys : FinMap nat_cmp Slot) (at : ℕ) (o : Option Slot) → ((k : ℕ) → get ys k ≡ cond (at == k) o (get xs k)) → complete_body o ≡ complete_body (get xs at) → (k : ℕ) → complete_body (get ys k) ≡ complete_body (get xs k)
bodies-at xs ys at o set same k =
    ap complete_body (set k) ∙ elim (at == k) as (λ b. (at == k) ≡ b → complete_body (cond b o (get xs k)) ≡ complete_body (get xs k)) [
      | true ↦ λ t. same ∙ ap (λ j. complete_body (get xs j)) (eqb-true at k t)
      | false ↦ λ _. refl
    ] refl

-- A new slot.

pub new-untouched : (o : Option Slot) (q : ℕ) → contains_key (slot_or_new o).untouched q ≡ is_untouched_in q o
new-untouched None q = ap is_some (get-empty nat_cmp q)
new-untouched (Some x) q = refl

pub new-body : (o : Option Slot) → (slot_or_new o).body ≡ complete_body o
new-body None = refl
new-body (Some x) = refl

-- One write of a key removed.

-- a slot without a write
abbrev pub lost_of : ℕ → Option Slot → Option Slot
lost_of m None = None
lost_of m (Some x) = tidied (slot_without m x)

pub get-lost : (xs : FinMap nat_cmp Slot) (j m q : ℕ) → get (write_gone_on xs j m (get xs j)) q ≡ cond (j == q) (lost_of m (get xs j)) (get xs q)
get-lost xs j m q =
    elim (get xs j) as (λ o. get xs j ≡ o → get (write_gone_on xs j m o) q ≡ cond (j == q) (lost_of m o) (get xs q)) [
      | None ↦ λ e. elim (j == q) as (λ b. (j == q) ≡ b → get xs q ≡ cond b None (get xs q)) [ true ↦ λ t. ap (get xs) (sym (eqb-true j q t)) ∙ e | false ↦ λ _. refl ] refl
      | Some x ↦ λ _. get-with_slot xs j (slot_without m x) q
    ] refl

pub lost-untouched : (m : ℕ) (o : Option Slot) (w : ℕ) → is_untouched_in w (lost_of m o) ≡ cond (m == w) false (is_untouched_in w o)
lost-untouched m None w = elim (m == w) as (λ b. false ≡ cond b false false) [ true ↦ refl | false ↦ refl ]
lost-untouched m (Some x) w = tidied-untouched (slot_without m x) w ∙ gone-key x.untouched m w

pub lost-body : (m : ℕ) (o : Option Slot) → complete_body (lost_of m o) ≡ body_without m (complete_body o)
lost-body m None = refl
lost-body m (Some x) = tidied-body (slot_without m x)
