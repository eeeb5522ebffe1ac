-- What is complete in a store after a call: no more than before, and with the same bytes.
use Rattle.std.proofs.lemmas.Bool.Decides.{nat_tests}
use Rattle.pcache_store.specs.Store.{opened_in, slot_or_new, slot_without, write_gone_on, write_purged}
use Rattle.pcache_cache.proofs.Words.{◌≡◌, ℕ, ◌==◌, Bool, true, false, cond, Option, None, Some, length, refl, ap, sym, subst, ◌∙◌, arith, nat_cmp, eq_by_cmp, nat_cmp_total, FinMap, get, insert, remove, get-insert, get-remove, eqb-true, Key, slot, Meta, begun_for, dropped_by, left_by, header_written, purged_at, Store, Slot, Stored, Reader, Whole, Part, complete_body, begun, dropped, dropped_on, followed, followed_by, has_body_of, is_idle, left, meta_changed, meta_changed_in, meta_changed_on, shut, shut_on, with_meta, with_slot, body_weight, weight_of, Weighing}

-- the two tests of numbers agree
pub cmp_same : (q w : ℕ) → eq_by_cmp nat_cmp q w ≡ (w == q)
cmp_same q w = grind (arith, nat_tests)

pub same-key : (q k : ℕ) → eq_by_cmp nat_cmp q k ≡ true → q ≡ k
same-key q k t = sym (eqb-true k q (sym (cmp_same q k) ∙ t))

pub body-insert : (xs : FinMap nat_cmp Slot) (k q : ℕ) (x : Slot) → complete_body (get (insert xs k x) q) ≡ cond (eq_by_cmp nat_cmp q k) x.body (complete_body (get xs q))
body-insert xs k q x = ap complete_body (get-insert nat_cmp_total xs k x q) ∙ elim (eq_by_cmp nat_cmp q k) as (λ b. complete_body (cond b (Some x) (get xs q)) ≡ cond b x.body (complete_body (get xs q))) [ true ↦ refl | false ↦ refl ]

pub body-remove : (xs : FinMap nat_cmp Slot) (k q : ℕ) → complete_body (get (remove xs k) q) ≡ cond (eq_by_cmp nat_cmp q k) None (complete_body (get xs q))
body-remove xs k q = ap complete_body (get-remove nat_cmp_total xs k q) ∙ elim (eq_by_cmp nat_cmp q k) as (λ b. complete_body (cond b None (get xs q)) ≡ cond b None (complete_body (get xs q))) [ true ↦ refl | false ↦ refl ]

pub new-body : (o : Option Slot) → (slot_or_new o).body ≡ complete_body o
new-body None = refl
new-body (Some x) = refl

-- ---- what leaves the slots as they are

pub slots-left : (s : Store) (r : Reader) → (left s r).slots ≡ s.slots
slots-left s (Whole id body start stop done) = refl
slots-left s (Part n place) = refl

pub slots-left_by : (s : Store) (o : Option Reader) → (left_by o s).slots ≡ s.slots
slots-left_by s None = refl
slots-left_by s (Some r) = slots-left s r

slots-followed_by : (s : Store) (r : Reader) → (followed_by s r).slots ≡ s.slots
slots-followed_by s (Whole id body start stop done) = refl
slots-followed_by s (Part n place) = refl

pub slots-followed : (s : Store) (p : Option (Meta × Reader)) → (followed s p).slots ≡ s.slots
slots-followed s None = refl
slots-followed s (Some p) = slots-followed_by s p.1

module _ (wg : Weighing) where
  -- a body that is complete under a key, with these bytes, of the same write and with the same weight
  abbrev pub Stands : FinMap nat_cmp Slot → ℕ → Stored → Type 0
  Stands xs k b = (a : Stored) × (complete_body (get xs k) ≡ Some a) × (a.bytes ≡ b.bytes) × (a.meta.entry_id ≡ b.meta.entry_id) × (body_weight wg a ≡ body_weight wg b)

  -- what is complete under a key of ys is so in xs, with the same bytes
  abbrev pub Fewer : FinMap nat_cmp Slot → FinMap nat_cmp Slot → Type 0
  Fewer xs ys = (k : ℕ) (b : Stored) → complete_body (get ys k) ≡ Some b → Stands xs k b

  pub fewer-same : (xs : FinMap nat_cmp Slot) → Fewer xs xs
  fewer-same xs k b is = (b, is, refl, refl, refl)

  pub fewer-then : (xs ys zs : FinMap nat_cmp Slot) → Fewer xs ys → Fewer ys zs → Fewer xs zs
  fewer-then xs ys zs f g k b is = let p = g k b is in let q = f k p.0 p.1 in (q.0, q.1, q.2 ∙ p.2, q.3 ∙ p.3, q.4 ∙ p.4)

  fewer-insert : (xs : FinMap nat_cmp Slot) (k : ℕ) (x : Slot) → ((b : Stored) → x.body ≡ Some b → Stands xs k b) → Fewer xs (insert xs k x)
  fewer-insert xs k x f q b is =
      elim (eq_by_cmp nat_cmp q k) as (λ t. eq_by_cmp nat_cmp q k ≡ t → cond t x.body (complete_body (get xs q)) ≡ Some b → Stands xs q b) [
        | true ↦ λ t e. subst (λ y. Stands xs y b) (sym (same-key q k t)) (f b e)
        | false ↦ λ t e. (b, e, refl, refl, refl)
      ] refl (sym (body-insert xs k q x) ∙ is)

  pub fewer-remove : (xs : FinMap nat_cmp Slot) (k : ℕ) → Fewer xs (remove xs k)
  fewer-remove xs k q b is =
      elim (eq_by_cmp nat_cmp q k) as (λ t. cond t None (complete_body (get xs q)) ≡ Some b → Stands xs q b) [
        | true ↦ λ e. absurd (cc)
        | false ↦ λ e. (b, e, refl, refl, refl)
      ] (sym (body-remove xs k q) ∙ is)

  -- ---- each change of a store

  pub fewer-begun : (s : Store) (k : ℕ) (m : Meta) → Fewer s.slots (begun s k m).slots
  fewer-begun s k m = fewer-insert s.slots k (opened_in (slot_or_new (get s.slots k)) s.next) (λ b e. (b, sym (new-body (get s.slots k)) ∙ e, refl, refl, refl))

  fewer-slot : (xs : FinMap nat_cmp Slot) (k : ℕ) (x : Slot) → ((b : Stored) → x.body ≡ Some b → Stands xs k b) → Fewer xs (with_slot xs k x)
  fewer-slot xs k x f = elim (is_idle x) as (λ t. Fewer xs (cond t (remove xs k) (insert xs k x))) [ true ↦ fewer-remove xs k | false ↦ fewer-insert xs k x f ]

  fewer-shut : (xs : FinMap nat_cmp Slot) (k n : ℕ) → Fewer xs (shut xs k n)
  fewer-shut xs k n =
      elim (get xs k) as (λ o. get xs k ≡ o → Fewer xs (shut_on xs k n o)) [
        | None ↦ λ is. fewer-same xs
        | Some x ↦ λ is. fewer-slot xs k (record x { untouched = remove x.untouched n }) (λ b e. (b, ap complete_body is ∙ e, refl, refl, refl))
      ] refl

  pub fewer-dropped : (s : Store) (n : ℕ) → Fewer s.slots (dropped s n).slots
  fewer-dropped s n =
      elim (get s.writes n) as (λ o. Fewer s.slots (dropped_on s n o).slots) [
        | None ↦ fewer-same s.slots
        | Some w ↦ fewer-shut s.slots w.slot n
      ]

  pub fewer-dropped_by : (s : Store) (o : Option ℕ) → Fewer s.slots (dropped_by o s).slots
  fewer-dropped_by s None = fewer-same s.slots
  fewer-dropped_by s (Some n) = fewer-dropped s n

  -- a meta that keeps its number and its head replaces another
  pub fewer-changed : (f : Meta → Meta) → ((m : Meta) → (f m).entry_id ≡ m.entry_id) → ((m : Meta) → (f m).header ≡ m.header) → (s : Store) (k : ℕ) → Fewer s.slots (meta_changed f s k).slots
  fewer-changed f keeps head s k =
      elim (get s.slots k) as (λ o. get s.slots k ≡ o → Fewer s.slots (meta_changed_on f s.slots k o)) [
        | None ↦ λ is. fewer-same s.slots
        | Some x ↦ λ is. elim x.body as (λ c. x.body ≡ c → Fewer s.slots (meta_changed_in f s.slots k x c)) [
          | None ↦ λ none. fewer-same s.slots
          | Some a ↦ λ some. fewer-insert s.slots k (with_meta f x (Some a)) (λ b e. let same : record a { meta = f a.meta } ≡ b = cc in (a, ap complete_body is ∙ some, ap (λ (y : Stored). y.bytes) same, sym (keeps a.meta) ∙ ap (λ (y : Stored). y.meta.entry_id) same, ap (λ h. weight_of wg (length a.bytes, length (header_written h))) (sym (head a.meta)) ∙ ap (body_weight wg) same))
        ] refl
      ] refl

  pub fewer-purged_at : (s : Store) (o : Option ℕ) → Fewer s.slots (purged_at s o).slots
  fewer-purged_at s None = fewer-same s.slots
  fewer-purged_at s (Some k) = fewer-remove s.slots k

  -- a write goes, and its body if it is complete
  pub fewer-write_purged : (s : Store) (k n : ℕ) → Fewer s.slots (write_purged s k n).slots
  fewer-write_purged s k n =
      elim (get s.slots k) as (λ o. get s.slots k ≡ o → Fewer s.slots (write_gone_on s.slots k n o)) [
        | None ↦ λ is. fewer-same s.slots
        | Some x ↦ λ is. fewer-slot s.slots k (slot_without n x) (λ b e. (b, ap complete_body is ∙ stays (has_body_of n x.body) x.body b e, refl, refl, refl))
      ] refl
    where
      stays : (t : Bool) (o : Option Stored) (b : Stored) → cond t None o ≡ Some b → o ≡ Some b
      stays true o b e = absurd (cc)
      stays false o b e = e

  pub fewer-slots : (s t : Store) → t.slots ≡ s.slots → Fewer s.slots t.slots
  fewer-slots s t same = subst (λ xs. Fewer s.slots xs) (sym same) (fewer-same s.slots)

  -- ---- a request's write begins

  pub fewer-begun_for : (k : Option Key) (m : Option Meta) (s : Store) → Fewer s.slots (begun_for k m s).slots
  fewer-begun_for None m s = fewer-same s.slots
  fewer-begun_for (Some k) None s = fewer-same s.slots
  fewer-begun_for (Some k) (Some m) s = fewer-begun s (slot k) m
