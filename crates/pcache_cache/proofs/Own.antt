-- A request's own write stays its own: what a look-up and a begin leave of a request, and of the write.
use Rattle.std.proofs.Common.{IsSome, ◌++◌}
use Rattle.std.proofs.lemmas.Bool.{or_left, and_from}
use Rattle.pcache_meta.specs.Meta.{numbered}
use Rattle.pcache_request.specs.Requests.{with_lock, writing, HasKey, MayWrite}
use Rattle.pcache_request.specs.Phases.{IsFilling}
use Rattle.pcache_request.specs.declared.phase.CachePhase.{CachePhase}
use Rattle.pcache_request.specs.Variants.{looked_for, with_key_lock}
use Rattle.pcache_store.specs.Store.{Written, is_named, followed_on, kept, left_on, new_write, wrote, wrote_on}
use Rattle.pcache_cache.proofs.Words.{◌≡◌, ℕ, ◌+◌, ◌-◌, nat_eq, Bool, true, false, cond, Option, None, Some, List, Result, Ok, Err, refl, ap, sym, subst, ◌∙◌, OnErr, OnOk, nat_cmp, eq_by_cmp, is_eq, nat_cmp_total, tied_itself, FinMap, get, insert, remove, get-insert, get-remove, option_eq, both_ways, eq-eqb, Key, slot, Locks, Locked, Meta, Request, begun_for, followed_for, left_by, store_writing, is_unseen_for, Store, Reader, Whole, Part, begun, followed, followed_by, is_write_under, left, MayEnd, is_own_write}
use Rattle.pcache_request.specs.declared.phase.CachePhase.TheVariants as phase
use Rattle.pcache_cache.proofs.Standing.{same-key}

-- ---- what does not look at the lock that is held stays over a look-up

module _ {A : Type 0} (f : Request → A) (blind : (r : Request) (h : Option Locked) → f (record r { held = h }) ≡ f r) where
  locked : (stale : Bool) (t : Locks) (k : Option Key) (r : Request) → f (with_lock stale t k r) ≡ f r
  locked stale t None r = refl
  locked stale t (Some k) r = blind r _

  key-locked : (b : Bool) (t : Locks) (r : Request) → f (cond b (with_lock false t r.key r) r) ≡ f r
  key-locked true t r = locked false t r.key r
  key-locked false t r = refl

  unseen : (b : Bool) (t : Locks) (r : Request) → f (cond b (with_key_lock t r) r) ≡ f r
  unseen true t r = key-locked r.uses.lock t r
  unseen false t r = refl

  pub looked : (s : Store) (t : Locks) (r : Request) → f (looked_for s t r) ≡ f r
  looked s t r = unseen (is_unseen_for s r) t r

pub looked_phase : (s : Store) (t : Locks) (r : Request) → (looked_for s t r).phase ≡ r.phase
looked_phase s t r = looked (λ x. x.phase) (λ x h. refl) s t r

pub looked_uses : (s : Store) (t : Locks) (r : Request) → (looked_for s t r).uses ≡ r.uses
looked_uses s t r = looked (λ x. x.uses) (λ x h. refl) s t r

-- ---- a write in flight of a key stays one

abbrev pub Flies : FinMap nat_cmp Written → ℕ → ℕ → Type 0
Flies ws n k = (w : Written) × (get ws n ≡ Some w) × (w.flying ≡ true) × (w.slot ≡ k) × (w.meta.entry_id ≡ Some n)

here : (ws : FinMap nat_cmp Written) (n : ℕ) (w : Written) → get (insert ws n w) n ≡ Some w
here ws n w = get-insert nat_cmp_total ws n w n ∙ ap (λ r. cond (is_eq r) (Some w) (get ws n)) (tied_itself nat_cmp_total n)

pub flies-begun : (s : Store) (k : ℕ) (m : Meta) → Flies (begun s k m).writes s.next k
flies-begun s k m = let w = new_write k (numbered s.next m) in (w, here s.writes s.next w, refl, refl, refl)

-- another write's record, or its own with other readers
flies-insert : (ws : FinMap nat_cmp Written) (n k j : ℕ) (x : Written) → Flies ws n k → (get ws j ≡ Some x) → (y : Written) → y.flying ≡ x.flying → y.slot ≡ x.slot → y.meta ≡ x.meta → Flies (insert ws j y) n k
flies-insert ws n k j x own at y flying of meta =
    elim (eq_by_cmp nat_cmp n j) as (λ b. eq_by_cmp nat_cmp n j ≡ b → Flies (insert ws j y) n k) [
      | true ↦ λ t.
          let same : x ≡ own.0 = some_same x own.0 (sym at ∙ ap (get ws) (sym (same-key n j t)) ∙ own.1) in
          (y, get-insert nat_cmp_total ws j y n ∙ ap (λ b. cond b (Some y) (get ws n)) t, flying ∙ ap (λ (w : Written). w.flying) same ∙ own.2, of ∙ ap (λ (w : Written). w.slot) same ∙ own.3, ap (λ (m : Meta). m.entry_id) meta ∙ ap (λ (w : Written). w.meta.entry_id) same ∙ own.4)
      | false ↦ λ t. (own.0, get-insert nat_cmp_total ws j y n ∙ ap (λ b. cond b (Some y) (get ws n)) t ∙ own.1, own.2, own.3, own.4)
    ] refl
  where
    some_same : (a b : Written) → ◌≡◌ {A = Option Written} (Some a) (Some b) → a ≡ b
    some_same a b e = cc

flies-joined : (ws : FinMap nat_cmp Written) (n k j : ℕ) → Flies ws n k → Flies (followed_on ws j (get ws j)) n k
flies-joined ws n k j own =
    elim (get ws j) as (λ o. get ws j ≡ o → Flies (followed_on ws j o) n k) [
      | None ↦ λ is. own
      | Some x ↦ λ is. flies-insert ws n k j x own is (record x { readers = x.readers + 1 }) refl refl refl
    ] refl

flies-followed : (s : Store) (n k : ℕ) (p : Option (Meta × Reader)) → Flies s.writes n k → Flies (followed s p).writes n k
flies-followed s n k None own = own
flies-followed s n k (Some p) own = by p.1
  where
    by : (r : Reader) → Flies (followed_by s r).writes n k
    by (Whole id body start stop done) = own
    by (Part j place) = flies-joined s.writes n k j own

flies-kept : (ws : FinMap nat_cmp Written) (n k j : ℕ) (x y : Written) → Flies ws n k → get ws j ≡ Some x → y.flying ≡ x.flying → y.slot ≡ x.slot → y.meta ≡ x.meta → Flies (kept ws j y) n k
flies-kept ws n k j x y own at flying of meta =
    elim (is_named y) as (λ b. is_named y ≡ b → Flies (cond b (insert ws j y) (remove ws j)) n k) [
      | true ↦ λ named. flies-insert ws n k j x own at y flying of meta
      | false ↦ λ none.
          elim (eq_by_cmp nat_cmp n j) as (λ b. eq_by_cmp nat_cmp n j ≡ b → Flies (remove ws j) n k) [
            | true ↦ λ t.
                let same : x ≡ own.0 = some_same x own.0 (sym at ∙ ap (get ws) (sym (same-key n j t)) ∙ own.1) in
                let flies : y.flying ≡ true = flying ∙ ap (λ (w : Written). w.flying) same ∙ own.2 in
                absurd (both_ways _ none (or_left _ _ flies))
            | false ↦ λ t. (own.0, get-remove nat_cmp_total ws j n ∙ ap (λ b. cond b None (get ws n)) t ∙ own.1, own.2, own.3, own.4)
          ] refl
    ] refl
  where
    some_same : (a b : Written) → ◌≡◌ {A = Option Written} (Some a) (Some b) → a ≡ b
    some_same a b e = cc

flies-left : (s : Store) (n k : ℕ) (r : Reader) → Flies s.writes n k → Flies (left s r).writes n k
flies-left s n k (Whole id body start stop done) own = own
flies-left s n k (Part j place) own =
    elim (get s.writes j) as (λ o. get s.writes j ≡ o → Flies (left_on s.writes j o) n k) [
      | None ↦ λ is. own
      | Some x ↦ λ is. flies-kept s.writes n k j x (record x { readers = x.readers - 1 }) own is refl refl refl
    ] refl

flies-left_by : (s : Store) (n k : ℕ) (o : Option Reader) → Flies s.writes n k → Flies (left_by o s).writes n k
flies-left_by s n k None own = own
flies-left_by s n k (Some r) own = flies-left s n k r own

pub flies-under : (s : Store) (n k : ℕ) → Flies s.writes n k → is_write_under k n (get s.writes n) ≡ true
flies-under s n k own = ap (is_write_under k n) own.1 ∙ and_from _ _ (eq-eqb own.0.slot k own.3) (ap (λ o. option_eq nat_eq o (Some n)) own.4 ∙ eq-eqb n n refl)

-- the write that a request begins is its own
pub writing_own : (r : Request) (s : Store) (key : Option Key) (meta : Option Meta) → r.key ≡ key → r.meta ≡ meta → IsSome key → IsSome meta → is_own_write (store_writing true s.next r s) key (Some s.next) ≡ true
writing_own r s None meta is of has_key has_meta = absurd (cc)
writing_own r s (Some k) None is of has_key has_meta = absurd (cc)
writing_own r s (Some k) (Some m) is of has_key has_meta =
    let begins : begun_for r.key r.meta s ≡ begun s (slot k) m = λ i. begun_for (is i) (of i) s in
    let first : Flies (begun_for r.key r.meta s).writes s.next (slot k) = subst (λ (t : Store). Flies t.writes s.next (slot k)) (sym begins) (flies-begun s (slot k) m) in
    let t = begun_for r.key r.meta s in
    flies-under (store_writing true s.next r s) s.next (slot k) (flies-left_by (followed t (followed_for r.key s.next t)) s.next (slot k) r.reader (flies-followed t s.next (slot k) (followed_for r.key s.next t) first))

-- more bytes leave a write its own
wrote-under : (k w : ℕ) (s : Store) (bytes : List ℕ) (eof : Bool) → is_write_under k w (get s.writes w) ≡ true → is_write_under k w (get (wrote s w bytes eof).writes w) ≡ true
wrote-under k w s bytes eof own =
    elim (get s.writes w) as (λ o. get s.writes w ≡ o → is_write_under k w o ≡ true → is_write_under k w (get (wrote_on s.writes w bytes eof o) w) ≡ true) [
      | None ↦ λ is no. absurd (cc)
      | Some x ↦ λ is yes. ap (is_write_under k w) (here s.writes w (record x { bytes = x.bytes ++ bytes; told = eof })) ∙ yes
    ] refl own

pub wrote-own : (s : Store) (key : Option Key) (w : ℕ) (bytes : List ℕ) (eof : Bool) → is_own_write s key (Some w) ≡ true → is_own_write (wrote s w bytes eof) key (Some w) ≡ true
wrote-own s None w bytes eof own = own
wrote-own s (Some k) w bytes eof own = wrote-under (slot k) w s bytes eof own

-- a request that fills has a key
filling-key : (p : CachePhase) (k : Option Key) → IsFilling p → HasKey p k → IsSome k
filling-key phase.Miss k fills has = has
filling-key phase.Expired k fills has = has
filling-key (phase.Disabled r) k fills has = absurd fills
filling-key phase.Uninit k fills has = absurd fills
filling-key phase.Bypass k fills has = absurd fills
filling-key phase.CacheKey k fills has = absurd fills
filling-key phase.Hit k fills has = absurd fills
filling-key phase.Stale k fills has = absurd fills
filling-key phase.StaleUpdating k fills has = absurd fills
filling-key phase.Revalidated k fills has = absurd fills
filling-key (phase.RevalidatedNoCache r) k fills has = absurd fills

-- a begin that does not fail
pub beginning_own : {A E : Type 0} (r r' : Request) (s t : Store) (result : Result A E) → MayWrite r → HasKey r.phase r.key → r.uses.eviction ≡ true
    → OnOk result (r' ≡ writing true s.next (Some s.next) (begun_for r.key r.meta s) r) → OnOk result (t ≡ store_writing true s.next r s) → OnOk result (MayEnd t r')
beginning_own r r' s t (Err e) may has uses request store = tt
beginning_own r r' s t (Ok a) may has uses request store = subst (λ x. MayEnd t x) (sym request) (subst (λ x. MayEnd x (writing true s.next (Some s.next) (begun_for r.key r.meta s) r)) (sym store) (record {
  uses = uses;
  own = writing_own r s r.key r.meta refl refl (filling-key r.phase r.key may.0 has) may.1;
}))

-- adding bytes, which may fail, leaves it so
pub body_own : {A E : Type 0} (s t : Store) (key : Option Key) (write : Option ℕ) (n m : ℕ) (bytes : List ℕ) (eof : Bool) (result : Result A E) → Some n ≡ write → m ≡ n
    → OnOk result (t ≡ wrote s n bytes eof) → OnErr result (t ≡ s) → is_own_write s key write ≡ true → is_own_write t key (Some m) ≡ true
body_own s t key write n m bytes eof (Ok a) is same ok err own =
    subst (λ x. is_own_write t key (Some x) ≡ true) (sym same) (subst (λ u. is_own_write u key (Some n) ≡ true) (sym ok) (wrote-own s key n bytes eof (subst (λ o. is_own_write s key o ≡ true) (sym is) own)))
body_own s t key write n m bytes eof (Err e) is same ok err own =
    subst (λ x. is_own_write t key (Some x) ≡ true) (sym same) (subst (λ u. is_own_write u key (Some n) ≡ true) (sym err) (subst (λ o. is_own_write s key o ≡ true) (sym is) own))
