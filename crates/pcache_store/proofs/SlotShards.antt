-- Slots in shards as one map, after one table was changed at a key of its own.
use Rattle.std.specs.Prelude.{slice_get}
use Rattle.std.proofs.lemmas.Option.{get_or_from_slice_get}
use Rattle.pcache_table.specs.Sharding.{Part, Belongs, Placed, AllPlaced, one_map}
use Rattle.pcache_table.proofs.Sharded.{get-joined, insert-joined, remove-joined, all-set, part-joined, made-placed, made-empty, belongs-insert, belongs-remove}
use Rattle.pcache_store.proofs.Words.{◌≡◌, ◌%◌, ◌<◌, ◌≤◌, ◌^◌, ◌+◌, ◌-◌, ℕ, zero, suc, true, false, Option, None, Some, List, [], ◌∷◌, cond, refl, sym, ap, subst, ◌∙◌, arith, length, slice_set, slice_index_or, nat_cmp, FinMap, empty, get, insert, remove, len, len-empty, length-set, set-get_or, Meta, part_of, get-insert-at, get-remove-at, Slot, Stored, is_idle, with_slot, slot_or_new, opened_in, opened, shut_on, slot_without, write_gone_on, stored_on, with_meta, meta_changed_in, meta_changed_on, parts, AreShards, one_if_some}
use Rattle.pcache_store.proofs.Maps.{insert_len, remove_len}

abbrev Map : Type 0
Map = FinMap nat_cmp Slot

length-parts : (ms : List Map) (i : ℕ) → length (parts i ms) ≡ length ms
length-parts [] i = refl
length-parts (m ∷ ms) i = ap suc (length-parts ms (suc i))

abbrev part : ℕ → Map → Part Slot
part i m = record { place = i; map = m }

parts-at : (ms : List Map) (i j : ℕ) (d : Map) → j < length ms → slice_get (parts i ms) j ≡ Some (part (i + j) (slice_index_or ms j d))
parts-at [] i j d lt = absurd (omega (arith, lt))
parts-at (m ∷ ms) i zero d lt = ap (λ p. Some (part p m)) (let e : i ≡ i + 0 = omega arith in e)
parts-at (m ∷ ms) i (suc j) d lt = parts-at ms (suc i) j d (omega (arith, lt)) ∙ ap (λ p. Some (part p (slice_index_or ms j d))) (let e : suc i + j ≡ i + suc j = omega arith in e)

parts-set : (ms : List Map) (i j : ℕ) (m : Map) → parts i (slice_set ms j m) ≡ slice_set (parts i ms) j (part (i + j) m)
parts-set [] i j m = refl
parts-set (x ∷ ms) i zero m = ap (λ p. part p m ∷ parts (suc i) ms) (let e : i ≡ i + 0 = omega arith in e)
parts-set (x ∷ ms) i (suc j) m = ap (λ t. part i x ∷ t) (parts-set ms (suc i) j m ∙ ap (λ p. slice_set (parts (suc i) ms) j (part p m)) (let e : suc i + j ≡ i + suc j = omega arith in e))

-- one table changed at a key of its own: the whole map, and the number of keys
pub record Changed (ms : List Map) (key : ℕ) (x after : Map) : Type 0 where
  pub whole : one_map (parts 0 (slice_set ms (key % 16) x)) ≡ after
  pub placed : AllPlaced 16 (parts 0 (slice_set ms (key % 16) x))
  pub count : len after + one_if_some (get (one_map (parts 0 ms)) key) ≡ len (one_map (parts 0 ms)) + one_if_some (get x key)

module _ (ms : List Map) (key : ℕ) (d : Map) (long : length ms ≡ 16) (placed : AllPlaced 16 (parts 0 ms)) where
  within : key % 16 < length ms
  within = let lt : key % 16 < 16 = omega arith in omega arith

  at : slice_get (parts 0 ms) (key % 16) ≡ Some (part (0 + key % 16) (slice_index_or ms (key % 16) d))
  at = parts-at ms 0 (key % 16) d within

  own : Placed 16 (key % 16) (part (0 + key % 16) (slice_index_or ms (key % 16) d))
  own = placed (key % 16) (part (0 + key % 16) (slice_index_or ms (key % 16) d)) at

  size : length (parts 0 ms) ≡ 16
  size = length-parts ms 0 ∙ long

  -- the value of a key is in its table
  pub here : get (slice_index_or ms (key % 16) d) key ≡ get (one_map (parts 0 ms)) key
  here = sym (get-joined 16 (parts 0 ms) key (part (0 + key % 16) (slice_index_or ms (key % 16) d)) placed at)

  still : (x : Map) → Belongs 16 (key % 16) x → AllPlaced 16 (parts 0 (slice_set ms (key % 16) x))
  still x b = subst (AllPlaced 16) (sym (parts-set ms 0 (key % 16) x)) (all-set 16 (key % 16) (parts 0 ms) (part (0 + key % 16) x) (let s = size in let w = within in omega arith) placed (record { at = own.at; own = b }))

  changed-insert : (v : Slot) → Changed ms key (insert (slice_index_or ms (key % 16) d) key v) (insert (one_map (parts 0 ms)) key v)
  changed-insert v =
      let m = slice_index_or ms (key % 16) d in
      let now = get-insert-at m key v in
      let more = insert_len (one_map (parts 0 ms)) key v in
      let one : one_if_some (get (insert m key v) key) ≡ 1 = ap one_if_some now in
      record {
        whole = ap one_map (parts-set ms 0 (key % 16) (insert m key v)) ∙ insert-joined 16 (parts 0 ms) key v (part (0 + key % 16) m) (part (0 + key % 16) (insert m key v)) (omega arith) size placed at refl;
        placed = still (insert m key v) (belongs-insert 16 (key % 16) key v m refl own.own);
        count = omega arith;
      }

  changed-remove : Changed ms key (remove (slice_index_or ms (key % 16) d) key) (remove (one_map (parts 0 ms)) key)
  changed-remove =
      let m = slice_index_or ms (key % 16) d in
      let now = get-remove-at m key in
      let less = remove_len (one_map (parts 0 ms)) key in
      let none : one_if_some (get (remove m key) key) ≡ 0 = ap one_if_some now in
      record {
        whole = ap one_map (parts-set ms 0 (key % 16) (remove m key)) ∙ remove-joined 16 (parts 0 ms) key (part (0 + key % 16) m) (part (0 + key % 16) (remove m key)) (omega arith) size placed at refl;
        placed = still (remove m key) (belongs-remove 16 (key % 16) key m own.own);
        count = omega arith;
      }

  pub changed-same : Changed ms key (slice_index_or ms (key % 16) d) (one_map (parts 0 ms))
  changed-same =
      let same = set-get_or ms (key % 16) d in
      let there : one_if_some (get (slice_index_or ms (key % 16) d) key) ≡ one_if_some (get (one_map (parts 0 ms)) key) = ap one_if_some here in
      record { whole = ap (λ x. one_map (parts 0 x)) same; placed = subst (λ x. AllPlaced 16 (parts 0 x)) (sym same) placed; count = omega arith }

  -- ---- each call

  pub changed-opened : (n : ℕ) → Changed ms key (opened (slice_index_or ms (key % 16) d) key n) (opened (one_map (parts 0 ms)) key n)
  changed-opened n = subst (λ o. Changed ms key (opened (slice_index_or ms (key % 16) d) key n) (insert (one_map (parts 0 ms)) key (opened_in (slot_or_new o) n))) here (changed-insert (opened_in (slot_or_new (get (slice_index_or ms (key % 16) d) key)) n))

  pub changed-removed : Changed ms key (remove (slice_index_or ms (key % 16) d) key) (remove (one_map (parts 0 ms)) key)
  changed-removed = changed-remove

  changed-with : (v : Slot) → Changed ms key (with_slot (slice_index_or ms (key % 16) d) key v) (with_slot (one_map (parts 0 ms)) key v)
  changed-with v = elim (is_idle v) as (λ b. Changed ms key (cond b (remove (slice_index_or ms (key % 16) d) key) (insert (slice_index_or ms (key % 16) d) key v)) (cond b (remove (one_map (parts 0 ms)) key) (insert (one_map (parts 0 ms)) key v))) [ true ↦ changed-remove | false ↦ changed-insert v ]

  pub changed-shut : (n : ℕ) → Changed ms key (shut_on (slice_index_or ms (key % 16) d) key n (get (slice_index_or ms (key % 16) d) key)) (shut_on (one_map (parts 0 ms)) key n (get (one_map (parts 0 ms)) key))
  changed-shut n =
      subst (λ o. Changed ms key (shut_on (slice_index_or ms (key % 16) d) key n (get (slice_index_or ms (key % 16) d) key)) (shut_on (one_map (parts 0 ms)) key n o)) here
      (elim (get (slice_index_or ms (key % 16) d) key) as (λ o. Changed ms key (shut_on (slice_index_or ms (key % 16) d) key n o) (shut_on (one_map (parts 0 ms)) key n o)) [ None ↦ changed-same | Some x ↦ changed-with (record x { untouched = remove x.untouched n }) ])

  pub changed-lost : (n : ℕ) → Changed ms key (write_gone_on (slice_index_or ms (key % 16) d) key n (get (slice_index_or ms (key % 16) d) key)) (write_gone_on (one_map (parts 0 ms)) key n (get (one_map (parts 0 ms)) key))
  changed-lost n =
      subst (λ o. Changed ms key (write_gone_on (slice_index_or ms (key % 16) d) key n (get (slice_index_or ms (key % 16) d) key)) (write_gone_on (one_map (parts 0 ms)) key n o)) here
      (elim (get (slice_index_or ms (key % 16) d) key) as (λ o. Changed ms key (write_gone_on (slice_index_or ms (key % 16) d) key n o) (write_gone_on (one_map (parts 0 ms)) key n o)) [ None ↦ changed-same | Some x ↦ changed-with (slot_without n x) ])

  pub changed-stored : (n : ℕ) (b : Stored) → Changed ms key (stored_on (slice_index_or ms (key % 16) d) key n b (get (slice_index_or ms (key % 16) d) key)) (stored_on (one_map (parts 0 ms)) key n b (get (one_map (parts 0 ms)) key))
  changed-stored n b =
      subst (λ o. Changed ms key (stored_on (slice_index_or ms (key % 16) d) key n b (get (slice_index_or ms (key % 16) d) key)) (stored_on (one_map (parts 0 ms)) key n b o)) here
      (elim (get (slice_index_or ms (key % 16) d) key) as (λ o. Changed ms key (stored_on (slice_index_or ms (key % 16) d) key n b o) (stored_on (one_map (parts 0 ms)) key n b o)) [ None ↦ changed-same | Some x ↦ changed-insert (record { body = Some b; untouched = remove x.untouched n }) ])

  changed-meta-in : (f : Meta → Meta) (x : Slot) (o : Option Stored) → Changed ms key (meta_changed_in f (slice_index_or ms (key % 16) d) key x o) (meta_changed_in f (one_map (parts 0 ms)) key x o)
  changed-meta-in f x None = changed-same
  changed-meta-in f x (Some b) = changed-insert (with_meta f x (Some b))

  pub changed-meta : (f : Meta → Meta) → Changed ms key (meta_changed_on f (slice_index_or ms (key % 16) d) key (get (slice_index_or ms (key % 16) d) key)) (meta_changed_on f (one_map (parts 0 ms)) key (get (one_map (parts 0 ms)) key))
  changed-meta f =
      subst (λ o. Changed ms key (meta_changed_on f (slice_index_or ms (key % 16) d) key (get (slice_index_or ms (key % 16) d) key)) (meta_changed_on f (one_map (parts 0 ms)) key o)) here
      (elim (get (slice_index_or ms (key % 16) d) key) as (λ o. Changed ms key (meta_changed_on f (slice_index_or ms (key % 16) d) key o) (meta_changed_on f (one_map (parts 0 ms)) key o)) [ None ↦ changed-same | Some x ↦ changed-meta-in f x x.body ])

  pub shard-part : (shard : ℕ) (e : Map) → shard < 16 → slice_index_or ms shard e ≡ part_of 16 shard (one_map (parts 0 ms))
  shard-part shard e lt =
      part-joined 16 (parts 0 ms) shard (part (0 + shard) (slice_index_or ms shard e)) placed (parts-at ms 0 shard e (let l = long in omega arith))

-- which calls leave a key where it is
pub held-stored : (m : Map) (key n : ℕ) (b : Stored) → one_if_some (get (stored_on m key n b (get m key)) key) ≡ one_if_some (get m key)
held-stored m key n b = elim (get m key) as (λ o. get m key ≡ o → one_if_some (get (stored_on m key n b o) key) ≡ one_if_some o) [ None ↦ λ e. ap one_if_some e | Some x ↦ λ e. ap one_if_some (get-insert-at m key (record { body = Some b; untouched = remove x.untouched n })) ] refl

pub held-meta : (m : Map) (key : ℕ) (f : Meta → Meta) → one_if_some (get (meta_changed_on f m key (get m key)) key) ≡ one_if_some (get m key)
held-meta m key f = elim (get m key) as (λ o. get m key ≡ o → one_if_some (get (meta_changed_on f m key o) key) ≡ one_if_some o) [ None ↦ λ e. ap one_if_some e | Some x ↦ λ e. inside x x.body e ] refl
  where
    inside : (x : Slot) (o : Option Stored) → get m key ≡ Some x → one_if_some (get (meta_changed_in f m key x o) key) ≡ 1
    inside x None e = ap one_if_some e
    inside x (Some b) e = ap one_if_some (get-insert-at m key (with_meta f x (Some b)))

pub held-opened : (m : Map) (key n : ℕ) → one_if_some (get (opened m key n) key) ≡ 1
held-opened m key n = ap one_if_some (get-insert-at m key (opened_in (slot_or_new (get m key)) n))

pub held-removed : (m : Map) (key : ℕ) → one_if_some (get (remove m key) key) ≡ 0
held-removed m key = ap one_if_some (get-remove-at m key)

-- the count before is at least that of a key's value
pub held-fits : (ms : List Map) (key count : ℕ) (d : Map) → AreShards ms count → one_if_some (get (slice_index_or ms (key % 16) d) key) ≤ count
held-fits ms key count d s =
    let less = remove_len (one_map (parts 0 ms)) key in
    let same : one_if_some (get (slice_index_or ms (key % 16) d) key) ≡ one_if_some (get (one_map (parts 0 ms)) key) = ap one_if_some (here ms key d s.long s.placed) in
    let counted = s.counted in
    omega arith

-- what is kept once a table was changed
pub kept-changed : (ms : List Map) (key count next : ℕ) (d x after : Map) → AreShards ms count → Changed ms key x after → next + one_if_some (get (slice_index_or ms (key % 16) d) key) ≡ count + one_if_some (get x key) → next < 2 ^ 63 → AreShards (slice_set ms (key % 16) x) next
kept-changed ms key count next d x after s c sum few =
    let same : one_if_some (get (slice_index_or ms (key % 16) d) key) ≡ one_if_some (get (one_map (parts 0 ms)) key) = ap one_if_some (here ms key d s.long s.placed) in
    let counted = s.counted in
    let changed = c.count in
    record {
      long = length-set ms (key % 16) x ∙ s.long;
      placed = c.placed;
      counted = (let e : next ≡ len after = omega arith in e) ∙ ap len (sym c.whole);
      few = few;
    }

-- the same of a table that is one that was changed so, if keys went, and if keys came in
pub kept-gone : (ms : List Map) (key count gone : ℕ) (d : Map) {x after : Map} (y : Map) → AreShards ms count → Changed ms key x after → y ≡ x → one_if_some (get y key) + gone ≡ one_if_some (get (slice_index_or ms (key % 16) d) key) → AreShards (slice_set ms (key % 16) y) (count - gone)
kept-gone ms key count gone d {x} {after} y s c e sum =
    let fits = held-fits ms key count d s in
    let few = s.few in
    kept-changed ms key count (count - gone) d y after s (subst (λ m. Changed ms key m after) (sym e) c) (omega arith) (omega arith)

pub kept-more : (ms : List Map) (key count more : ℕ) (d : Map) {x after : Map} (y : Map) → AreShards ms count → Changed ms key x after → y ≡ x → one_if_some (get y key) ≡ 1 → one_if_some (get (slice_index_or ms (key % 16) d) key) + more ≡ 1 → count < 2 ^ 63 - 1 → AreShards (slice_set ms (key % 16) y) (count + more)
kept-more ms key count more d {x} {after} y s c e one sum few = kept-changed ms key count (count + more) d y after s (subst (λ m. Changed ms key m after) (sym e) c) (omega arith) (omega arith)

-- tables that were just made
made : (ms : List Map) → length ms ≡ 16 → ((i : ℕ) (e : Map) → i < 16 → slice_index_or ms i e ≡ empty) → (i : ℕ) (e : Part Slot) → i < 16 → slice_index_or (parts 0 ms) i e ≡ part i empty
made ms long each i e lt =
    get_or_from_slice_get (parts 0 ms) i _ e (parts-at ms 0 i empty (omega arith)) ∙ ap (part (0 + i)) (each i empty lt) ∙ ap (λ p. part p empty) (let e : 0 + i ≡ i = omega arith in e)

pub new-empty : (ms : List Map) → length ms ≡ 16 → ((i : ℕ) (e : Map) → i < 16 → slice_index_or ms i e ≡ empty) → one_map (parts 0 ms) ≡ empty
new-empty ms long each = made-empty 16 (parts 0 ms) (length-parts ms 0 ∙ long) (made ms long each)

pub new-shards : (ms : List Map) → length ms ≡ 16 → ((i : ℕ) (e : Map) → i < 16 → slice_index_or ms i e ≡ empty) → AreShards ms 0
new-shards ms long each = record {
  long = long;
  placed = made-placed 16 (parts 0 ms) (length-parts ms 0 ∙ long) (made ms long each);
  counted = sym (ap len (new-empty ms long each) ∙ len-empty nat_cmp Slot);
  few = omega arith;
}
