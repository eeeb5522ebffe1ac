-- Entries put at the back of lists, and taken off again; a list copied from its end.
use Rattle.std.specs.Prelude.{Err, Ok, OnErr, Result}
use Rattle.std.specs.List.{IsDistinct}
use Rattle.std.proofs.lemmas.List.{append-nil, length-take, take-take, same_lists, get_or_append_left, set-get_or}
use Rattle.std.proofs.Math.Seq.{get_or-append_seam}
use Rattle.pcache_evict.specs.Recency.{weight}
use Rattle.pcache_evict.specs.Shards.{added_last}
use Rattle.pcache_evict.proofs.Words.{◌≡◌, ℕ, zero, suc, ◌+◌, ◌-◌, ◌<◌, ◌≤◌, ◌^◌, true, false, cond, None, Some, is_some, List, [], ◌∷◌, ◌++◌, refl, ap, sym, subst, ◌∙◌, arith, length, take, All, append_assoc, length-append, inl, inr, slice_set, slice_index_or, AllByRecursion, keys_of, cases_eq, get_or-set_same, get_or-set_other, length-set, take_all, take_at, get_or_default, All-append, All-nil, All-cons, sum_by-cons, sum_by-append, IsDistinct-head, IsDistinct-tail, CacheEntryKey, entry_eq, Recency, weight_of, moved, IsOnce, IsShard, ArePlaced, AreKept, AreLengths, AreLonger, all, list_at, shard_of, in_shard, added_last_all}
use Rattle.pcache_evict.proofs.Recency.{all_apart, laws, same_key}
use Rattle.pcache_evict.proofs.Sharded.{E, at_home, both, each-put, in_range, kept-popped, length-around, once-append, placed-put, read_at, weight-around}

-- ---- a copy, made from the end

once-behind : (a b : Recency) → IsOnce (a ++ b) → IsOnce b
once-behind [] b d = d
once-behind (e ∷ a) b d = once-behind a b (IsDistinct-tail entry_eq e.0 (keys_of (a ++ b)) d)

-- one more entry in front of the copy
pub copied-more : (whole left front copy new : Recency) (k : CacheEntryKey) (n : ℕ) → IsOnce whole → whole ≡ left ++ copy → left ≡ front ++ (k, n) ∷ [] → new ≡ moved k n copy → whole ≡ front ++ new
copied-more whole left front copy new k n once is split made =
    let shape : whole ≡ front ++ ((k, n) ∷ copy) = is ∙ ap (λ l. l ++ copy) split ∙ append_assoc front ((k, n) ∷ []) copy in
    let apart = all_apart k k copy (laws.refl k) (IsDistinct-head entry_eq k (keys_of copy) (once-behind front ((k, n) ∷ copy) (subst IsOnce shape once))) in
    shape ∙ ap (λ l. front ++ l) (sym (made ∙ ap (λ l. (k, n) ∷ l) apart))

-- ---- lists read and written at an index

pub set-same : (shards : List Recency) (i : ℕ) → slice_set shards i (list_at shards i) ≡ shards
set-same [] i = refl
set-same (x ∷ shards) zero = refl
set-same (x ∷ shards) (suc i) = ap (λ t. x ∷ t) (set-same shards i)

set-set : (shards : List Recency) (i : ℕ) (a b : Recency) → slice_set (slice_set shards i a) i b ≡ slice_set shards i b
set-set [] i a b = refl
set-set (x ∷ shards) zero a b = refl
set-set (x ∷ shards) (suc i) a b = ap (λ t. x ∷ t) (set-set shards i a b)

-- ---- the last entry of a list taken off

pub record Popped (n place : ℕ) (inside now : List Recency) (total items : ℕ) (front : Recency) (size : ℕ) : Type 0 where
  pub light : size ≤ total
  pub one : 1 ≤ items
  pub kept : AreKept n (slice_set inside place front) (total - size) (items - 1)
  pub is : slice_set inside place front ≡ slice_set now place (take (length (list_at now place) - 1) (list_at now place))

pub popped-at : (n place : ℕ) (inside now : List Recency) (total items : ℕ) (l front : Recency) (k : CacheEntryKey) (size : ℕ) → AreKept n inside total items → inside ≡ now → place < n → l ≡ slice_index_or inside place l → l ≡ front ++ (k, size) ∷ [] → Popped n place inside now total items front size
popped-at n place inside now total items l front k size kept view within is last =
    let long = kept.placed.long in
    let here : list_at inside place ≡ front ++ (k, size) ∷ [] = sym (is ∙ get_or_default inside place l [] (omega arith)) ∙ last in
    let popped = kept-popped n inside total items place front (k, size) kept within here in
    let there : list_at now place ≡ front ++ (k, size) ∷ [] = ap (λ s. list_at s place) (sym view) ∙ here in
    let longer = length-append front ((k, size) ∷ []) in
    let many : length (list_at now place) ≡ length (front ++ (k, size) ∷ []) = ap (λ (l : Recency). length l) there in
    let rest : take (length (list_at now place) - 1) (list_at now place) ≡ front = ap (take (length (list_at now place) - 1)) there ∙ take_at front ((k, size) ∷ []) (length (list_at now place) - 1) (omega arith) in
    record { light = popped.0; one = popped.1; kept = popped.2; is = ap (λ s. slice_set s place front) view ∙ ap (slice_set now place) (sym rest) }

-- a list was cut to some length, and not below the one that is wanted
pub record CutTo (place len : ℕ) (old new : List Recency) : Type 0 where
  pub left : ℕ
  pub enough : take len (list_at old place) ≡ take len (take left (list_at old place))
  pub is : new ≡ slice_set old place (take left (list_at old place))

pub cut-none : (place len : ℕ) (old : List Recency) → CutTo place len old old
cut-none place len old =
    let whole = take_all (length (list_at old place)) (list_at old place) (omega arith) in
    record {
      left = length (list_at old place);
      enough = ap (take len) (sym whole);
      is = sym (ap (slice_set old place) whole ∙ set-same old place);
    }

cut-here : (n place len : ℕ) (old now : List Recency) (cut : CutTo place len old now) → place < n → length now ≡ n → list_at now place ≡ take cut.left (list_at old place)
cut-here n place len old now cut within long =
    let same : length now ≡ length (slice_set old place (take cut.left (list_at old place))) = ap (λ (s : List Recency). length s) cut.is in
    let kept = length-set old place (take cut.left (list_at old place)) in
    ap (λ s. list_at s place) cut.is ∙ get_or-set_same old place (take cut.left (list_at old place)) [] (omega arith)

pub cut-more : (n place len : ℕ) (old now new : List Recency) → CutTo place len old now → place < n → length now ≡ n → len < length (list_at now place)
    → new ≡ slice_set now place (take (length (list_at now place) - 1) (list_at now place)) → CutTo place len old new × (length (list_at new place) < length (list_at now place))
cut-more n place len old now new cut within long more is =
    let m = length (list_at now place) in
    let here = cut-here n place len old now cut within long in
    let size : m ≡ length (take cut.left (list_at old place)) = ap (λ (l : Recency). length l) here in
    let bound = length-take cut.left (list_at old place) in
    let front : take (m - 1) (list_at now place) ≡ take (m - 1) (list_at old place) = ap (take (m - 1)) here ∙ take-take (m - 1) cut.left (list_at old place) (omega arith) in
    let fewer : list_at new place ≡ take (m - 1) (list_at now place) = ap (λ s. list_at s place) is ∙ get_or-set_same now place (take (m - 1) (list_at now place)) [] (omega arith) in
    let shorter = length-take (m - 1) (list_at now place) in
    let number : length (list_at new place) ≡ length (take (m - 1) (list_at now place)) = ap (λ (l : Recency). length l) fewer in (
      record {
        left = m - 1;
        enough = sym (take-take len (m - 1) (list_at old place) (omega arith));
        is = is ∙ ap (λ s. slice_set s place (take (m - 1) (list_at now place))) cut.is ∙ set-set old place _ _ ∙ ap (slice_set old place) front;
      },
      omega arith,
    )

pub cut-done : (n place len : ℕ) (old now : List Recency) → CutTo place len old now → place < n → length now ≡ n → length (list_at now place) ≤ len → now ≡ slice_set old place (take len (list_at old place))
cut-done n place len old now cut within long few =
    let here = cut-here n place len old now cut within long in
    let size : length (list_at now place) ≡ length (take cut.left (list_at old place)) = ap (λ (l : Recency). length l) here in
    let whole = take_all len (take cut.left (list_at old place)) (omega arith) in
    cut.is ∙ ap (slice_set old place) (sym (cut.enough ∙ whole))

-- ---- all lists cut to the lengths that they had

-- the first lists are as they were, and all are longer
pub record IsCut (n : ℕ) (shards now : List Recency) : Type 0 where
  pub before : (i : ℕ) → i < n → list_at now i ≡ list_at shards i
  pub longer : AreLonger shards now

pub cut-begins : (shards now : List Recency) → AreLonger shards now → IsCut 0 shards now
cut-begins shards now longer = record { before = λ i lt. absurd (omega (arith, lt)); longer = longer }

pub cut-next : (n place len : ℕ) (shards now new : List Recency) → IsCut place shards now → place < n → length now ≡ n → len ≡ length (list_at shards place) → new ≡ slice_set now place (take len (list_at now place)) → IsCut (place + 1) shards new
cut-next n place len shards now new cut within long size is =
    let tail = cut.longer.each place in
    let back : take len (list_at now place) ≡ list_at shards place = ap (take len) tail.1 ∙ take_at (list_at shards place) tail.0 len (sym size) in
    let here : list_at new place ≡ list_at shards place = ap (λ s. list_at s place) is ∙ get_or-set_same now place (take len (list_at now place)) [] (omega arith) ∙ back in
    let elsewhere = λ (i : ℕ) (off : i ≡ place → ⊥). ap (λ s. list_at s i) is ∙ get_or-set_other now place i (take len (list_at now place)) [] off in
    record {
      before = λ i lt. elim (cases_eq i place) [
        | inl same ↦ subst (λ j. list_at new j ≡ list_at shards j) (sym same) here
        | inr off ↦ elsewhere i off ∙ cut.before i (omega (arith, lt, off))
      ];
      longer = record {
        long = ap (λ (s : List Recency). length s) is ∙ length-set now place _ ∙ cut.longer.long;
        each = λ i. elim (cases_eq i place) [
          | inl same ↦ ([], subst (λ j. list_at new j ≡ list_at shards j ++ []) (sym same) (here ∙ sym (append-nil (list_at shards place))))
          | inr off ↦ let t = cut.longer.each i in (t.0, elsewhere i off ∙ t.1)
        ];
      };
    }

pub cut-ends : (n place : ℕ) (shards now : List Recency) → IsCut place shards now → n ≤ place → length now ≡ n → now ≡ shards
cut-ends n place shards now cut all_of long =
    let same = cut.longer.long in
    same_lists now shards same (λ k d lt.
    get_or_default now k d [] lt ∙ cut.before k (omega (arith, lt)) ∙ get_or_default shards k [] d (omega (arith, lt)))

-- ---- an entry at the back of its list

longer-same : (shards : List Recency) → AreLonger shards shards
longer-same shards = record { long = refl; each = λ i. ([], sym (append-nil (list_at shards i))) }

pub longer-start : (old now : List Recency) → now ≡ old → AreLonger old now
longer-start old now same = subst (AreLonger old) (sym same) (longer-same old)

joined-back : (k : CacheEntryKey) (w : ℕ) (l : Recency) → (tail : Recency) × (added_last k w l ≡ l ++ tail)
joined-back k w l = elim (is_some (weight_of k l)) as (λ b. (tail : Recency) × (cond b l (l ++ (k, w) ∷ []) ≡ l ++ tail)) [ true ↦ ([], sym (append-nil l)) | false ↦ ((k, w) ∷ [], refl) ]

pub longer-joined : (n : ℕ) (old now new : List Recency) (k : CacheEntryKey) (w : ℕ) → ArePlaced n now → AreLonger old now → new ≡ in_shard n k (added_last k w) now → AreLonger old new
longer-joined n old now new k w placed longer is =
    let i = shard_of n k in
    let more = joined-back k w (list_at now i) in
    record {
      long = ap (λ (s : List Recency). length s) is ∙ length-set now i _ ∙ longer.long;
      each = λ j. elim (cases_eq j i) [
        | inl same ↦
            let t = longer.each j in
            let here : list_at new j ≡ added_last k w (list_at now i) = ap (λ s. list_at s j) is ∙ ap (list_at (in_shard n k (added_last k w) now)) same ∙ get_or-set_same now i _ [] (in_range n now k placed) in
            (t.0 ++ more.0, here ∙ more.1 ∙ ap (λ m. list_at now m ++ more.0) (sym same) ∙ ap (λ l. l ++ more.0) t.1 ∙ append_assoc (list_at old j) t.0 more.0)
        | inr off ↦ let t = longer.each j in (t.0, ap (λ s. list_at s j) is ∙ get_or-set_other now i j _ [] off ∙ t.1)
      ];
    }

-- a tracked entry is unchanged
pub joined-there : (n : ℕ) (shards : List Recency) (k : CacheEntryKey) (w : ℕ) → is_some (weight_of k (list_at shards (shard_of n k))) ≡ true → shards ≡ in_shard n k (added_last k w) shards
joined-there n shards k w there =
    let l = list_at shards (shard_of n k) in
    sym (ap (λ b. slice_set shards (shard_of n k) (cond b l (l ++ (k, w) ∷ []))) there ∙ set-same shards (shard_of n k))

pub joined-new : (n : ℕ) (shards : List Recency) (k : CacheEntryKey) (w : ℕ) → is_some (weight_of k (list_at shards (shard_of n k))) ≡ false → in_shard n k (λ l. l ++ (k, w) ∷ []) shards ≡ in_shard n k (added_last k w) shards
joined-new n shards k w missing =
    let l = list_at shards (shard_of n k) in
    sym (ap (λ b. slice_set shards (shard_of n k) (cond b l (l ++ (k, w) ∷ []))) missing)

apart-none : (k : CacheEntryKey) (w : ℕ) (l : Recency) → weight_of k l ≡ None → AllByRecursion (λ (e : E). AllByRecursion (λ (f : E). entry_eq e.0 f.0 ≡ false) ((k, w) ∷ [])) l
apart-none k w [] none = tt
apart-none k w (e ∷ l) none =
    elim (entry_eq k e.0) as (λ b. entry_eq k e.0 ≡ b → cond b (Some e.1) (weight_of k l) ≡ None → AllByRecursion (λ (e : E). AllByRecursion (λ (f : E). entry_eq e.0 f.0 ≡ false) ((k, w) ∷ [])) (e ∷ l)) [
      | true ↦ λ t h. cc
      | false ↦ λ t h. ((off e.0 t, tt), apart-none k w l h)
    ] refl none
  where
    off : (j : CacheEntryKey) → entry_eq k j ≡ false → entry_eq j k ≡ false
    off j f = elim (entry_eq j k) as (λ b. entry_eq j k ≡ b → b ≡ false) [
      | true ↦ λ t. let same : j ≡ k = same_key j k t in let here : entry_eq k j ≡ true = subst (λ x. entry_eq k x ≡ true) (sym same) (laws.refl k) in absurd (cc (here, f))
      | false ↦ λ t. refl
    ] refl

once-one : (k : CacheEntryKey) (w : ℕ) → IsOnce ((k, w) ∷ [])
unfolding IsDistinct
once-one k w = (tt, tt)

shard-pushed : (n : ℕ) (k : CacheEntryKey) (w : ℕ) (l : Recency) → IsShard n (shard_of n k) l → weight_of k l ≡ None → IsShard n (shard_of n k) (l ++ (k, w) ∷ [])
shard-pushed n k w l s none = record {
  own = both (λ e. shard_of n e.0 ≡ shard_of n k) l ((k, w) ∷ []) s.own (refl, tt);
  once = once-append l ((k, w) ∷ []) s.once (once-one k w) (apart-none k w l none);
}

-- a failed call put a list back as it was
pub put-back : {T E : Type 0} (r : Result T E) (inside now : List Recency) (place : ℕ) (l x : Recency) → inside ≡ now → l ≡ slice_index_or inside place l → x ≡ l → OnErr r (slice_set inside place x ≡ now)
put-back (Ok y) inside now place l x view at same = tt
put-back (Err e) inside now place l x view at same = ap (slice_set inside place) (same ∙ at) ∙ set-get_or inside place l ∙ view

pub kept-pushed : (n : ℕ) (inside now : List Recency) (total items : ℕ) (k : CacheEntryKey) (w place : ℕ) (l x : Recency) → AreKept n inside total items → inside ≡ now → place ≡ shard_of n k → l ≡ slice_index_or inside place l → x ≡ l ++ (k, w) ∷ [] → w ≤ 2 ^ 64 - 1
    → weight_of k (list_at now (shard_of n k)) ≡ None → items + 1 < 2 ^ 63 → AreKept n (slice_set inside place x) (total + w) (items + 1)
kept-pushed n inside now total items k w place l x kept view at is put fits none few =
    let p = kept.placed in
    let i = shard_of n k in
    let here = read_at n inside k place l p at is in
    let s = at_home n inside k p in
    let own = list_at inside i in
    let new = own ++ (k, w) ∷ [] in
    let missing : weight_of k own ≡ None = subst (λ s. weight_of k (list_at s i) ≡ None) (sym view) none in
    let same : slice_set inside place x ≡ slice_set inside i new = ap (λ j. slice_set inside j x) at ∙ ap (slice_set inside i) (put ∙ ap (λ l. l ++ (k, w) ∷ []) here) in
    let new_sum : weight (all (slice_set inside i new)) ≡ weight s.front + (weight new + weight s.back) = ap weight (s.put new) ∙ weight-around s.front new s.back in
    let old_sum : weight (all inside) ≡ weight s.front + (weight own + weight s.back) = ap weight s.here ∙ weight-around s.front own s.back in
    let new_many : length (all (slice_set inside i new)) ≡ length s.front + (length new + length s.back) = ap (λ (l : Recency). length l) (s.put new) ∙ length-around s.front new s.back in
    let old_many : length (all inside) ≡ length s.front + (length own + length s.back) = ap (λ (l : Recency). length l) s.here ∙ length-around s.front own s.back in
    let split = sum_by-append (λ (e : E). e.1) own ((k, w) ∷ []) in
    let one : weight ((k, w) ∷ []) ≡ w + 0 = sum_by-cons (λ (e : E). e.1) (k, w) [] in
    let longer = length-append own ((k, w) ∷ []) in
    let summed = kept.summed in
    let counted = kept.counted in
    let small : All (λ (e : E). e.1 ≤ 2 ^ 64 - 1) new = All-append (λ (e : E). e.1 ≤ 2 ^ 64 - 1) own ((k, w) ∷ []) (kept.small i) (All-cons (λ (e : E). e.1 ≤ 2 ^ 64 - 1) (k, w) [] fits (All-nil (λ (e : E). e.1 ≤ 2 ^ 64 - 1))) in
    subst (λ s. AreKept n s (total + w) (items + 1)) (sym same) (record {
      placed = placed-put n inside i new (in_range n inside k p) (shard-pushed n k w own (p.each i) missing) p;
      small = each-put n inside i new (λ _ l. All (λ (e : E). e.1 ≤ 2 ^ 64 - 1) l) (in_range n inside k p) small kept.small;
      summed = omega arith;
      counted = omega arith;
      few = omega arith;
    })

-- ---- the lengths of the lists, one after the other

-- the lengths of the first lists
pub record LensOf (n : ℕ) (lens : List ℕ) (shards : List Recency) : Type 0 where
  pub long : length lens ≡ n
  pub each : (place : ℕ) → place < n → slice_index_or lens place 0 ≡ length (list_at shards place)

pub lens-none : (shards : List Recency) → LensOf 0 [] shards
lens-none shards = record { long = refl; each = λ i lt. absurd (omega (arith, lt)) }

pub lens-more : (n : ℕ) (lens : List ℕ) (shards : List Recency) (len : ℕ) → LensOf n lens shards → len ≡ length (list_at shards n) → LensOf (n + 1) (lens ++ len ∷ []) shards
lens-more n lens shards len so_far is =
    let long = so_far.long in
    let longer = length-append lens (len ∷ []) in
    record {
      long = omega arith;
      each = λ i lt. elim (cases_eq i n) [
        | inl same ↦ ap (λ k. slice_index_or (lens ++ len ∷ []) k 0) (same ∙ sym long) ∙ get_or-append_seam lens len [] 0 ∙ is ∙ ap (λ k. length (list_at shards k)) (sym same)
        | inr off ↦ get_or_append_left lens (len ∷ []) 0 i (omega (arith, lt, off)) ∙ so_far.each i (omega (arith, lt, off))
      ];
    }

pub lens-done : (n i : ℕ) (lens : List ℕ) (items inside now : List Recency) → LensOf i lens items → items ≡ inside → inside ≡ now → length inside ≡ n → i ≤ length items → length items ≤ i → AreLengths n lens now
lens-done n i lens items inside now all_of is view long low high =
    let size : length items ≡ length inside = ap (λ (s : List Recency). length s) is in
    let many = all_of.long in
    subst (AreLengths n lens) (is ∙ view) (record { long = omega arith; each = λ k lt. all_of.each k (omega (arith, lt)) })

-- ---- entries put in one after the other

pub joins-on : (n : ℕ) (rest left : Recency) (k : CacheEntryKey) (w : ℕ) (now new total : List Recency) → rest ≡ (k, w) ∷ left → new ≡ in_shard n k (added_last k w) now → added_last_all n rest now ≡ total → added_last_all n left new ≡ total
joins-on n rest left k w now new total split is so_far = ap (added_last_all n left) is ∙ ap (λ l. added_last_all n l now) (sym split) ∙ so_far
