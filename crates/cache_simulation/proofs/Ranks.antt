-- The lowest ranks of hashes, and how many keys a part has by them.
use Rattle.std.proofs.Common.{zero, suc, ◌/◌, ◌%◌, eqb, ltb, leb, nat_eq, ap₂, eq-eqb, ne_eqb, add-one, le-leb, le-ltb, lt-ltb, mul-zero, true≢false, nat_cmp, Ordering, Less, Equal, Greater}
use Rattle.std.specs.Prelude.{⊤, All, filter, slice_get, nat_le, IfSome, IsSome}
use Rattle.std.specs.Ordering.{match_ordering, MatchOrdering}
use Rattle.std.specs.Set.{distinct_count, unique_keys, is_member}
use Rattle.std.proofs.lemmas.Nat.{div-mul-add}
use Rattle.std.proofs.lemmas.Cmp.{ranked, nat_eq_equiv}
use Rattle.std.proofs.lemmas.List.{take-take, take-append-le, length-take, length-append}
use Rattle.std.proofs.lemmas.List.Elements.{All-nil, All-head, All-tail}
use Rattle.std.proofs.lemmas.Option.{get_or_from_slice_get, slice_get_within}
use Rattle.std.proofs.lemmas.Map.Made.{is_member-filter}
use Rattle.std.proofs.lemmas.Map.Views.{exact_unsigned_eq, All-insert_key}
use Rattle.cache_simulation.specs.KeyLimit.{keys_in}
use Rattle.cache_simulation.specs.Sampled.{whole, is_in_part}
use Rattle.cache_simulation.proofs.Words.{◌≡◌, ℕ, ◌+◌, ◌-◌, ◌*◌, ◌^◌, ◌<◌, ◌≤◌, Bool, true, false, cond, not, ◌&&◌, ◌||◌, nat_lt, List, [], ◌∷◌, ◌++◌, length, take, refl, sym, ap, subst, ◌∙◌, arith, unwrap_or, is_some, min, Option, Some, None, list_any, insert_key, take_all, All-take, All-get_or, rank, ranks, IsLargestRate}

-- ---- the lowest after an insertion are those of the lowest before it

take_front : (n x : ℕ) (xs : List ℕ) → take n (x ∷ take n xs) ≡ take n (x ∷ xs)
take_front zero x xs = refl
take_front (suc n) x xs = ap (λ l. x ∷ l) (take-take n (suc n) xs (omega arith))

take_at : (n k x : ℕ) (xs : List ℕ) (o : Ordering) → take n (insert_key nat_cmp (take n xs) k) ≡ take n (insert_key nat_cmp xs k)
    → take (suc n) (match_ordering o (k ∷ x ∷ take n xs) (x ∷ take n xs) (x ∷ insert_key nat_cmp (take n xs) k)) ≡ take (suc n) (match_ordering o (k ∷ x ∷ xs) (x ∷ xs) (x ∷ insert_key nat_cmp xs k))
take_at n k x xs Less h = ap (λ l. k ∷ l) (take_front n x xs)
take_at n k x xs Equal h = ap (λ l. x ∷ l) (take-take n n xs (omega arith))
take_at n k x xs Greater h = ap (λ l. x ∷ l) h

pub take_insert : (n k : ℕ) (xs : List ℕ) → take n (insert_key nat_cmp (take n xs) k) ≡ take n (insert_key nat_cmp xs k)
take_insert zero k xs = refl
take_insert (suc n) k [] = refl
take_insert (suc n) k (x ∷ xs) = take_at n k x xs (nat_cmp k x) (take_insert n k xs)

-- ---- numbers that rise from this one

abbrev pub Rise : ℕ → List ℕ → Type 0
Rise b [] = ⊤
Rise b (x ∷ xs) = (b ≤ x) × Rise (x + 1) xs

rise_at : (b k x : ℕ) (xs : List ℕ) (o : Ordering) → MatchOrdering o (k < x) (k ≡ x) (x < k) → Rise b (x ∷ xs) → b ≤ k → (x + 1 ≤ k → Rise (x + 1) (insert_key nat_cmp xs k))
    → Rise b (match_ordering o (k ∷ x ∷ xs) (x ∷ xs) (x ∷ insert_key nat_cmp xs k))
rise_at b k x xs Less h r le g = (le, (omega (arith, h), r.1))
rise_at b k x xs Equal h r le g = r
rise_at b k x xs Greater h r le g = (r.0, g (omega (arith, h)))

pub rise_insert : (b k : ℕ) (xs : List ℕ) → Rise b xs → b ≤ k → Rise b (insert_key nat_cmp xs k)
rise_insert b k [] r le = (le, tt)
rise_insert b k (x ∷ xs) r le = rise_at b k x xs (nat_cmp k x) (ranked k x (nat_cmp k x) refl) r le (rise_insert (x + 1) k xs r.1)

pub ranks_rise : (hashes : List ℕ) → Rise 0 (ranks hashes)
ranks_rise [] = tt
ranks_rise (h ∷ hs) = rise_insert 0 (rank h) (ranks hs) (ranks_rise hs) (omega arith)

-- ---- what an insertion adds

cmp_same : (k x : ℕ) (o : Ordering) → MatchOrdering o (k < x) (k ≡ x) (x < k) → (q : ℕ) (xs ins : List ℕ) → is_member nat_eq ins q ≡ (nat_eq q k || is_member nat_eq xs q)
    → is_member nat_eq (match_ordering o (k ∷ x ∷ xs) (x ∷ xs) (x ∷ ins)) q ≡ (nat_eq q k || (nat_eq q x || is_member nat_eq xs q))
cmp_same k x Less h q xs ins g = refl
cmp_same k x Equal h q xs ins g = subst (λ j. (nat_eq q x || is_member nat_eq xs q) ≡ (nat_eq q j || (nat_eq q x || is_member nat_eq xs q))) (sym h) (twice (nat_eq q x) (is_member nat_eq xs q))
  where
    twice : (a b : Bool) → (a || b) ≡ (a || (a || b))
    twice true b = refl
    twice false b = refl
cmp_same k x Greater h q xs ins g = ap (λ b. nat_eq q x || b) g ∙ swap (nat_eq q x) (nat_eq q k) (is_member nat_eq xs q)
  where
    swap : (a b c : Bool) → (a || (b || c)) ≡ (b || (a || c))
    swap true true c = refl
    swap true false c = refl
    swap false b c = refl

member_insert : (k q : ℕ) (xs : List ℕ) → is_member nat_eq (insert_key nat_cmp xs k) q ≡ (nat_eq q k || is_member nat_eq xs q)
member_insert k q [] = refl
member_insert k q (x ∷ xs) = cmp_same k x (nat_cmp k x) (ranked k x (nat_cmp k x) refl) q xs (insert_key nat_cmp xs k) (member_insert k q xs)

rank_back : (a b x y : ℕ) → a < 18446744073709551616 → b < 18446744073709551616 → x * 18446744073709551616 + a ≡ y * 18446744073709551616 + b → a ≡ b
rank_back a b x y la lb e = omega arith

rank_same : (a b : ℕ) → a < 2 ^ 64 → b < 2 ^ 64 → nat_eq (rank a) (rank b) ≡ nat_eq a b
rank_same a b la lb = by (nat_eq a b) refl
  where
    by : (c : Bool) → nat_eq a b ≡ c → nat_eq (rank a) (rank b) ≡ c
    by true e = eq-eqb (rank a) (rank b) (ap rank (exact_unsigned_eq a b e))
    by false e = ne_eqb (rank a) (rank b) (λ same. true≢false (sym (eq-eqb a b (rank_back a b (a % whole) (b % whole) la lb same)) ∙ e))

pub member_ranks : (h : ℕ) (hs : List ℕ) → h < 2 ^ 64 → All (λ n. n < 2 ^ 64) hs → is_member nat_eq (ranks hs) (rank h) ≡ is_member nat_eq hs h
member_ranks h [] l a = refl
member_ranks h (g ∷ gs) l a = member_insert (rank g) (rank h) (ranks gs) ∙ ap (λ b. b || is_member nat_eq (ranks gs) (rank h)) (rank_same h g l (All-head (λ n. n < 2 ^ 64) g gs a))
    ∙ ap (λ b. nat_eq h g || b) (member_ranks h gs l (All-tail (λ n. n < 2 ^ 64) g gs a))

-- ---- how many pass

abbrev count : (ℕ → Bool) → List ℕ → ℕ
count p xs = length (filter p xs)

count_more : (p : ℕ → Bool) (x : ℕ) (xs : List ℕ) → count p (x ∷ xs) ≡ count p xs + cond (p x) 1 0
count_more p x xs = by (p x)
  where
    by : (b : Bool) → length (cond b (x ∷ filter p xs) (filter p xs)) ≡ count p xs + cond b 1 0
    by true = omega arith
    by false = omega arith

above_all : (b k : ℕ) (xs : List ℕ) → Rise b xs → k < b → is_member nat_eq xs k ≡ false
above_all b k [] r lt = refl
above_all b k (x ∷ xs) r lt = ap (λ c. c || is_member nat_eq xs k) (ne_eqb k x (omega (arith, r.0))) ∙ above_all (x + 1) k xs r.1 (omega (arith, r.0))

added : (p : ℕ → Bool) (k : ℕ) (xs : List ℕ) (m : Bool) → m ≡ false → count p (k ∷ xs) ≡ count p xs + cond (p k && not m) 1 0
added p k xs m e = subst (λ b. count p (k ∷ xs) ≡ count p xs + cond (p k && not b) 1 0) (sym e) (by (p k))
  where
    by : (c : Bool) → length (cond c (k ∷ filter p xs) (filter p xs)) ≡ count p xs + cond (c && true) 1 0
    by true = omega arith
    by false = omega arith

there : (c m : Bool) (n : ℕ) → m ≡ true → n ≡ n + cond (c && not m) 1 0
there true m n e = subst (λ b. n ≡ n + cond (not b) 1 0) (sym e) (omega arith)
there false m n e = omega arith

count_at : (p : ℕ → Bool) (b k x : ℕ) (xs ins : List ℕ) (o : Ordering) → MatchOrdering o (k < x) (k ≡ x) (x < k) → Rise b (x ∷ xs) → count p ins ≡ count p xs + cond (p k && not (is_member nat_eq xs k)) 1 0
    → count p (match_ordering o (k ∷ x ∷ xs) (x ∷ xs) (x ∷ ins)) ≡ count p (x ∷ xs) + cond (p k && not (nat_eq k x || is_member nat_eq xs k)) 1 0
count_at p b k x xs ins Less h r g = added p k (x ∷ xs) (nat_eq k x || is_member nat_eq xs k) (above_all x k (x ∷ xs) (omega arith, r.1) h)
count_at p b k x xs ins Equal h r g = there (p k) (nat_eq k x || is_member nat_eq xs k) (count p (x ∷ xs)) (ap (λ c. c || is_member nat_eq xs k) (eq-eqb k x h))
count_at p b k x xs ins Greater h r g =
    let more = count_more p x ins in
    let less = count_more p x xs in
    subst (λ c. count p (x ∷ ins) ≡ count p (x ∷ xs) + cond (p k && not (c || is_member nat_eq xs k)) 1 0) (sym (ne_eqb k x (omega (arith, h)))) (omega (arith, more, less, g))

pub count_insert : (p : ℕ → Bool) (b k : ℕ) (xs : List ℕ) → Rise b xs → count p (insert_key nat_cmp xs k) ≡ count p xs + cond (p k && not (is_member nat_eq xs k)) 1 0
count_insert p b k [] r = by (p k)
  where
    by : (c : Bool) → length (cond c (k ∷ []) []) ≡ 0 + cond (c && true) 1 0
    by true = refl
    by false = refl
count_insert p b k (x ∷ xs) r = count_at p b k x xs (insert_key nat_cmp xs k) (nat_cmp k x) (ranked k x (nat_cmp k x) refl) r (count_insert p (x + 1) k xs r.1)

-- ---- how many keys a part has, by ranks

abbrev pub below : ℕ → ℕ → Bool
below rate r = nat_lt (r / 2 ^ 64) rate

in_first : (z rate n : ℕ) → z ≡ 0 → nat_lt n rate ≡ (nat_le z n && nat_lt n (z + rate))
in_first z rate n e =
    let same : rate ≡ z + rate = omega (arith, e) in
    ap (λ c. c && nat_lt n rate) (sym (le-leb z n (omega (arith, e)))) ∙ ap (λ m. nat_le z n && nat_lt n m) same

in_below : (rate h : ℕ) → h < 2 ^ 64 → below rate (rank h) ≡ is_in_part rate 0 h
in_below rate h lt = ap (λ d. nat_lt d rate) (div-mul-add (h % whole) (2 ^ 64) h lt) ∙ in_first (rate * 0) rate (h % whole) (mul-zero rate)

distinct_more : (t : ℕ → Bool) (h : ℕ) (hs : List ℕ) → distinct_count nat_eq (filter t (h ∷ hs)) ≡ distinct_count nat_eq (filter t hs) + cond (t h && not (is_member nat_eq hs h)) 1 0
distinct_more t h hs = by (t h) refl
  where
    fresh : (m n : Bool) → m ≡ (n && true) → length (cond m (unique_keys nat_eq (filter t hs)) (h ∷ unique_keys nat_eq (filter t hs))) ≡ distinct_count nat_eq (filter t hs) + cond (not n) 1 0
    fresh m true e = subst (λ b. length (cond b (unique_keys nat_eq (filter t hs)) (h ∷ unique_keys nat_eq (filter t hs))) ≡ distinct_count nat_eq (filter t hs) + 0) (sym e) (omega arith)
    fresh m false e = subst (λ b. length (cond b (unique_keys nat_eq (filter t hs)) (h ∷ unique_keys nat_eq (filter t hs))) ≡ distinct_count nat_eq (filter t hs) + 1) (sym e) (omega arith)

    by : (c : Bool) → t h ≡ c → distinct_count nat_eq (cond c (h ∷ filter t hs) (filter t hs)) ≡ distinct_count nat_eq (filter t hs) + cond (c && not (is_member nat_eq hs h)) 1 0
    by true e = fresh (is_member nat_eq (filter t hs) h) (is_member nat_eq hs h) (is_member-filter nat_eq_equiv t h (λ x same. ap t (exact_unsigned_eq h x same)) hs ∙ ap (λ b. is_member nat_eq hs h && b) e)
    by false e = omega arith

ones : (a b c d : Bool) → a ≡ c → b ≡ d → ◌≡◌ {A = ℕ} (cond (a && not b) 1 0) (cond (c && not d) 1 0)
ones a b c d e f = ap₂ (λ c m. cond (c && not m) 1 0) e f

pub keys_by_ranks : (rate : ℕ) (hs : List ℕ) → All (λ n. n < 2 ^ 64) hs → keys_in rate hs ≡ count (below rate) (ranks hs)
keys_by_ranks rate [] a = refl
keys_by_ranks rate (h ∷ hs) a =
    let lt = All-head (λ n. n < 2 ^ 64) h hs a in
    let rest = All-tail (λ n. n < 2 ^ 64) h hs a in
    let one = distinct_more (is_in_part rate 0) h hs in
    let other = count_insert (below rate) 0 (rank h) (ranks hs) (ranks_rise hs) in
    let same = ones (below rate (rank h)) (is_member nat_eq (ranks hs) (rank h)) (is_in_part rate 0 h) (is_member nat_eq hs h) (in_below rate h lt) (member_ranks h hs lt rest) in
    let before = keys_by_ranks rate hs rest in
    omega (arith, one, other, same, before)

-- ---- the rank of a place in the order

div_mono : (a b : ℕ) → a ≤ b → a / 18446744073709551616 ≤ b / 18446744073709551616
div_mono a b le = omega arith

none_below : (b k : ℕ) (xs : List ℕ) → Rise b xs → k ≤ b → count (below (k / 2 ^ 64)) xs ≤ 0
none_below b k [] r le = omega arith
none_below b k (x ∷ xs) r le =
    subst (λ c. length (cond c (x ∷ filter (below (k / 2 ^ 64)) xs) (filter (below (k / 2 ^ 64)) xs)) ≤ 0) (sym (le-ltb (x / 2 ^ 64) (k / 2 ^ 64) (div_mono k x (omega (arith, r.0)))))
    (none_below (x + 1) k xs r.1 (omega (arith, r.0)))

at_most_one : (p : ℕ → Bool) (x m : ℕ) (xs : List ℕ) → count p xs ≤ m → count p (x ∷ xs) ≤ suc m
at_most_one p x m xs le = by (p x)
  where
    by : (c : Bool) → length (cond c (x ∷ filter p xs) (filter p xs)) ≤ suc m
    by true = omega arith
    by false = omega arith

one_more : (p : ℕ → Bool) (x m : ℕ) (xs : List ℕ) → p x ≡ true → m ≤ count p xs → suc m ≤ count p (x ∷ xs)
one_more p x m xs e le = subst (λ c. suc m ≤ length (cond c (x ∷ filter p xs) (filter p xs))) (sym e) (omega arith)

of_some : (x k : ℕ) → Some x ≡ Some k → x ≡ k
of_some x k e = ap (λ (o : Option ℕ). unwrap_or o 0) e

pub few_below : (m b k : ℕ) (xs : List ℕ) → Rise b xs → slice_get (take (suc m) xs) m ≡ Some k → count (below (k / 2 ^ 64)) xs ≤ m
few_below m b k [] r e = omega arith
few_below zero b k (x ∷ xs) r e = let same = of_some x k e in none_below k k (x ∷ xs) (omega (arith, same), r.1) (omega arith)
few_below (suc m) b k (x ∷ xs) r e = at_most_one (below (k / 2 ^ 64)) x m xs (few_below m (x + 1) k xs r.1 e)

reaches : (m b k : ℕ) (xs : List ℕ) → Rise b xs → slice_get (take (suc m) xs) m ≡ Some k → b ≤ k
reaches m b k [] r e = absurd (true≢false (sym (ap is_some e)))
reaches zero b k (x ∷ xs) r e = let same = of_some x k e in omega (arith, same, r.0)
reaches (suc m) b k (x ∷ xs) r e = let more = reaches m (x + 1) k xs r.1 e in omega (arith, more, r.0)

passes : (x k other : ℕ) → x ≤ k → k / 2 ^ 64 < other → below other x ≡ true
passes x k other le lt = let mono = div_mono x k le in lt-ltb (x / 2 ^ 64) other (omega (arith, mono, lt))

pub many_below : (m b k other : ℕ) (xs : List ℕ) → Rise b xs → slice_get (take (suc m) xs) m ≡ Some k → k / 2 ^ 64 < other → m < count (below other) xs
many_below m b k other [] r e lt = absurd (true≢false (sym (ap is_some e)))
many_below zero b k other (x ∷ xs) r e lt = let same = of_some x k e in one_more (below other) x 0 xs (passes x k other (omega (arith, same)) lt) (omega arith)
many_below (suc m) b k other (x ∷ xs) r e lt =
    let more = reaches m (x + 1) k xs r.1 e in
    one_more (below other) x (suc m) xs (passes x k other (omega (arith, more)) lt) (many_below m (x + 1) k other xs r.1 e lt)

-- ---- what is kept

abbrev pub Small : List ℕ → Type 0
Small hs = All (λ h. h < 2 ^ 64) hs

rank_within : (h : ℕ) → h < 2 ^ 64 → rank h < 18446744073709551616000000
rank_within h lt = omega arith

pub within_all : (hs : List ℕ) → Small hs → All (λ r. r < 18446744073709551616000000) (ranks hs)
within_all [] a = All-nil (λ r. r < 18446744073709551616000000)
within_all (h ∷ hs) a =
    All-insert_key nat_cmp (rank h) (λ r. r < 18446744073709551616000000) (ranks hs) (within_all hs (All-tail (λ n. n < 2 ^ 64) h hs a)) (rank_within h (All-head (λ n. n < 2 ^ 64) h hs a))

pub one_more_at_most : (n k : ℕ) (b : Bool) → k ≡ n + cond b 1 0 → k ≤ n + 1
one_more_at_most n k true e = omega arith
one_more_at_most n k false e = omega arith

-- the highest one of too many goes
pub popped : (m r : ℕ) (rs ks ins new : List ℕ) (o : Option ℕ) → ks ≡ take (m + 1) rs → ins ≡ insert_key nat_cmp ks r → IfSome o (λ k. ins ≡ new ++ k ∷ []) → (0 < length ins → IsSome o) → m + 1 < length ins → length ins ≤ length ks + 1
    → new ≡ take (m + 1) (insert_key nat_cmp rs r)
popped m r rs ks ins new None is more gone some lt le = absurd (true≢false (sym (some (omega arith))))
popped m r rs ks ins new (Some k) is more gone some lt le =
    let whole-length : length ins ≡ length new + 1 = ap length gone ∙ length-append new (k ∷ []) in
    let kept : length ks ≡ min (m + 1) (length rs) = ap length is ∙ length-take (m + 1) rs in
    let front : take (m + 1) (new ++ k ∷ []) ≡ new = take-append-le (m + 1) new (k ∷ []) (omega arith) ∙ take_all (m + 1) new (omega arith) in
    sym front ∙ ap (take (m + 1)) (sym gone ∙ more ∙ ap (λ l. insert_key nat_cmp l r) is) ∙ take_insert (m + 1) r rs

pub stays : (m r : ℕ) (rs ks ins : List ℕ) → ks ≡ take (m + 1) rs → ins ≡ insert_key nat_cmp ks r → length ins ≤ m + 1 → ins ≡ take (m + 1) (insert_key nat_cmp rs r)
stays m r rs ks ins is more le = sym (take_all (m + 1) ins le) ∙ ap (take (m + 1)) (more ∙ ap (λ l. insert_key nat_cmp l r) is) ∙ take_insert (m + 1) r rs

-- ---- the rate

count_within : (p : ℕ → Bool) (xs : List ℕ) → count p xs ≤ length xs
count_within p [] = omega arith
count_within p (x ∷ xs) = at_most_one p x (length xs) xs (count_within p xs)

pub all_fit : (m : ℕ) (hs ks : List ℕ) → Small hs → ks ≡ take (m + 1) (ranks hs) → length ks ≤ m → IsLargestRate m hs whole
all_fit m hs ks small is le =
    let kept : length ks ≡ min (m + 1) (length (ranks hs)) = ap length is ∙ length-take (m + 1) (ranks hs) in
    let counted = keys_by_ranks whole hs small in
    let all = count_within (below whole) (ranks hs) in
    record {
      few = omega (arith, kept, counted, all, le);
      within = omega arith;
      largest = λ other above within. absurd (omega arith);
    }

found_within : (m k : ℕ) (xs : List ℕ) → All (λ r. r < 18446744073709551616000000) xs → slice_get (take (suc m) xs) m ≡ Some k → k < 18446744073709551616000000
found_within m k xs a e =
    subst (λ n. n < 18446744073709551616000000) (get_or_from_slice_get (take (suc m) xs) m k 0 e)
    (All-get_or (λ r. r < 18446744073709551616000000) (take (suc m) xs) m 0 (slice_get_within (take (suc m) xs) m k e) (All-take (λ r. r < 18446744073709551616000000) (suc m) xs a))

rate_within : (k : ℕ) → k < 18446744073709551616000000 → k / 18446744073709551616 ≤ 1000000
rate_within k lt = omega arith

pub first_out : (m k : ℕ) (hs ks : List ℕ) → Small hs → ks ≡ take (m + 1) (ranks hs) → m < length ks → slice_get ks (length ks - 1) ≡ Some k → IsLargestRate m hs (k / 2 ^ 64)
first_out m k hs ks small is more last =
    let kept : length ks ≡ min (m + 1) (length (ranks hs)) = ap length is ∙ length-take (m + 1) (ranks hs) in
    let place : length ks - 1 ≡ m = omega arith in
    let at : slice_get (take (suc m) (ranks hs)) m ≡ Some k = sym (ap₂ slice_get (is ∙ ap (λ n. take n (ranks hs)) (add-one m)) place) ∙ last in
    record {
      few = let counted = keys_by_ranks (k / 2 ^ 64) hs small in let few = few_below m 0 k (ranks hs) (ranks_rise hs) at in omega (arith, counted, few);
      within = rate_within k (found_within m k (ranks hs) (within_all hs small) at);
      largest = λ other above within. let counted = keys_by_ranks other hs small in let many = many_below m 0 k other (ranks hs) (ranks_rise hs) at above in omega (arith, counted, many);
    }
