-- Where heads end in bytes that come in two pieces.
use Rattle.std.proofs.Common.{zero, slice_index}
use Rattle.std.proofs.Math.Seq.{take-add}
use Rattle.pcache_response.proofs.Words.{◌≡◌, ◌≢◌, ℕ, suc, true, false, Bool, [], ◌∷◌, refl, ◌+◌, ◌-◌, ◌<◌, ◌≤◌, ◌⊎◌, inl, inr, List, ◌++◌, length, take, drop, ap, sym, ◌∙◌, subst, arith, length-append, take-append-le, take_more, fold-append, ◌==◌, take-append-add, next, state_after, CutsAt, NeverCuts, HeadState, Blank, Inside, Ended}

-- the state after two pieces
pub state-append : (p : HeadState) (a b : List ℕ) → state_after p (a ++ b) ≡ state_after (state_after p a) b
state-append p a b = fold-append next p a b

-- after the first piece and a front of the second
past : (p : HeadState) (a b : List ℕ) (k : ℕ) → state_after p (take (length a + k) (a ++ b)) ≡ state_after (state_after p a) (take k b)
past p a b k = ap (state_after p) (take-append-add a b k) ∙ state-append p a (take k b)

-- after a front of the first
within_first : (p : HeadState) (a b : List ℕ) (k : ℕ) → k ≤ length a → state_after p (take k (a ++ b)) ≡ state_after p (take k a)
within_first p a b k le = ap (state_after p) (take-append-le k a b le)

order : (k n : ℕ) → (k ≤ n) ⊎ (n < k)
order k n = grind arith

not_sooner : (a b : List ℕ) (n k : ℕ) → NeverCuts a → ((j : ℕ) → j < n → state_after (state_after Blank a) (take j b) ≢ Ended)
    → k < length a + n → (k ≤ length a) ⊎ (length a < k) → state_after Blank (take k (a ++ b)) ≢ Ended
not_sooner a b n k unended later lt (inl le) = λ e. unended k le (sym (within_first Blank a b k le) ∙ e)
not_sooner a b n k unended later lt (inr gt) = λ e.
    let here : length a + (k - length a) ≡ k = omega arith in
    later (k - length a) (omega arith) (sym (past Blank a b (k - length a)) ∙ ap (λ j. state_after Blank (take j (a ++ b))) here ∙ e)

-- a head that ends in the second piece
pub CutsAt-append : (a b : List ℕ) (n : ℕ) → NeverCuts a → CutsAt (state_after Blank a) b n → CutsAt Blank (a ++ b) (length a + n)
CutsAt-append a b n unended h = record {
  within = omega (arith, length-append a b, h.within);
  ended = past Blank a b n ∙ h.ended;
  no_sooner = λ k lt. not_sooner a b n k unended h.no_sooner lt (order k (length a));
}

-- one that does not
pub NeverCuts-append : (a b : List ℕ) → NeverCuts a → ((k : ℕ) → k ≤ length b → state_after (state_after Blank a) (take k b) ≢ Ended) → NeverCuts (a ++ b)
NeverCuts-append a b unended later = λ k le.
    let size = length-append a b in
    not_sooner a b (length b + 1) k unended (λ j lt. later j (omega arith)) (omega (arith, size)) (order k (length a))

-- it ends at one index
pub CutsAt-unique : (p : HeadState) (a : List ℕ) (n k : ℕ) → CutsAt p a n → CutsAt p a k → n ≡ k
CutsAt-unique p a n k h g =
    let first : ¬ (k < n) = λ lt. h.no_sooner k lt g.ended in
    let second : ¬ (n < k) = λ lt. g.no_sooner n lt h.ended in
    grind (arith, first, second)

-- the same, with the state kept beside the first piece
pub joined_open : (p q : HeadState) (a b c : List ℕ) → p ≡ state_after Blank a → NeverCuts a → q ≡ state_after p b → ((k : ℕ) → k ≤ length b → state_after p (take k b) ≢ Ended) → c ≡ a ++ b → (q ≡ state_after Blank c) × NeverCuts c
joined_open p q a b c e unended moved later whole =
    let here : q ≡ state_after Blank (a ++ b) = moved ∙ ap (λ r. state_after r b) e ∙ sym (state-append Blank a b) in
    let rest : NeverCuts (a ++ b) = NeverCuts-append a b unended (subst (λ r. (k : ℕ) → k ≤ length b → state_after r (take k b) ≢ Ended) e later) in
    rw whole (here, rest)

pub joined_ended : (p : HeadState) (a b : List ℕ) (n : ℕ) → p ≡ state_after Blank a → NeverCuts a → CutsAt p b n → CutsAt Blank (a ++ b) (length a + n)
joined_ended p a b n e unended h = CutsAt-append a b n unended (subst (λ r. CutsAt r b n) e h)

-- ---- runs of bytes that do not change the state

not_true : (b : Bool) → (b ≡ true → ⊥) → b ≡ false
not_true true never = absurd (never refl)
not_true false never = refl

inside_next : (b : ℕ) → ((b == 0x0A) ≡ true → ⊥) → next Inside b ≡ Inside
inside_next b never = rw (not_true (b == 0x0A) never) refl

-- in a line, up to its line feed
pub inside_run : (bytes : List ℕ) (n : ℕ) → ((k : ℕ) → k < n → (slice_index bytes k == 0x0A) ≡ true → ⊥) → (k : ℕ) → k ≤ n → state_after Inside (take k bytes) ≡ Inside
inside_run bytes n none zero le = refl
inside_run [] n none (suc k) le = refl
inside_run (b ∷ bytes) n none (suc k) le =
    ap (λ p. state_after p (take k bytes)) (inside_next b (none 0 (omega (arith, le))))
    ∙ inside_run bytes (n - 1) (λ j lt. none (suc j) (omega (arith, lt))) k (omega (arith, le))

-- the byte after it
pub place_next : (p q : HeadState) (bytes : List ℕ) (j : ℕ) → j < length bytes → state_after p (take j bytes) ≡ q → state_after p (take (j + 1) bytes) ≡ next q (slice_index bytes j)
place_next p q bytes j lt there =
    ap (state_after p) (take_more bytes j 0 lt) ∙ state-append p (take j bytes) (slice_index bytes j ∷ []) ∙ ap (λ r. next r (slice_index bytes j)) there

-- after a run, and at each byte of it
pub place_stays : (p q : HeadState) (bytes : List ℕ) (i n : ℕ) → q ≡ state_after p (take i bytes) → ((k : ℕ) → k ≤ n → state_after q (take k (drop i bytes)) ≡ q) → (k : ℕ) → k ≤ n → state_after p (take (i + k) bytes) ≡ q
place_stays p q bytes i n there stays k le =
    ap (state_after p) (take-add i k bytes) ∙ state-append p (take i bytes) (take k (drop i bytes)) ∙ ap (λ r. state_after r (take k (drop i bytes))) (sym there) ∙ stays k le

-- if the head did not end before a run, it does not end in it
pub run_goes_on : (p q : HeadState) (bytes : List ℕ) (i n : ℕ) → q ≡ state_after p (take i bytes) → q ≢ Ended → ((k : ℕ) → k ≤ i → state_after p (take k bytes) ≢ Ended) → ((k : ℕ) → k ≤ n → state_after q (take k (drop i bytes)) ≡ q)
    → (k : ℕ) → k ≤ i + n → state_after p (take k bytes) ≢ Ended
run_goes_on p q bytes i n there going before stays k le = by_order (order k i) where
  by_order : (k ≤ i) ⊎ (i < k) → state_after p (take k bytes) ≢ Ended
  by_order (inl early) = before k early
  by_order (inr late) = λ e.
      let here : i + (k - i) ≡ k = omega arith in
      going (sym (place_stays p q bytes i n there stays (k - i) (omega (arith, le))) ∙ ap (λ j. state_after p (take j bytes)) here ∙ e)

-- a run, and the byte after it, at which the head ends
pub cuts_behind : (p q : HeadState) (bytes : List ℕ) (i n : ℕ) → i + n < length bytes → q ≡ state_after p (take i bytes) → q ≢ Ended → ((k : ℕ) → k ≤ i → state_after p (take k bytes) ≢ Ended) → ((k : ℕ) → k ≤ n → state_after q (take k (drop i bytes)) ≡ q)
    → next q (slice_index bytes (i + n)) ≡ Ended → CutsAt p bytes (i + n + 1)
cuts_behind p q bytes i n lt there going before stays ends = record {
  within = omega (arith, lt);
  ended = place_next p q bytes (i + n) lt (place_stays p q bytes i n there stays n (omega arith)) ∙ ends;
  no_sooner = λ k le. run_goes_on p q bytes i n there going before stays k (omega (arith, le));
}

-- one at which it does not
pub goes_on_behind : (p q r : HeadState) (bytes : List ℕ) (i n : ℕ) → i + n < length bytes → q ≡ state_after p (take i bytes) → q ≢ Ended → ((k : ℕ) → k ≤ i → state_after p (take k bytes) ≢ Ended) → ((k : ℕ) → k ≤ n → state_after q (take k (drop i bytes)) ≡ q)
    → r ≡ next q (slice_index bytes (i + n)) → r ≢ Ended → (r ≡ state_after p (take (i + n + 1) bytes)) × ((k : ℕ) → k ≤ i + n + 1 → state_after p (take k bytes) ≢ Ended)
goes_on_behind p q r bytes i n lt there going before stays e on =
    let here : r ≡ state_after p (take (i + n + 1) bytes) = e ∙ sym (place_next p q bytes (i + n) lt (place_stays p q bytes i n there stays n (omega arith))) in
    (here, λ k le. by_order k le (order k (i + n)) here)
  where
    by_order : (k : ℕ) → k ≤ i + n + 1 → (k ≤ i + n) ⊎ (i + n < k) → r ≡ state_after p (take (i + n + 1) bytes) → state_after p (take k bytes) ≢ Ended
    by_order k le (inl early) here = run_goes_on p q bytes i n there going before stays k early
    by_order k le (inr late) here = λ x. on (here ∙ ap (λ j. state_after p (take j bytes)) (let same : i + n + 1 ≡ k = omega arith in same) ∙ x)
