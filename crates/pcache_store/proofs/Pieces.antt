-- Bytes in several pieces.
use Rattle.std.proofs.Common.{◌⊎◌, drop, append_assoc, length-drop}
use Rattle.std.proofs.Math.Seq.{drop-cons}
use Rattle.std.proofs.lemmas.List.{take_more, take_all}
use Rattle.pcache_store.proofs.Words.{inl, inr, ◌==◌, true, ◌≡◌, ◌<◌, ◌≤◌, ◌+◌, ◌-◌, ℕ, suc, zero, List, [], ◌∷◌, ◌++◌, length, take, get_or, refl, sym, ◌∙◌, ap, arith, length-append, concat, cases_lt, nat_tests, append-nil, take-append-drop}

pub concat_more : (xs ys : List (List ℕ)) → concat (xs ++ ys) ≡ concat xs ++ concat ys
concat_more [] ys = refl
concat_more (x ∷ xs) ys = ap (λ zs. x ++ zs) (concat_more xs ys) ∙ sym (append_assoc x (concat xs) (concat ys))

concat_one : (x : List ℕ) → concat (x ∷ []) ≡ x
concat_one x = append-nil x

pub concat_next : (ps : List (List ℕ)) (i : ℕ) (d : List ℕ) → i < length ps → concat (take (i + 1) ps) ≡ concat (take i ps) ++ get_or ps i d
concat_next ps i d lt = ap concat (take_more ps i d lt) ∙ concat_more (take i ps) (get_or ps i d ∷ []) ∙ ap (λ zs. concat (take i ps) ++ zs) (concat_one (get_or ps i d))

pub length_next : (ps : List (List ℕ)) (i : ℕ) (d : List ℕ) → i < length ps → length (concat (take (i + 1) ps)) ≡ length (concat (take i ps)) + length (get_or ps i d)
length_next ps i d lt = ap length (concat_next ps i d lt) ∙ length-append (concat (take i ps)) (get_or ps i d)

-- a text with the pieces so far, and one more
pub put_next : (text : List ℕ) (ps : List (List ℕ)) (i : ℕ) (d now next : List ℕ) → i < length ps → now ≡ text ++ concat (take i ps) → next ≡ now ++ get_or ps i d → next ≡ text ++ concat (take (i + 1) ps)
put_next text ps i d now next lt so_far more =
    more ∙ ap (λ x. x ++ get_or ps i d) so_far ∙ append_assoc text (concat (take i ps)) (get_or ps i d) ∙ ap (λ x. text ++ x) (sym (concat_next ps i d lt))

pub put_all : (text : List ℕ) (ps : List (List ℕ)) (i : ℕ) → length ps ≤ i → text ++ concat (take i ps) ≡ text ++ concat ps
put_all text ps i le = ap (λ xs. text ++ concat xs) (take_all i ps le)

-- what was gathered is a piece now
pub settled : (ps new : List (List ℕ)) (t b u : List ℕ) → b ≡ t → new ≡ ps ++ b ∷ [] → u ≡ [] → concat new ++ u ≡ concat ps ++ t
settled ps new t b u same last none =
    ap (λ x. concat new ++ x) none ∙ append-nil (concat new) ∙ ap concat last ∙ concat_more ps (b ∷ []) ∙ ap (λ x. concat ps ++ x) (concat_one b ∙ same)

-- the bytes of a piece and of those behind it
pub passed : (xs ys : List ℕ) (place : ℕ) → length xs ≤ place → drop place (xs ++ ys) ≡ drop (place - length xs) ys
passed [] ys place le = let e : place ≡ place - 0 = omega arith in ap (λ n. drop n ys) e
passed (x ∷ xs) ys zero le = absurd (omega arith)
passed (x ∷ xs) ys (suc place) le =
    let less : length xs ≤ place = omega arith in
    let e : place - length xs ≡ suc place - suc (length xs) = omega arith in
    passed xs ys place less ∙ ap (λ n. drop n ys) e

-- from an index within the pieces from one on
pub from_piece : (ps : List (List ℕ)) (tail : List ℕ) (at place start : ℕ) → start ≡ length (concat (take at ps)) → start ≤ place → drop (place - start) (concat (drop at ps) ++ tail) ≡ drop place (concat ps ++ tail)
from_piece ps tail at place start is le =
    let below : length (concat (take at ps)) ≤ place = omega arith in
    ap (λ n. drop (place - n) (concat (drop at ps) ++ tail)) is
    ∙ sym (passed (concat (take at ps)) (concat (drop at ps) ++ tail) place below)
    ∙ ap (drop place) (sym (append_assoc (concat (take at ps)) (concat (drop at ps)) tail) ∙ ap (λ x. x ++ tail) (sym (concat_more (take at ps) (drop at ps)) ∙ ap concat (take-append-drop at ps)))

-- ---- back from the last piece

pub some_left : (ps : List (List ℕ)) (count start place : ℕ) → start ≡ length (concat (take count ps)) → place < start → 0 < count
some_left ps zero start place is lt = absurd (omega arith)
some_left ps (suc n) start place is lt = omega arith

pub step_back : (ps : List (List ℕ)) (count : ℕ) (d : List ℕ) → 0 < count → count ≤ length ps → length (concat (take count ps)) ≡ length (concat (take (count - 1) ps)) + length (get_or ps (count - 1) d)
step_back ps count d some le =
    let lt : count - 1 < length ps = omega arith in
    let e : count ≡ count - 1 + 1 = omega arith in
    ap (λ n. length (concat (take n ps))) e ∙ length_next ps (count - 1) d lt

pub all_taken : (ps : List (List ℕ)) (count : ℕ) → length ps ≤ count → length (concat (take count ps)) ≡ length (concat ps)
all_taken ps count le = ap (λ xs. length (concat xs)) (take_all count ps le)

-- the last piece is all that is left
pub last_piece : (ps : List (List ℕ)) (at : ℕ) (d : List ℕ) → at < length ps → at + 1 ≡ length ps → concat ps ≡ concat (take at ps) ++ get_or ps at d
last_piece ps at d lt is =
    let le : length ps ≤ at + 1 = omega arith in
    sym (ap concat (take_all (at + 1) ps le)) ∙ concat_next ps at d lt

-- ---- the bytes from an index on

whole_rest : (ps : List (List ℕ)) (at : ℕ) → take (length ps - at) (drop at ps) ≡ drop at ps
whole_rest ps at = let le : length (drop at ps) ≤ length ps - at = omega (arith, length-drop at ps) in take_all (length ps - at) (drop at ps) le

pub rest_of_tail : (ps : List (List ℕ)) (tail whole : List ℕ) (len end place : ℕ) → concat ps ++ tail ≡ whole → len ≡ length (concat ps ++ tail) → end ≡ len - length tail → end ≤ place
    → take (length tail - (place - end)) (drop (place - end) tail) ≡ drop place whole
rest_of_tail ps tail whole len end place is len_is end_is le =
    let both : length (concat ps ++ tail) ≡ length (concat ps) + length tail = length-append (concat ps) tail in
    let ends : end ≡ length (concat ps) = omega arith in
    let below : length (concat ps) ≤ place = omega arith in
    let all : length (drop (place - end) tail) ≤ length tail - (place - end) = omega (arith, length-drop (place - end) tail) in
    take_all (length tail - (place - end)) (drop (place - end) tail) all
    ∙ ap (λ n. drop (place - n) tail) ends ∙ sym (passed (concat ps) tail place below) ∙ ap (drop place) is

pub rest_of_last : (ps : List (List ℕ)) (tail whole p d : List ℕ) (at place start : ℕ) → concat ps ++ tail ≡ whole → tail ≡ [] → at < length ps → at + 1 ≡ length ps → p ≡ get_or ps at d → start ≡ length (concat (take at ps)) → start ≤ place
    → take (length p - (place - start)) (drop (place - start) p) ≡ drop place whole
rest_of_last ps tail whole p d at place start is none lt last p_is start_is le =
    let below : length (concat (take at ps)) ≤ place = omega arith in
    let all : length (drop (place - start) p) ≤ length p - (place - start) = omega (arith, length-drop (place - start) p) in
    take_all (length p - (place - start)) (drop (place - start) p) all
    ∙ ap (λ n. drop (place - n) p) start_is ∙ sym (passed (concat (take at ps)) p place below)
    ∙ ap (drop place) (ap (λ x. concat (take at ps) ++ x) p_is ∙ sym (last_piece ps at d lt last) ∙ sym (append-nil (concat ps)) ∙ ap (λ x. concat ps ++ x) (sym none) ∙ is)

pub rest_of_pieces : (ps : List (List ℕ)) (tail whole b : List ℕ) (at place start : ℕ) → concat ps ++ tail ≡ whole → start ≡ length (concat (take at ps)) → start ≤ place
    → b ≡ drop (place - start) (concat (take (length ps - at) (drop at ps)) ++ tail) → b ≡ drop place whole
rest_of_pieces ps tail whole b at place start is start_is le copied =
    copied ∙ ap (λ xs. drop (place - start) (concat xs ++ tail)) (whole_rest ps at) ∙ from_piece ps tail at place start start_is le ∙ ap (drop place) is

first_piece : (ps : List (List ℕ)) (at : ℕ) (d : List ℕ) → at < length ps → concat (take 1 (take (length ps - at) (drop at ps))) ≡ get_or ps at d
first_piece ps at d lt = ap (λ xs. concat (take 1 xs)) (whole_rest ps at ∙ drop-cons ps at d lt) ∙ concat_one (get_or ps at d)

pub skips : (ps : List (List ℕ)) (at place start : ℕ) → at < length ps → start ≡ length (concat (take at ps)) → place < length (concat (take (at + 1) ps)) → place - start ≤ length (concat (take 1 (take (length ps - at) (drop at ps))))
skips ps at place start lt start_is inside =
    let next : length (concat (take (at + 1) ps)) ≡ length (concat (take at ps)) + length (get_or ps at []) = length_next ps at [] lt in
    let first : length (concat (take 1 (take (length ps - at) (drop at ps)))) ≡ length (get_or ps at []) = ap length (first_piece ps at [] lt) in
    omega arith

pub within : (ps : List (List ℕ)) (p : List ℕ) (at place start : ℕ) → at < length ps → p ≡ get_or ps at p → start ≡ length (concat (take at ps)) → place < length (concat (take (at + 1) ps)) → place - start ≤ length p
within ps p at place start lt p_is start_is inside =
    let next : length (concat (take (at + 1) ps)) ≡ length (concat (take at ps)) + length (get_or ps at p) = length_next ps at p lt in
    let len : length p ≡ length (get_or ps at p) = ap length p_is in
    omega arith

-- ---- one more piece

pub pushed : (ps mid new : List (List ℕ)) (tail none b : List ℕ) → concat mid ++ none ≡ concat ps ++ tail → none ≡ [] → new ≡ mid ++ b ∷ [] → concat new ++ none ≡ (concat ps ++ tail) ++ b
pushed ps mid new tail none b same empty last =
    ap (λ x. concat new ++ x) empty ∙ append-nil (concat new) ∙ ap concat last ∙ concat_more mid (b ∷ []) ∙ ap (λ x. concat mid ++ x) (concat_one b)
    ∙ ap (λ x. x ++ b) (sym (append-nil (concat mid)) ∙ ap (λ x. concat mid ++ x) (sym empty) ∙ same)

-- the piece that is left begins before the end
pub begun_before : (ps : List (List ℕ)) (count start end place : ℕ) → end ≡ length (concat ps) → start ≡ length (concat (take count ps)) → start ≤ place → place < end → count < length ps
begun_before ps count start end place end_is start_is le lt = by_order (cases_lt count (length ps)) where
  by_order : (count < length ps) ⊎ (length ps ≤ count) → count < length ps
  by_order (inl less) = less
  by_order (inr all) = let same : length (concat (take count ps)) ≡ length (concat ps) = all_taken ps count all in absurd (omega arith)

pub empty_tail : (xs : List ℕ) → (length xs == 0) ≡ true → xs ≡ []
empty_tail [] e = refl
empty_tail (x ∷ xs) e = let is : length (x ∷ xs) ≡ 0 = grind (arith, nat_tests) in absurd (omega arith)
