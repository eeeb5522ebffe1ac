-- Keys that stand by themselves are told apart, from each other and from longer ones.
use Rattle.std.proofs.Common.{⊎_elim, replicate, length-append}
use Rattle.std.proofs.lemmas.Bool.{le-leb, lt-leb}
use Rattle.std.proofs.lemmas.List.{length-replicate, length-drop, take-append-drop}
use Rattle.pcache_base.specs.Blake2b.{blake2b_128}
use Rattle.cache_simulation.specs.Names.{without_tag, padded, by_itself, stands_by}
use Rattle.cache_simulation.proofs.Words.{◌≡◌, ◌∙◌, ℕ, ◌-◌, ◌≤◌, ◌<◌, ◌++◌, ◌∷◌, [], List, Option, None, Some, cond, ap, sym, length, take, drop, arith, drop-append_seam, take-append_seam, cases_lt, append_assoc}

-- the kinds of keys

short : (a : List ℕ) → length a ≤ 15 → stands_by a ≡ without_tag (padded a) None
short a few =
    ap (λ t. cond t (by_itself a) (without_tag (blake2b_128 a) (Some (replicate 16 255)))) (le-leb (length a) 31 (omega arith))
    ∙ ap (λ t. cond t (without_tag (padded a) None) (without_tag (take 16 a) (Some (padded (drop 16 a))))) (le-leb (length a) 15 few)

middle : (a : List ℕ) → 15 < length a → length a ≤ 31 → stands_by a ≡ without_tag (take 16 a) (Some (padded (drop 16 a)))
middle a many few =
    ap (λ t. cond t (by_itself a) (without_tag (blake2b_128 a) (Some (replicate 16 255)))) (le-leb (length a) 31 few)
    ∙ ap (λ t. cond t (without_tag (padded a) None) (without_tag (take 16 a) (Some (padded (drop 16 a))))) (lt-leb (length a) 15 many)

long : (a : List ℕ) → 31 < length a → stands_by a ≡ without_tag (blake2b_128 a) (Some (replicate 16 255))
long a many = ap (λ t. cond t (by_itself a) (without_tag (blake2b_128 a) (Some (replicate 16 255)))) (lt-leb (length a) 31 many)

-- what is read off them

abbrev head_of : List ℕ → ℕ
head_of [] = 0
head_of (x ∷ xs) = x

abbrev parts_of : Option (List ℕ) → ℕ
parts_of None = 0
parts_of (Some x) = 1

abbrev second_of : Option (List ℕ) → List ℕ
second_of None = []
second_of (Some x) = x

ends : (part : List ℕ) → length part ≤ 15 → drop 15 (padded part) ≡ length part ∷ []
ends part few =
    let zeros : List ℕ = replicate (15 - length part) 0 in
    let joined = length-append part zeros in
    let filled : length zeros ≡ 15 - length part = length-replicate (15 - length part) 0 in
    let whole : length (part ++ zeros) ≡ 15 = omega arith in
    ap (λ n. drop n (padded part)) (sym whole) ∙ drop-append_seam (part ++ zeros) (length part ∷ [])

padded-same : (a b : List ℕ) → length a ≤ 15 → length b ≤ 15 → padded a ≡ padded b → a ≡ b
padded-same a b few_a few_b same =
    let long : length a ≡ length b = ap head_of (sym (ends a few_a) ∙ ap (drop 15) same ∙ ends b few_b) in
    let front : (c : List ℕ) → take (length c) (padded c) ≡ c = λ c.
    ap (take (length c)) (append_assoc {A = ℕ} c (replicate (15 - length c) 0) (length c ∷ [])) ∙ take-append_seam c (replicate (15 - length c) 0 ++ length c ∷ []) in
    sym (front a) ∙ ap (take (length a)) same ∙ ap (λ n. take n (padded b)) long ∙ front b

-- a key above fifteen bytes has a second part
has-second : (b : List ℕ) → 15 < length b → parts_of (stands_by b).variance ≡ 1
has-second b many = ⊎_elim (λ m. ap (λ k. parts_of k.variance) (long b m)) (λ few. ap (λ k. parts_of k.variance) (middle b many few)) (cases_lt 31 (length b))

pub told-apart : (a b : List ℕ) → length a ≤ 31 → stands_by a ≡ stands_by b → a ≡ b
told-apart a b few same = ⊎_elim of_middle of_short (cases_lt 15 (length a))
  where
    of_short : length a ≤ 15 → a ≡ b
    of_short few_a =
        let is = sym (short a few_a) ∙ same in
        ⊎_elim
        (λ many_b. let one = ap (λ k. parts_of k.variance) is ∙ has-second b many_b in absurd (omega arith))
        (λ few_b. padded-same a b few_a few_b (ap (λ k. k.primary) (is ∙ short b few_b)))
        (cases_lt 15 (length b))

    of_middle : 15 < length a → a ≡ b
    of_middle many_a =
        let is = sym (middle a many_a few) ∙ same in
        let rest_a = length-drop 16 a in
        let few_a : length (drop 16 a) ≤ 15 = omega arith in
        ⊎_elim
        (λ many_b.
        let last = ap head_of (sym (ends (drop 16 a) few_a) ∙ ap (λ k. drop 15 (second_of k.variance)) (is ∙ long b many_b)) in
        absurd (omega arith))
        (λ few_31. ⊎_elim
        (λ many_b.
        let both = is ∙ middle b many_b few_31 in
        let rest_b = length-drop 16 b in
        let few_b : length (drop 16 b) ≤ 15 = omega arith in
        let rest = padded-same (drop 16 a) (drop 16 b) few_a few_b (ap (λ k. second_of k.variance) both) in
        sym (take-append-drop 16 a) ∙ ap (λ x. x ++ drop 16 a) (ap (λ k. k.primary) both) ∙ ap (λ x. take 16 b ++ x) rest ∙ take-append-drop 16 b)
        (λ few_b. let none = ap (λ k. parts_of k.variance) (is ∙ short b few_b) in absurd (omega arith))
        (cases_lt 15 (length b)))
        (cases_lt 31 (length b))
