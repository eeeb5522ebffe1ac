-- Walks over a recency list from its end: what is evicted, and how many at most.
use Rattle.pcache_evict.specs.Recency.{weight}
use Rattle.pcache_evict.proofs.Words.{◌≡◌, ℕ, suc, ◌+◌, ◌-◌, ◌<◌, not, List, [], ◌∷◌, ◌++◌, reverse, refl, ap, sym, subst, ◌∙◌, arith, length, take, inl, inr, append_assoc, length-append, keys_of, take_at, reverse-append, cases_lt, filter-append, sum_by-cons, CacheEntryKey, entry_eq, Walk, Limits, Recency, others, moved, IsWithinAsList, IsEnough}

-- what was evicted so far
pub record Pops (limits : Limits) (before now : Recency) (out : List CacheEntryKey) : Type 0 where
  pub tail : Recency
  pub split : before ≡ now ++ tail
  pub order : out ≡ reverse (keys_of tail)
  pub shortest : (front back : Recency) → before ≡ front ++ back → length back < length tail → ¬ IsWithinAsList limits front

pub append_nil : {X : Type 0} (xs : List X) → xs ≡ xs ++ []
append_nil [] = refl
append_nil (x ∷ xs) = ap (λ l. x ∷ l) (append_nil xs)

-- two splits with ends of one length are one
pub same_front : (a b c d : Recency) → a ++ b ≡ c ++ d → length b ≡ length d → a ≡ c
same_front a b c d e h =
    let whole = ap (λ (l : Recency). length l) e in
    let left = length-append a b in
    let right = length-append c d in
    sym (take_at a b (length a) refl) ∙ ap (λ (l : Recency). take (length a) l) e ∙ take_at c d (length a) (omega arith)

reverse-cons : {X : Type 0} (x : X) (xs : List X) → reverse (x ∷ xs) ≡ reverse xs ++ x ∷ []
reverse-cons x xs = reverse-append (x ∷ []) xs

pub pops-more : (limits : Limits) (before now front : Recency) (e : CacheEntryKey × ℕ) (out : List CacheEntryKey) → Pops limits before now out → now ≡ front ++ e ∷ [] → ¬ IsWithinAsList limits now → Pops limits before front (out ++ e.0 ∷ [])
pops-more limits before now front e out p is over =
    record {
      tail = e ∷ p.tail;
      split = p.split ∙ ap (λ l. l ++ p.tail) is ∙ append_assoc front (e ∷ []) p.tail;
      order = ap (λ l. l ++ e.0 ∷ []) p.order ∙ sym (reverse-cons e.0 (keys_of p.tail));
      shortest = λ f b s less. elim (cases_lt (length b) (length p.tail)) [
        | inl lt ↦ p.shortest f b s lt
        | inr ge ↦ subst (λ l. ¬ IsWithinAsList limits l) (same_front now p.tail f b (sym p.split ∙ s) (omega arith)) over
      ];
    }

length-keys : (l : Recency) → length (keys_of l) ≡ length l
length-keys [] = refl
length-keys (e ∷ l) = ap suc (length-keys l)

length-reverse : {X : Type 0} (xs : List X) → length (reverse xs) ≡ length xs
length-reverse [] = refl
length-reverse {X = X} (x ∷ xs) = ap (λ (l : List X). length l) (reverse-cons x xs) ∙ (let a = length-append (reverse xs) (x ∷ []) in let r = length-reverse xs in omega arith)

-- while the limits don't hold, fewer went than are enough
pub pops-room : (limits : Limits) (before now : Recency) (out : List CacheEntryKey) (m : ℕ) → Pops limits before now out → ¬ IsWithinAsList limits now → IsEnough limits before m → length out < m
pops-room limits before now out m p over (front, back, split, le, inside) =
    let count : length out ≡ length p.tail = ap (λ (l : List CacheEntryKey). length l) p.order ∙ length-reverse (keys_of p.tail) ∙ length-keys p.tail in
    elim (cases_lt (length p.tail) (length back)) [
      | inl lt ↦ omega arith
      | inr ge ↦ elim (cases_lt (length back) (length p.tail)) [
        | inl less ↦ absurd (p.shortest front back split less inside)
        | inr eq ↦ absurd (over (subst (IsWithinAsList limits) (same_front front back now p.tail (sym split ∙ p.split) (omega arith)) inside))
      ]
    ]

-- a walk over the list as it was, that leaves out the entry to be moved
pub record Walks (k : CacheEntryKey) (n : ℕ) (l left : Recency) (total items gone : ℕ) : Type 0 where
  pub passed : Recency
  pub split : l ≡ left ++ passed
  pub sum : total ≡ n + weight (others k left)
  pub count : items ≡ 1 + length (others k left)
  pub room : gone ≡ length (others k passed)

moved_split : (k : CacheEntryKey) (n : ℕ) (l left passed : Recency) → l ≡ left ++ passed → moved k n l ≡ moved k n left ++ others k passed
moved_split k n l left passed is = ap (λ xs. (k, n) ∷ xs) (ap (others k) is ∙ filter-append (λ (e : CacheEntryKey × ℕ). not (entry_eq k e.0)) left passed)

pub walks-enough : (limits : Limits) (k : CacheEntryKey) (n : ℕ) (l left : Recency) (total items gone : ℕ) → Walks k n l left total items gone → IsWithinAsList limits (moved k n left) → IsEnough limits (moved k n l) gone
walks-enough limits k n l left total items gone w inside = (moved k n left, others k w.passed, moved_split k n l left w.passed w.split, (let room = w.room in omega arith), inside)

-- the sum and the number that the walk is to have
pub moved-sum : (k : CacheEntryKey) (n : ℕ) (l : Recency) → weight (moved k n l) ≡ n + weight (others k l)
moved-sum k n l = sum_by-cons (λ (e : CacheEntryKey × ℕ). e.1) (k, n) (others k l)

pub walks-inside : (limits : Limits) (k : CacheEntryKey) (n : ℕ) (l left : Recency) (total items gone : ℕ) → Walks k n l left total items gone → ((l : Recency) → total ≡ weight l → items ≡ length l → IsWithinAsList limits l) → IsWithinAsList limits (moved k n left)
walks-inside limits k n l left total items gone w within = within (moved k n left) (w.sum ∙ sym (moved-sum k n left)) (let count = w.count in omega arith)

-- a walk that began beside other lists: what stays beside this one, and what was passed before
pub record Walking (k : CacheEntryKey) (l left : Recency) (start : Walk) (total items gone : ℕ) : Type 0 where
  pub passed : Recency
  pub split : l ≡ left ++ passed
  pub sum : total ≡ (start.sum - weight (others k l)) + weight (others k left)
  pub count : items ≡ (start.count - length (others k l)) + length (others k left)
  pub room : gone ≡ start.room + length (others k passed)
  pub fits : gone + items ≡ start.room + start.count
