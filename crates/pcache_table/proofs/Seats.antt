-- Locks at their places.
use Rattle.std.proofs.lemmas.List.{map-append, map-id}
use Rattle.std.proofs.lemmas.List.FromFn.{fill_by_all, get_or-range_with_len}
use Rattle.pcache_table.specs.Sharding.{Seat}
use Rattle.pcache_table.proofs.Words.{◌≡◌, ◌∙◌, ◌+◌, ◌<◌, ◌++◌, ℕ, List, [], ◌∷◌, length, get_or, ap, sym, arith, range_with_len, map, get_or-map-range_with_len, length-map-range_with_len, map-range_with_len_more, seats}

pub place-at : (places : List ℕ) (n i d : ℕ) → places ≡ range_with_len 0 n → i < n → get_or places i d ≡ i
place-at places n i d is lt = ap (λ x. get_or x i d) is ∙ (get_or-range_with_len 0 n i d lt ∙ omega arith)

pub all-places : (places : List ℕ) (n : ℕ) → length places ≡ n → ((i e : ℕ) → i < n → get_or places i e ≡ i) → places ≡ range_with_len 0 n
all-places places n long at = fill_by_all (λ place. place) places n 0 long (λ k lt. at k 0 lt) ∙ map-id (range_with_len 0 n)

abbrev seat : ℕ → ℕ → Seat
seat c place = record { place = place; cap = c }

pub seats-long : (ss : List Seat) (n c : ℕ) → ss ≡ seats n c → length ss ≡ n
seats-long ss n c is = ap length is ∙ length-map-range_with_len (seat c) 0 n

pub seat-at : (ss : List Seat) (n c i : ℕ) (d : Seat) → ss ≡ seats n c → i < n → get_or ss i d ≡ seat c i
seat-at ss n c i d is lt = ap (λ x. get_or x i d) is ∙ get_or-map-range_with_len (seat c) 0 n i i d lt (omega arith)

pub seats-more : (n c : ℕ) → seats (n + 1) c ≡ seats n c ++ seat c n ∷ []
seats-more n c = map-range_with_len_more (seat c) 0 n n (omega arith)

range-more : (n : ℕ) → range_with_len 0 n ++ n ∷ [] ≡ range_with_len 0 (n + 1)
range-more n = ap (λ l. l ++ n ∷ []) (sym (map-id (range_with_len 0 n))) ∙ sym (map-range_with_len_more (λ k. k) 0 n n (omega arith)) ∙ map-id (range_with_len 0 (n + 1))

-- one more of what stands in the order of its places
pub places-more : {A : Type 0} (place : A → ℕ) (xs : List A) (x : A) (n : ℕ) → map place xs ≡ range_with_len 0 n → place x ≡ n → map place (xs ++ x ∷ []) ≡ range_with_len 0 (n + 1)
places-more place xs x n is at = map-append place xs (x ∷ []) ∙ ap (λ l. l ++ place x ∷ []) is ∙ ap (λ k. range_with_len 0 n ++ k ∷ []) at ∙ range-more n
