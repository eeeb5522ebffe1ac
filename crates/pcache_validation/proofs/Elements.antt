-- A list's elements, from the first separator on.
use Rattle.std.specs.List.{onto_first}
use Rattle.pcache_validation.specs.Lists.{separates, quoted_after, parts, trim_ows, elements}
use Rattle.pcache_validation.proofs.Words.{◌≡◌, ℕ, ◌+◌, Bool, true, false, cond, List, [], ◌∷◌, ◌++◌, take, drop, map, refl, ap}

-- the parts, with a list put before the first
abbrev pub joined : List ℕ → List (List ℕ) → List (List ℕ)
joined xs [] = xs ∷ []
joined xs (p ∷ ps) = (xs ++ p) ∷ ps

-- the parts of all bytes are those from a place on, with the bytes before it
pub record Leads (bytes : List ℕ) (at : ℕ) (in_quotes : Bool) : Type 0 where
  pub parts : parts false bytes ≡ joined (take at bytes) (parts in_quotes (drop at bytes))

joined-onto_first : (b : ℕ) (ps : List (List ℕ)) → onto_first b ps ≡ joined [] (onto_first b ps)
joined-onto_first b [] = refl
joined-onto_first b (p ∷ ps) = refl

joined_one : (s : Bool) (b : ℕ) (ps qs : List (List ℕ)) → cond s ([] ∷ ps) (onto_first b qs) ≡ joined [] (cond s ([] ∷ ps) (onto_first b qs))
joined_one true b ps qs = refl
joined_one false b ps qs = joined-onto_first b qs

joined_none : (quoted : Bool) (bytes : List ℕ) → parts quoted bytes ≡ joined [] (parts quoted bytes)
joined_none quoted [] = refl
joined_none quoted (b ∷ bytes) = joined_one (separates quoted b) b (parts quoted bytes) (parts (quoted_after quoted b) bytes)

pub leads_first : (bytes : List ℕ) → Leads bytes 0 false
leads_first bytes = record { parts = joined_none false bytes }

pub elements_at : (bytes : List ℕ) (at : ℕ) → parts false bytes ≡ take at bytes ∷ parts false (drop (at + 1) bytes)
    → elements bytes ≡ trim_ows (take at bytes) ∷ elements (drop (at + 1) bytes)
unfolding elements
elements_at bytes at is = ap (map trim_ows) is

pub elements_whole : (bytes : List ℕ) → parts false bytes ≡ bytes ∷ [] → elements bytes ≡ trim_ows bytes ∷ []
unfolding elements
elements_whole bytes is = ap (map trim_ows) is
