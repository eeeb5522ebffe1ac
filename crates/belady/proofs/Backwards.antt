-- The requests of a trace, from the last one to the first.
use Rattle.std.proofs.Common.{◌≡◌, ℕ, ◌+◌, ◌<◌, cond, nat_eq, Option, Some, List, [], ◌∷◌, ◌++◌, ◌∙◌, ap, sym, reverse, length, get_or, drop}
use Rattle.std.specs.Map.{lookup}
use Rattle.std.proofs.lemmas.List.{at_drop_more, reverse-append}
use Rattle.belady.specs.Belady.{first, nexts}

-- one more, before those that were seen
first_more : (bodies : List ℕ) (i k d : ℕ) → i < length bodies → first k i (drop i bodies) ≡ cond (nat_eq (get_or bodies i d) k) (Some i) (first k (i + 1) (drop (i + 1) bodies))
first_more bodies i k d lt = at_drop_more (first k i) bodies i d lt

nexts_more : (bodies : List ℕ) (i d : ℕ) → i < length bodies
    → reverse (nexts i (drop i bodies)) ≡ reverse (nexts (i + 1) (drop (i + 1) bodies)) ++ first (get_or bodies i d) (i + 1) (drop (i + 1) bodies) ∷ []
nexts_more bodies i d lt =
    at_drop_more (λ b. reverse (nexts i b)) bodies i d lt
    ∙ reverse-append (first (get_or bodies i d) (i + 1) (drop (i + 1) bodies) ∷ []) (nexts (i + 1) (drop (i + 1) bodies))

-- what was found of the requests from this number on, and where each body was seen first among them
pub record Seen (bodies : List ℕ) (from : ℕ) (found : List (Option ℕ)) (seen : List (ℕ × ℕ)) : Type 0 where
  pub told : found ≡ reverse (nexts from (drop from bodies))
  pub first_at : (k : ℕ) → lookup (nat_eq k) seen ≡ first k from (drop from bodies)

pub one_more : (bodies : List ℕ) (i d : ℕ) (found then : List (Option ℕ)) (seen now : List (ℕ × ℕ)) (next : Option ℕ) → i < length bodies → Seen bodies (i + 1) found seen
    → next ≡ lookup (nat_eq (get_or bodies i d)) seen → ((k : ℕ) → lookup (nat_eq k) now ≡ cond (nat_eq (get_or bodies i d) k) (Some i) (lookup (nat_eq k) seen)) → then ≡ found ++ next ∷ []
    → Seen bodies i then now
one_more bodies i d found then seen now next lt s is updates added =
    let here : next ≡ first (get_or bodies i d) (i + 1) (drop (i + 1) bodies) = is ∙ s.first_at (get_or bodies i d) in
    record {
      told = added ∙ ap (λ f. f ++ next ∷ []) s.told ∙ ap (λ n. reverse (nexts (i + 1) (drop (i + 1) bodies)) ++ n ∷ []) here ∙ sym (nexts_more bodies i d lt);
      first_at = λ k. updates k ∙ ap (cond (nat_eq (get_or bodies i d) k) (Some i)) (s.first_at k) ∙ sym (first_more bodies i k d lt);
    }
