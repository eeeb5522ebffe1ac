-- A run of events, read from its newest.
use Rattle.std.proofs.Common.{append_assoc}
use Rattle.std.proofs.lemmas.List.{reverse-append}
use Rattle.pcache_history.proofs.Words.{◌≡◌, List, [], ◌∷◌, ◌++◌, ap, ◌∙◌, reverse, Event}

-- the first event of a run is the oldest
pub turned : (e : Event) (events es : List Event) → reverse (e ∷ events) ++ es ≡ reverse events ++ e ∷ es
turned e events es = ap (λ (xs : List Event). xs ++ es) (reverse-append (e ∷ []) events) ∙ append_assoc (reverse events) (e ∷ []) es
