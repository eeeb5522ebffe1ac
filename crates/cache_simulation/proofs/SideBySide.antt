-- Caches that were parted had the requests made to them if both parts had.
use Rattle.std.specs.List.{All}
use Rattle.std.proofs.lemmas.List.Elements.{All-append, All-drop}
use Rattle.cache_simulation.specs.Caches.{MakesEach}
use Rattle.cache_simulation.proofs.Words.{◌≡◌, ◌∙◌, ℕ, List, ◌++◌, ap, sym, take, drop, length, take-append_seam, drop-append_seam, All-take, All-same, Cache, Request, StandsIn}

pub makes-both : (requests : List Request) (all some others some' others' : List Cache) → all ≡ some ++ others → MakesEach requests some some' → MakesEach requests others others' → MakesEach requests all (some' ++ others')
makes-both requests all some others some' others' is first second = record {
  each = λ setting before asked stands.
      let both : All (StandsIn setting before asked) (some ++ others) = All-same (StandsIn setting before asked) (some ++ others) all (sym is) stands in
      All-append (StandsIn setting before (asked ++ requests)) some' others'
      (first.each setting before asked (All-same (StandsIn setting before asked) some (take (length some) (some ++ others)) (sym (take-append_seam some others)) (All-take (StandsIn setting before asked) (length some) (some ++ others) both)))
      (second.each setting before asked (All-same (StandsIn setting before asked) others (drop (length some) (some ++ others)) (sym (drop-append_seam some others)) (All-drop (StandsIn setting before asked) (length some) (some ++ others) both)));
}

-- a vector whose slice was changed
pub written-back : {X : Type 0} (Q : X → Type 0) (new rest : List X) (n : ℕ) → n ≡ length new → All Q new → All Q (take n (new ++ rest))
written-back Q new rest n long is = All-same Q _ new (ap (λ m. take m (new ++ rest)) long ∙ take-append_seam new rest) is
