-- What a predictor remembers and skips (own).
use Rattle.std.specs.Prelude.{ℕ, Bool, List, Option}
use Rattle.std.specs.Borrow.{Bor}
use Rattle.std.specs.Option.{option_map}
use Rattle.pcache_predict.specs.Remembered.{Shard}
use Rattle.pcache_predict.specs.declared.predictor.Predictor.{Predictor}
use denote.Param.Members.{Mut}

-- a predictor of N lists, whose predicate is a function pointer of type F
module _ {N : ℕ} {F : Type 0} {M : Mut F (Bor (List ℕ) × Unit {0}) Bool} where
  -- its lists
  abbrev pub memory_of : Predictor N F M → List Shard
  memory_of p = p.memory

  -- its predicate
  abbrev pub predicate_of : Predictor N F M → Option F
  predicate_of p = option_map (λ s. s.predicate) p.skipped
