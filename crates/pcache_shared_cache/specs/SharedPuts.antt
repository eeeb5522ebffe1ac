-- A put of a cache in parts; and what its end does to the state of its part, from p to q, with this result. The put is x before it and y
-- after it, and its policy says this (own).
use Rattle.std.specs.Prelude.{◌≡◌, ◌⊎◌, ℕ, List, IfErr, OnOk, Result}
use Rattle.pcache_base.specs.declared.error.ErrorType.{ErrorType}
use Rattle.pcache_base.specs.declared.error.ErrorType.TheVariants.{InternalError}
use Rattle.pcache_cache.specs.Feeding.{FinishesPut}
use Rattle.pcache_cache.specs.OwnPut.{MayEndPut}
use Rattle.pcache_cache.specs.Parts.{Parts}
use Rattle.pcache_put.specs.Puts.{Says}
use Rattle.pcache_put.specs.State.{Put}
use Rattle.pcache_put.specs.declared.report.PutOutcome.{PutOutcome}

-- the put itself, the place of its part, and what it has seen of the part
pub record SeatedPut (C : Type 0) : Type 0 where
  pub place : ℕ
  pub seen : List Parts
  pub put : Put C

-- the call fails, and nothing changes
pub record EndsNoPut {C : Type 0} (result : Result PutOutcome ErrorType) (x y : Put C) (p q : Parts) : Type 0 where
  pub failed : OnOk result ⊥
  pub kind : IfErr result (λ e. e ≡ InternalError)
  pub put : y ≡ x
  pub same : q ≡ p

-- the put ends, if its write is one of this part; if not, the call fails, and nothing changes
abbrev pub EndsPutOf : {C : Type 0} → Result PutOutcome ErrorType → Says → Put C → Put C → Parts → Parts → Type 0
EndsPutOf result says x y p q = (MayEndPut p.store x × FinishesPut result says x y p q) ⊎ ((MayEndPut p.store x → ⊥) × EndsNoPut result x y p q)
