-- Puts: what a call does to a cache, from p to q, with this result. The put is x before it and y after it, and its policy says this (own).
use Rattle.std.specs.Prelude.{[], ◌≡◌, ◌⊎◌, ℕ, List, Option, Some, IfErr, OnErr, Result}
use Rattle.pcache_base.specs.declared.error.ErrorType.{ErrorType}
use Rattle.pcache_base.specs.declared.reason.NoCacheReason.{NoCacheReason}
use Rattle.pcache_put.specs.Pasts.{EndsPutPast}
use Rattle.pcache_put.specs.Puts.{IsResult, Piece, Says}
use Rattle.pcache_put.specs.Readings.{MayFailOnceRead, StoresPiece}
use Rattle.pcache_put.specs.State.{Filled, HasTaken, Put, limit_of, write_in}
use Rattle.pcache_put.specs.Steps.{Done, EndsAs, IsStageAfter, MayFailPiece, RepeatsResult, TakesPiece, TellsResult, stage_ended}
use Rattle.pcache_put.specs.declared.reading.ReadPiece.{ReadPiece}
use Rattle.pcache_put.specs.declared.report.PutEnd.{PutEnd}
use Rattle.pcache_put.specs.declared.report.PutOutcome.{PutOutcome}
use Rattle.pcache_request.specs.NoBody.{LeavesNone}
use Rattle.pcache_request.specs.Requests.{dropped_by}
use Rattle.pcache_request.specs.StorePasts.{dropped_past}
use Rattle.pcache_response.specs.Progress.{HasFailed}
use Rattle.pcache_store.specs.Readers.{in_memory}
use Rattle.pcache_cache.specs.OwnPut.{EndsOwnPut, MayEndPut, evicted_put, put_past, store_put}
use Rattle.pcache_cache.specs.Parts.{Adds, Parts}
use Rattle.pcache_cache.specs.Room.{IfRoom, evicted_by_put}
use Rattle.pcache_cache.specs.Strays.{LeavesNoStray}
use Rattle.pcache_cache.specs.Weighing.{ending_weight}

-- a piece is taken in
pub record TakesIn {C : Type 0} (result : Result (Option NoCacheReason) ErrorType) (says : Says) (x y : Put C) (piece : Piece) (p q : Parts) : Type 0 where
  pub step : (d : Done) × TakesPiece says x y piece d × (q.store ≡ store_put x d result p.store) × Adds (put_past x d result p.store) p.past q.past
  pub stands : IsStageAfter result y.stage
  pub again : RepeatsResult x.stage result
  pub kind : IfErr result (λ e. MayFailPiece x.stage p.store e ⊎ (x.parser ≡ HasFailed e))
  pub own : MayEndPut p.store x → MayEndPut q.store y
  pub rest : q ≡ record p { store = q.store; past = q.past }

-- what the put read of a piece is stored
pub record StoresRead {C : Type 0} (result : Result (Option NoCacheReason) ErrorType) (says : Says) (x y : Put C) (read : ReadPiece) (p q : Parts) : Type 0 where
  pub step : (d : Done) × StoresPiece says x y read d × (q.store ≡ store_put x d result p.store) × Adds (put_past x d result p.store) p.past q.past
  pub stands : IsStageAfter result y.stage
  pub again : RepeatsResult x.stage result
  pub kind : IfErr result (MayFailOnceRead x.stage p.store read)
  pub own : MayEndPut p.store x → MayEndPut q.store y
  pub rest : q ≡ record p { store = q.store; past = q.past }

-- what comes of the pieces that the put took in is told by its end
abbrev pub TellsOfPut : {C : Type 0} → Says → Put C → PutEnd → Type 0
TellsOfPut says x end = (pieces : List Piece) (f : Option Filled) → HasTaken says x pieces f → TellsResult (IsResult says (limit_of x.size) pieces) f end

-- the put ends
pub record FinishesPut {C : Type 0} (result : Result PutOutcome ErrorType) (says : Says) (x y : Put C) (p q : Parts) : Type 0 where
  pub ended :
      EndsAs result (λ end. EndsOwnPut x end p q
      × EndsPutPast in_memory x.key x.stage end (Some p.past) (Some q.past)
      × (q.evicted ≡ evicted_put x end p)
      × (y.stage ≡ stage_ended end)
      × TellsOfPut says x end)
  pub withdrawn : OnErr result (LeavesNone (Some x.key) (write_in x.stage) p.store q.store)
  pub only : LeavesNoStray (Some x.key) p q
  pub room : IfRoom (Some x.key) (ending_weight p.weighing p.store (write_in x.stage)) p (evicted_by_put result ≡ [])
  pub rest : q ≡ record p { store = q.store; past = q.past; tracked = q.tracked; evicted = q.evicted }

-- the write that an ended put left in flight, if there is one, is dropped
pub record DropsLeft (w : Option ℕ) (p q : Parts) : Type 0 where
  pub store : q.store ≡ dropped_by w p.store
  pub past : Adds (dropped_past w) p.past q.past
  pub rest : q ≡ record p { store = q.store; past = q.past }
