-- A piece of a put is read, and then stored: both halves together.
use Rattle.pcache_put.proofs.Halves.{reads_and_stores, why_answered}
use Rattle.pcache_put.specs.Puts.{Piece, Says}
use Rattle.pcache_put.specs.Readings.{IfUnread, MayFailRead, ReadsPiece}
use Rattle.pcache_put.specs.Steps.{RepeatsResult}
use Rattle.pcache_put.specs.declared.reading.ReadPiece.{ReadPiece}
use Rattle.pcache_cache.specs.Feeding.{StoresRead, TakesIn}
use Rattle.pcache_cache.specs.OwnPut.{MayEndPut, store_put}
use Rattle.pcache_cache.proofs.Words.{◌≡◌, Option, Result, ap, subst, ErrorType, NoCacheReason, Put, put_past, Adds, Parts}

-- `says` is what a policy decides
pub takes_in : {C : Type 0} (says : C → Says) (x mid y : Put C) (piece : Piece) (read : ReadPiece) (result : Result (Option NoCacheReason) ErrorType) (p q : Parts) → ReadsPiece (says x.policy) x mid piece read → IfUnread read (MayFailRead x.stage x.parser) → StoresRead result (says mid.policy) mid y read p q
    → TakesIn result (says x.policy) x y piece p q
takes_in {C} says x mid y piece read result p q reads unread stored =
    let step = stored.step in
    record {
      step = (
        step.0,
        reads_and_stores says x mid y piece read step.0 reads step.1,
        subst (λ (m : Put C). q.store ≡ store_put m step.0 result p.store) reads.same step.2,
        subst (λ (m : Put C). Adds (put_past m step.0 result p.store) p.past q.past) reads.same step.3,
      );
      stands = stored.stands;
      again = subst (λ (m : Put C). RepeatsResult m.stage result) reads.same stored.again;
      kind = why_answered mid.stage x.stage p.store x.parser read result (ap (λ (m : Put C). m.stage) reads.same) unread stored.kind;
      own = subst (λ (m : Put C). MayEndPut p.store m → MayEndPut q.store y) reads.same stored.own;
      rest = stored.rest;
    }
