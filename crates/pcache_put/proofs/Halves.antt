-- The two halves of a piece, and both together.
use Rattle.std.specs.Prelude.{IfErr}
use Rattle.pcache_put.specs.Readings.{IfUnread, MayFailRead, MayFailOnceRead, ReadBy, ReadsPiece, StoresPiece}
use Rattle.pcache_put.specs.Steps.{Done, TakesPiece}
use Rattle.pcache_put.proofs.Words.{◌≡◌, ◌⊎◌, inl, inr, Option, None, Result, Ok, Err, List, [], ◌∷◌, ◌++◌, refl, ap, sym, subst, ◌∙◌, ErrorType, NoCacheReason, Parsed, HasFailed, Counted, Store, HasOpened, Piece, Says, Stage, InHead, InBody, HasDeclined, IsOver, Put, Filled, limit_of, MayFailPiece, ReadPiece}
use Rattle.pcache_put.proofs.Results.{taken_declined, taken_over}
use Rattle.pcache_put.specs.declared.reading.ReadPiece.TheVariants as read

both : {C : Type 0} (says : Says) (old mid new : Put C) (p : Piece) (part : ReadPiece) (d : Done) → ReadsPiece says old mid p part → StoresPiece says mid new part d → TakesPiece says old new p d
both says old mid new p part d reads stores = record {
  policy = stores.policy ∙ ap (λ x. x.policy) reads.same;
  key = stores.key ∙ ap (λ x. x.key) reads.same;
  limit = stores.limit ∙ ap (λ x. limit_of x.size) reads.same;
  taken = λ pieces f h. stores.taken (pieces ++ p ∷ []) f (reads.due pieces f h);
  last = λ pieces f h. stores.last (pieces ++ p ∷ []) f (reads.due pieces f h);
}

-- a piece is read, and then stored: `says` is what a policy decides
pub reads_and_stores : {C : Type 0} (says : C → Says) (old mid new : Put C) (p : Piece) (part : ReadPiece) (d : Done) → ReadsPiece (says old.policy) old mid p part → StoresPiece (says mid.policy) mid new part d → TakesPiece (says old.policy) old new p d
reads_and_stores says old mid new p part d reads stores = both (says old.policy) old mid new p part d reads (subst (λ x. StoresPiece (says x) mid new part d) (ap (λ q. q.policy) reads.same) stores)

-- what can't be read fails as any piece
why_unread : (stage : Stage) (s : Store) (parser : Parsed) (e : ErrorType) → MayFailRead stage parser e → MayFailPiece stage s e ⊎ (parser ≡ HasFailed e)
why_unread InHead s parser e (inl is) = inl (subst (MayFailPiece InHead s) (sym is) tt)
why_unread InHead s parser e (inr (inl is)) = inl (subst (MayFailPiece InHead s) (sym is) tt)
why_unread InHead s parser e (inr (inr is)) = inr is
why_unread (InBody w id until) s parser e (inl is) = inl (subst (MayFailPiece (InBody w id until) s) (sym is) tt)
why_unread (InBody w id until) s parser e (inr (inl is)) = inl (subst (MayFailPiece (InBody w id until) s) (sym is) tt)
why_unread (InBody w id until) s parser e (inr (inr is)) = inr is
why_unread (HasDeclined reason) s parser e may = absurd may
why_unread (IsOver kind) s parser e may = absurd may

-- why a piece that was read and then stored fails
pub why_both : (stage : Stage) (s : Store) (parser : Parsed) (part : ReadPiece) (e : ErrorType) → IfUnread part (MayFailRead stage parser) → MayFailOnceRead stage s part e → MayFailPiece stage s e ⊎ (parser ≡ HasFailed e)
why_both stage s parser part e unread (inr may) = inl may
why_both stage s parser (read.Refused kind) e unread (inl is) = subst (λ x. MayFailPiece stage s x ⊎ (parser ≡ HasFailed x)) (sym is) (why_unread stage s parser kind unread)
why_both stage s parser read.Unfinished e unread (inl is) = absurd is
why_both stage s parser (read.Declined reason) e unread (inl is) = absurd is
why_both stage s parser (read.Begins meta part) e unread (inl is) = absurd is
why_both stage s parser (read.Brings part) e unread (inl is) = absurd is
why_both stage s parser read.Ignored e unread (inl is) = absurd is

pub why_answered : {A : Type 0} (at stage : Stage) (s : Store) (parser : Parsed) (part : ReadPiece) (result : Result A ErrorType) → at ≡ stage → IfUnread part (MayFailRead stage parser)
    → IfErr result (MayFailOnceRead at s part) → IfErr result (λ e. MayFailPiece stage s e ⊎ (parser ≡ HasFailed e))
why_answered at stage s parser part (Ok a) is unread may = tt
why_answered at stage s parser part (Err e) is unread may = why_both stage s parser part e unread (subst (λ x. MayFailOnceRead x s part e) is may)

-- a put that reads nothing more
pub reads_declined : {C : Type 0} (says : Says) (q : Put C) (p : Piece) (reason : NoCacheReason) → q.stage ≡ HasDeclined reason → ReadsPiece says q q p read.Ignored
reads_declined says q p reason at = record {
  same = refl;
  due = λ pieces f h. subst (λ x. ReadBy says q.size q.parser x (pieces ++ p ∷ []) f read.Ignored) (sym at) (taken_declined says q.size q.parser q.stage (HasDeclined reason) reason pieces p f at refl h);
}

pub reads_over : {C : Type 0} (says : Says) (q : Put C) (p : Piece) (kind : ErrorType) → q.stage ≡ IsOver kind → ReadsPiece says q q p read.Ignored
reads_over says q p kind at = record {
  same = refl;
  due = λ pieces f h. subst (λ x. ReadBy says q.size q.parser x (pieces ++ p ∷ []) f read.Ignored) (sym at) (taken_over says q.size q.parser q.stage (IsOver kind) kind pieces p f at refl h);
}

-- what was read of a head
pub head_read : (says : Says) (size : Option Counted) (parser : Parsed) (stage : Stage) (pieces : List Piece) (f : Option Filled) (part : ReadPiece) → stage ≡ InHead → ReadBy says size parser stage pieces f part → HasOpened says size parser pieces part × (f ≡ None)
head_read says size parser stage pieces f part at h = subst (λ x. ReadBy says size parser x pieces f part) at h
