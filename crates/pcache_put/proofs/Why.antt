-- Why a put fails.
use Rattle.std.specs.Cmp.{nat_cmp_total}
use Rattle.std.specs.FinMap.{FinMap, get, insert, get-insert}
use Rattle.std.specs.Ordering.{nat_cmp, eq_by_cmp}
use Rattle.pcache_meta.specs.Meta.{numbered}
use Rattle.pcache_put.specs.Steps.{IfRefused}
use Rattle.pcache_put.specs.declared.report.PieceEnd.{PieceEnd}
use Rattle.pcache_store.specs.Refusals.{MayFailWrite}
use Rattle.pcache_store.specs.Store.{Written, begun, is_told, new_write}
use Rattle.pcache_put.proofs.Words.{◌≡◌, ℕ, ◌⊎◌, inl, inr, true, false, cond, Option, None, Some, List, refl, ap, sym, subst, ◌∙◌, arith, nat_tests, ErrorType, OutOfMemory, InternalError, InvalidHttpHeader, ResponseTooLarge, IncompleteHttpBody, WriteRemoved, NumbersExhausted, Io, Superseded, Meta, Parsed, AtBody, HasFailed, Piece, Says, IsWhyOver, Overrun, InHead, IsBegunBefore, MayFailFill, MayFailPiece, Store}
use Rattle.pcache_put.specs.declared.report.PieceEnd.TheVariants as piece

-- adding bytes to a write failed
pub why_filling : (says : Says) (limit : Option ℕ) (s : Store) (w : ℕ) (e : ErrorType) (pieces : List Piece) → MayFailFill s w e → (e ≡ ResponseTooLarge → Overrun says limit pieces) → IsWhyOver says limit e pieces
why_filling says limit s w OutOfMemory pieces may over = tt
why_filling says limit s w ResponseTooLarge pieces may over = over refl
why_filling says limit s w InternalError pieces may over = tt
why_filling says limit s w InvalidHttpHeader pieces may over = absurd may
why_filling says limit s w IncompleteHttpBody pieces may over = absurd may
why_filling says limit s w WriteRemoved pieces may over = absurd may
why_filling says limit s w NumbersExhausted pieces may over = absurd may
why_filling says limit s w Io pieces may over = absurd may
why_filling says limit s w Superseded pieces may over = absurd may

-- a piece of a body failed
pub why_body : (says : Says) (limit : Option ℕ) (parser : Parsed) (left : Option ℕ) (e : ErrorType) (pieces : List Piece) → (e ≡ InvalidHttpHeader) ⊎ (e ≡ OutOfMemory) ⊎ (parser ≡ HasFailed e) → ¬ (e ≡ InvalidHttpHeader) → parser ≡ AtBody left → IsWhyOver says limit e pieces
why_body says limit parser left e pieces (inl is) never at = absurd (never is)
why_body says limit parser left e pieces (inr (inl is)) never at = subst (λ (x : ErrorType). IsWhyOver says limit x pieces) (sym is) tt
why_body says limit parser left e pieces (inr (inr is)) never at = absurd (cc (is, at))

-- what holds of every kind holds of that of an error
pub refused_as : {M : Type 0} (end : PieceEnd M) (P Q : ErrorType → Type 0) → IfRefused end P → ((e : ErrorType) → P e → Q e) → IfRefused end Q
refused_as piece.GoesOn P Q h f = tt
refused_as (piece.NotCached reason) P Q h f = tt
refused_as (piece.Refused e w) P Q h f = f e h

same_key : (n : ℕ) → eq_by_cmp nat_cmp n n ≡ true
same_key n = grind (arith, nat_tests)

-- adding bytes to a write that just began failed
told_new : (m : FinMap nat_cmp Written) (n : ℕ) (w : Written) → is_told (get (insert m n w) n) ≡ w.told
told_new m n w = ap is_told (get-insert nat_cmp_total m n w n ∙ ap (λ b. cond b (Some w) (get m n)) (same_key n))

pub why_begun : (s t : Store) (k w : ℕ) (meta : Meta) (e : ErrorType) → t ≡ begun s k meta → w ≡ s.next → MayFailFill t w e → MayFailPiece InHead s e
why_begun s t k w meta OutOfMemory is at may = tt
why_begun s t k w meta ResponseTooLarge is at may = tt
why_begun s t k w meta InternalError is at may =
    let told : is_told (get t.writes w) ≡ false = ap (λ (x : Store). is_told (get x.writes w)) is ∙ ap (λ (n : ℕ). is_told (get (begun s k meta).writes n)) at ∙ told_new s.writes s.next (new_write k (numbered s.next meta)) in
    absurd (cc (may, told))
why_begun s t k w meta InvalidHttpHeader is at may = absurd may
why_begun s t k w meta IncompleteHttpBody is at may = absurd may
why_begun s t k w meta WriteRemoved is at may = absurd may
why_begun s t k w meta NumbersExhausted is at may = absurd may
why_begun s t k w meta Io is at may = absurd may
why_begun s t k w meta Superseded is at may = absurd may

-- so the write began before its bytes were refused, and it did not if its beginning was
pub began_filled : (s t : Store) (k w : ℕ) (meta : Meta) (e : ErrorType) → t ≡ begun s k meta → w ≡ s.next → MayFailFill t w e → IsBegunBefore InHead e (Some meta)
began_filled s t k w meta OutOfMemory is at may = tt
began_filled s t k w meta ResponseTooLarge is at may = (meta, refl)
began_filled s t k w meta InternalError is at may = absurd (why_begun s t k w meta InternalError is at may)
began_filled s t k w meta InvalidHttpHeader is at may = absurd may
began_filled s t k w meta IncompleteHttpBody is at may = absurd may
began_filled s t k w meta WriteRemoved is at may = absurd may
began_filled s t k w meta NumbersExhausted is at may = absurd may
began_filled s t k w meta Io is at may = absurd may
began_filled s t k w meta Superseded is at may = absurd may

pub not_begun : (s : Store) (e : ErrorType) → MayFailWrite s e → IsBegunBefore InHead e None
not_begun s OutOfMemory may = tt
not_begun s NumbersExhausted may = refl
not_begun s ResponseTooLarge may = absurd may
not_begun s InternalError may = absurd may
not_begun s InvalidHttpHeader may = absurd may
not_begun s IncompleteHttpBody may = absurd may
not_begun s WriteRemoved may = absurd may
not_begun s Io may = absurd may
not_begun s Superseded may = absurd may
