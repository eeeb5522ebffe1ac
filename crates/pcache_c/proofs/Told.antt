-- What the calls that decide by RFC 9111 tell.
use Rattle.std.specs.Prelude.{MatchResult}
use Rattle.http_header.specs.Token.{IsToken}
use Rattle.pcache_meta.specs.declared.header.RequestHeader.{RequestHeader}
use Rattle.pcache_c.specs.Decisions.{IsAsked, MakesAsked}
use Rattle.pcache_c.proofs.Words.{◌≡◌, inr, subst, ℕ, List, Result, Ok, Err, Fills, PcacheHandle}
use Rattle.pcache_c.specs.declared.object.Object.TheVariants as object

pub ok_err : {T E : Type 0} (t : T) (e : E) → ◌≡◌ {A = Result T E} (Ok t) (Err e) → ⊥
ok_err {T} {E} t e p = subst (λ (r : Result T E). MatchResult r (λ _. Unit {0}) (λ _. ⊥)) p tt

pub asked_made : (method target : List ℕ) (r : RequestHeader) (old new : PcacheHandle) (code : ℕ)
    → ((¬ IsToken method) → ⊥) → IsAsked method target r → Fills (object.Asked r) old new code → MakesAsked method target old new code
asked_made method target r old new code is asked fills = record {
  bad = λ none. absurd (is none);
  good = λ token. inr (r, asked, fills);
}
