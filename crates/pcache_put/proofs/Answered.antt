-- The default decision if fewer default lifetimes are possible.
use Rattle.pcache_control.specs.Filters.{forbids, said_moment}
use Rattle.pcache_put.proofs.Words.{◌≡◌, ℕ, Bool, true, false, Option, None, Some, Result, Ok, Err, IfOk, subst, Duration, ResponseHeader, ErrorType, RespCacheable, FreshBy, SaysByDefault, MatchBool}

fresh-more : (now : ℕ) (o : Option ℕ) (P Q : Option Duration → Type 0) (result : Option ℕ) → ((d : Option Duration) → P d → Q d) → FreshBy now o P result → FreshBy now o Q result
fresh-more now (Some m) P Q result more h = h
fresh-more now None P Q result more h = (h.0, more h.0 h.1, h.2)

matched : (b : Bool) (A B C : Type 0) → (B → C) → MatchBool b A B → MatchBool b A C
matched true A B C more h = h
matched false A B C more h = more h

pub says-more : (windows : ℕ × ℕ) (P Q : ℕ → Option Duration → Type 0) (header : ResponseHeader) (now : ℕ) (answer : RespCacheable) → ((s : ℕ) (d : Option Duration) → P s d → Q s d) → SaysByDefault windows P header now answer → SaysByDefault windows Q header now answer
says-more windows P Q header now answer more h = (
  h.0,
  h.1,
  h.2,
  (
    h.3.0,
    matched (forbids h.0 false) (h.3.0 ≡ None) _ _ (fresh-more now (said_moment now h.0 header.headers) _ _ h.3.0 (λ d. more _ d)) h.3.1,
    h.3.2,
  ),
)

-- the same for the result, if there is one
pub answered-more : (r : Result RespCacheable ErrorType) (given windows : ℕ × ℕ) (P Q : ℕ → Option Duration → Type 0) (header : ResponseHeader) (now : ℕ) → given ≡ windows → IfOk r (SaysByDefault given P header now) → ((s : ℕ) (d : Option Duration) → P s d → Q s d) → IfOk r (SaysByDefault windows Q header now)
answered-more (Ok answer) given windows P Q header now same h more = says-more windows P Q header now answer more (subst (λ w. SaysByDefault w P header now answer) same h)
answered-more (Err e) given windows P Q header now same h more = tt
