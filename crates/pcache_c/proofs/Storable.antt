-- The decision on a response, and its meta in a handle.
use Rattle.std.proofs.Common.{Bool, true}
use Rattle.std.specs.Bool.{MatchBool}
use Rattle.pcache_control.specs.Filters.{FreshBy, forbids, said_moment}
use Rattle.pcache_control.specs.declared.response.RespCacheable.{RespCacheable}
use Rattle.pcache_c.specs.Values.{Decides, GivesMeta, IsControlOf}
use Rattle.pcache_c.proofs.Words.{◌≡◌, ℕ, false, Option, None, Some, inr, subst, sym, Duration, Meta, ResponseHeader, IsDecision, CacheControl, Fills, PcacheHandle}
use Rattle.pcache_control.specs.declared.response.RespCacheable.TheVariants as decision
use Rattle.pcache_c.specs.declared.object.Object.TheVariants as object

fresh_by : (now : ℕ) (said : Option ℕ) (P Q : Option Duration → Type 0) (until : Option ℕ) → ((d : Option Duration) → P d → Q d) → FreshBy now said P until → FreshBy now said Q until
fresh_by now (Some m) P Q until fewer h = h
fresh_by now None P Q until fewer h = (h.0, fewer h.0 h.1, h.2)

matched : (b : Bool) (A B C : Type 0) → (B → C) → MatchBool b A B → MatchBool b A C
matched true A B C so h = h
matched false A B C so h = so h

-- the decision if fewer default lifetimes are possible
pub decided : (now : ℕ) (cc : Option CacheControl) (given windows : ℕ × ℕ) (h : ResponseHeader) (authorized : Bool) (P Q : Option Duration → Type 0) (d : RespCacheable)
    → given ≡ windows → ((lifetime : Option Duration) → P lifetime → Q lifetime) → IsDecision now cc given h authorized P d → IsDecision now cc windows h authorized Q d
decided now cc given windows h authorized P Q d same fewer is =
    subst (λ w. IsDecision now cc w h authorized Q d) same
    (is.0, matched (forbids cc authorized) (is.0 ≡ None) _ _ (fresh_by now (said_moment now cc h.headers) _ _ is.0 fewer) is.1, is.2)

-- a response that is to be stored
pub stored : (now : ℕ) (authorized : Bool) (windows : ℕ × ℕ) (h : ResponseHeader) (cc : Option CacheControl) (d : RespCacheable) (m : Meta) (old new : PcacheHandle) (code : ℕ)
    → IsControlOf h cc → IsDecision now cc windows h authorized (λ lifetime. lifetime ≡ None) d → d ≡ decision.Cacheable m → Fills (object.Meta m) old new code
    → Decides now authorized windows h old new code
stored now authorized windows h cc d m old new code control is made f = inr (cc, d, control, is, subst (λ q. GivesMeta q old new code) (sym made) f)
