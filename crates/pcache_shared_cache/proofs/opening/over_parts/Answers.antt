use Rattle.pcache_shared_cache.proofs.Words.{◌≡◌, IfSome, refl, subst, sym}
use Rattle.pcache_shared_cache.proofs.opening.over_parts.Goals as goal

pub named-requires-clause-named : goal.named-requires-clause-named
named-requires-clause-named g c place name is = subst (λ o. IfSome o (λ n. name ≡ n)) (sym is) refl
