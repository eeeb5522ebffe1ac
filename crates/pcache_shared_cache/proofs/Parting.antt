-- The managers of all parts, handed out by place.
use Rattle.std.proofs.Common.{append-nil}
use Rattle.pcache_shared_cache.specs.Managed.{managed}
use Rattle.pcache_shared_cache.specs.Shared.{InParts}
use Rattle.pcache_shared_cache.proofs.Words.{◌≡◌, ◌∙◌, List, [], ◌∷◌, ◌++◌, map, refl, ap, sym, append_assoc, All, map-append, All-push, Parts, Evicted, Limits, Tracked, Managed, Portioned, managed_in, OfPart}
use Rattle.pcache_shared_cache.proofs.Together.{Kept}

-- these are the managers of the first parts, as what they show says, and this is left
abbrev pub HandedOut : {M : Type 0} → (M → Tracked) → (M → Evicted) → List Limits → List Limits → List (Portioned M) → Type 0
HandedOut tracked evicted limits rest out = (ps : List Parts) × (map (λ (p : Parts). p.limits) ps ++ rest ≡ limits) × All Kept ps × (map (managed_in tracked evicted) out ≡ map managed ps)

pub out-more : {M : Type 0} (tracked : M → Tracked) (evicted : M → Evicted) (limits rest : List Limits) (l : Limits) (out : List (Portioned M)) (m : Portioned M) → HandedOut tracked evicted limits (l ∷ rest) out → OfPart l (λ p. managed_in tracked evicted m ≡ managed p) → HandedOut tracked evicted limits rest (out ++ m ∷ [])
out-more tracked evicted limits rest l out m h part =
    let ps = h.0 in
    let p = part.0 in (
      ps ++ p ∷ [],
      ap (λ ls. ls ++ rest) (map-append (λ (p : Parts). p.limits) ps (p ∷ [])) ∙ append_assoc (map (λ (p : Parts). p.limits) ps) (p.limits ∷ []) rest ∙ ap (λ (x : Limits). map (λ (p : Parts). p.limits) ps ++ x ∷ rest) part.1 ∙ h.1,
      All-push Kept ps p h.2 part.2,
      map-append (managed_in tracked evicted) out (m ∷ []) ∙ ap (λ (x : Managed). map (managed_in tracked evicted) out ++ x ∷ []) part.3 ∙ ap (λ ms. ms ++ managed p ∷ []) h.3 ∙ sym (map-append managed ps (p ∷ [])),
    )

pub out-all : {M : Type 0} (tracked : M → Tracked) (evicted : M → Evicted) (limits : List Limits) (out : List (Portioned M)) → HandedOut tracked evicted limits [] out → InParts limits (λ ps. map (managed_in tracked evicted) out ≡ map managed ps)
out-all tracked evicted limits out h = (h.0, sym (append-nil (map (λ (p : Parts). p.limits) h.0)) ∙ h.1, h.2, h.3)

limits-managed : (ps : List Parts) → map (λ (m : Managed). m.limits) (map managed ps) ≡ map (λ (p : Parts). p.limits) ps
limits-managed [] = refl
limits-managed (p ∷ ps) = ap (λ ls. p.limits ∷ ls) (limits-managed ps)

limits-portioned : {M : Type 0} (tracked : M → Tracked) (evicted : M → Evicted) (out : List (Portioned M)) → map (λ (m : Managed). m.limits) (map (managed_in tracked evicted) out) ≡ map (λ (p : Portioned M). p.limits) out
limits-portioned {M} tracked evicted [] = refl
limits-portioned {M} tracked evicted (p ∷ out) = ap (λ ls. p.limits ∷ ls) (limits-portioned tracked evicted out)

-- each has the limits of its part
pub out-limits : {M : Type 0} (tracked : M → Tracked) (evicted : M → Evicted) (limits : List Limits) (out : List (Portioned M)) → HandedOut tracked evicted limits [] out → map (λ (p : Portioned M). p.limits) out ≡ limits
out-limits tracked evicted limits out h =
    sym (limits-portioned tracked evicted out) ∙ ap (map (λ (m : Managed). m.limits)) h.3 ∙ limits-managed h.0 ∙ sym (append-nil (map (λ (p : Parts). p.limits) h.0)) ∙ h.1
