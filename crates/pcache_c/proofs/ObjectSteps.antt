-- The machine value of a `ObjectPtr`, and what it owns. Assumes `Logic`.
use mathlib.Core.Bool.{Bool, not}
use denote.Steps.{nothing}
use Rattle.pcache_c.proofs.Words.{◌≡◌, List, [], ◌∷◌, ◌++◌, refl, ap, ◌∙◌, subst, T, Option, None, Some, IsTrue, is_some, Ura, Val, vstruct, vcons, vnil, of_list, Logic, Item, Goal, Seq, Step, step, ‵, ◌$◌, drop, fsplit, fjoin, fpick, fpack, feq_i, feq_l, RattleType, Valss, RawPtr, Ptr, ptr_val, within, shape, Object, object_at}
use Rattle.pcache_c.specs.contracts.handle.ObjectPtr as held

abbrev pub ObjectPtr : RattleType
ObjectPtr = held.the_row

abbrev pub word : Ptr → Val
word p = vstruct (vcons (ptr_val p) vnil)

pub found : (v : Option Object) → IsTrue (is_some v) → (x : Object) × (v ≡ Some x)
found None h = absurd (subst (λ (b : Bool). T (not b)) h tt)
found (Some x) h = (x, refl)

module _ {M : Type 1} {𝓤 : Ura M} {𝓛 : Logic 𝓤} {K : Type 0} {Γ : List (Item 𝓤)} {G : Goal 𝓤 𝓛.H} where
  pub held_out : K → (d : ObjectPtr.Denot) (vs : List Val)
      → (vs ≡ word d.at ∷ [] → Seq K 𝓛 (‵ (object_at d.at d.value) ∷ Γ) G) → Seq K 𝓛 (‵ (ObjectPtr.own_val d vs) ∷ Γ) G
  held_out t d vs k =
      fsplit t $ fpick t (λ vss. fsplit t $ feq_l t (λ ev. fsplit t $ feq_l t (λ ep. drop t $ k (ev ∙ ap (λ (ps : List Val). vstruct (of_list (ps ++ [])) ∷ []) ep))))

  pub held_in : K → (p : Ptr) (v : Option Object)
      → Step K 𝓛 (‵ (ObjectPtr.own_val (record { at = p; value = v }) (word p ∷ [])) ∷ Γ) G (‵ (object_at p v) ∷ Γ) G
  held_in t p v = step (λ s.
      nothing t $ feq_i t (List Val) (ptr_val p ∷ []) (ptr_val p ∷ []) refl $ fjoin t $ feq_i t (List Val) (word p ∷ []) (word p ∷ []) refl $ fjoin t $
      fpack t (Valss (RawPtr ∷ [])) (within (shape held.the_type) (p, tt) (word p ∷ [])) (ptr_val p ∷ [], tt) $ fjoin t $ s)
