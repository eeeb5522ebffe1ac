-- What was heard, one directive more.
use Rattle.std.proofs.Common.{Some, None, cond}
use Rattle.std.proofs.lemmas.List.Elements.{filter_map-append}
use Rattle.std.specs.List.{filter_map}
use Rattle.pcache_http.specs.declared.seconds.Amount.{Amount}
use Rattle.pcache_http.specs.declared.seconds.Number.{Number}
use Rattle.pcache_http.specs.declared.seconds.Number.TheVariants.{Absent, Once, Repeated}
use Rattle.pcache_http.specs.declared.control.Reach.{Reach}
use Rattle.pcache_http.specs.declared.control.Reach.TheVariants.{Nothing, Fields}
use Rattle.pcache_http.specs.Said.{value_if}
use Rattle.pcache_http.specs.Seconds.{amount_of, counted}
use Rattle.pcache_http.specs.Control.{with_fields, reach_of}
use Rattle.pcache_http.proofs.Words.{◌≡◌, ℕ, Bool, true, false, List, [], ◌∷◌, ◌++◌, Option, refl, sym, ap, ◌∙◌, append-nil, bytes_eq, Whole, Directive, is_called, values_of, count_next}

-- a directive of another name changes nothing
values_none : (name : List ℕ) (d : Directive) (b : Bool) → is_called name d ≡ b → b ≡ false → values_of name (d ∷ []) ≡ []
values_none name d true e f = absurd cc
values_none name d false e f = rw e refl

pub values_of-other : (name : List ℕ) (said : List Directive) (d : Directive) → is_called name d ≡ false → values_of name (said ++ d ∷ []) ≡ values_of name said
values_of-other name said d e =
    filter_map-append (value_if name) said (d ∷ [])
    ∙ ap (λ vs. values_of name said ++ vs) (values_none name d false e refl)
    ∙ append-nil (values_of name said)

values_one : (name : List ℕ) (d : Directive) → is_called name d ≡ true → values_of name (d ∷ []) ≡ d.1 ∷ []
values_one name d e = rw e refl

pub values_of-more : (name : List ℕ) (said : List Directive) (d : Directive) → is_called name d ≡ true → values_of name (said ++ d ∷ []) ≡ values_of name said ++ d.1 ∷ []
values_of-more name said d e =
    filter_map-append (value_if name) said (d ∷ []) ∙ ap (λ vs. values_of name said ++ vs) (values_one name d e)

pub counted-more : (values : List (Option (List ℕ))) (v : Option (List ℕ)) → counted amount_of (values ++ v ∷ []) ≡ count_next (counted amount_of values) (amount_of v)
counted-more [] v = refl
counted-more (x ∷ []) v = refl
counted-more (x ∷ y ∷ more) v = refl

-- one more of what has a reach
abbrev pub reach_next : Reach → Option (List ℕ) → Reach
reach_next before None = Whole
reach_next before (Some value) = with_fields before

with_next : (reach : Reach) (v : Option (List ℕ)) → with_fields (reach_next reach v) ≡ reach_next (with_fields reach) v
with_next reach None = refl
with_next reach (Some v) = refl

whole_next : (v : Option (List ℕ)) → Whole ≡ reach_next Whole v
whole_next None = refl
whole_next (Some v) = refl

pub reach_of-more : (values : List (Option (List ℕ))) (v : Option (List ℕ)) → reach_of (values ++ v ∷ []) ≡ reach_next (reach_of values) v
reach_of-more [] None = refl
reach_of-more [] (Some v) = refl
reach_of-more (None ∷ values) v = whole_next v
reach_of-more (Some x ∷ values) v = ap with_fields (reach_of-more values v) ∙ with_next (reach_of values) v

pub counted-other : (name : List ℕ) (said : List Directive) (d : Directive) (before : Number) → is_called name d ≡ false
    → before ≡ counted amount_of (values_of name said) → before ≡ counted amount_of (values_of name (said ++ d ∷ []))
counted-other name said d before e is = is ∙ ap (counted amount_of) (sym (values_of-other name said d e))

pub counted-one : (name : List ℕ) (said : List Directive) (d : Directive) (before now : Number) → is_called name d ≡ true
    → now ≡ count_next before (amount_of d.1)
    → before ≡ counted amount_of (values_of name said) → now ≡ counted amount_of (values_of name (said ++ d ∷ []))
counted-one name said d before now e is was =
    is ∙ ap (λ b. count_next b (amount_of d.1)) was ∙ sym (counted-more (values_of name said) d.1) ∙ ap (counted amount_of) (sym (values_of-more name said d e))

pub reach-other : (name : List ℕ) (said : List Directive) (d : Directive) (before : Reach) → is_called name d ≡ false
    → before ≡ reach_of (values_of name said) → before ≡ reach_of (values_of name (said ++ d ∷ []))
reach-other name said d before e is = is ∙ ap reach_of (sym (values_of-other name said d e))

pub reach-one : (name : List ℕ) (said : List Directive) (d : Directive) (before now : Reach) → is_called name d ≡ true
    → now ≡ reach_next before d.1
    → before ≡ reach_of (values_of name said) → now ≡ reach_of (values_of name (said ++ d ∷ []))
reach-one name said d before now e is was =
    is ∙ ap (λ b. reach_next b d.1) was ∙ sym (reach_of-more (values_of name said) d.1) ∙ ap reach_of (sym (values_of-more name said d e))
