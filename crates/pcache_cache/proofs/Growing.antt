-- Each call of a cache leaves its two pasts as they were, or adds to them.
use Rattle.pcache_cache.specs.Growing.{Grew}
use Rattle.pcache_cache.proofs.Words.{◌≡◌, List, [], ◌∷◌, Option, None, Some, Result, Ok, Err, OnErr, OnOk, refl, sym, ap, subst, ErrorType, Adds, Deed, Note, Past}
use Rattle.pcache_store.specs.Notes.{noted}
use Rattle.pcache_cache.proofs.Adding.{KeptByDeeds, KeptByNotes}

-- the same of a past that may not be kept
abbrev pub GrewFrom : {A : Type 0} → Option (List A) → Option (List A) → Type 0
GrewFrom None q = Unit {0}
GrewFrom (Some p) None = ⊥
GrewFrom (Some p) (Some q) = Grew p q

pub grew_not : {A : Type 0} (p : List A) → Grew p p
grew_not p = ([], refl)

pub grew_same : {A : Type 0} (p q : List A) → q ≡ p → Grew p q
grew_same p q is = ([], is)

one_more : {A : Type 0} (x : A) (p q : List A) → Grew p q → Grew p (x ∷ q)
one_more x p q grew = (x ∷ grew.0, ap (λ l. x ∷ l) grew.1)

pub grown_by_note : (p : List Note) (n : Option Note) (q : Past) → GrewFrom (Some p) q → GrewFrom (Some p) (noted n q)
grown_by_note p n None is = is
grown_by_note p None (Some q) is = is
grown_by_note p (Some n) (Some q) is = one_more n p q is

pub kept_by_notes : (p : List Note) → KeptByNotes (GrewFrom (Some p))
kept_by_notes p n q other is = grown_by_note p n q is

pub kept_by_deeds : (p : List Deed) → KeptByDeeds (GrewFrom (Some p))
kept_by_deeds p d None other is = is
kept_by_deeds p d (Some q) other is = one_more d p q is

-- a call added this
pub grew_by : {A : Type 0} (f : Option (List A) → Option (List A)) (p q : List A) → ((x : Option (List A)) → GrewFrom (Some p) x → GrewFrom (Some p) (f x)) → Adds f p q → Grew p q
grew_by f p q keeps adds = subst (GrewFrom (Some p)) (sym adds) (keeps (Some p) (grew_not p))

-- or failed, and added nothing
pub grew_if : {A R : Type 0} (result : Result R ErrorType) (f : Option (List A) → Option (List A)) (p q : List A) → ((x : Option (List A)) → GrewFrom (Some p) x → GrewFrom (Some p) (f x)) → OnOk result (Adds f p q) → OnErr result (q ≡ p) → Grew p q
grew_if (Ok a) f p q keeps ok err = grew_by f p q keeps ok
grew_if (Err e) f p q keeps ok err = grew_same p q err
