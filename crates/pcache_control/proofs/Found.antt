-- Looking a directive up.
use Rattle.std.specs.Prelude.{is_some}
use Rattle.std.specs.Bool.{one_answer}
use Rattle.pcache_control.specs.Maps.{AreNamed}
use Rattle.pcache_control.specs.Control.{directive_given, has}
use Rattle.pcache_control.specs.declared.cache_control.CacheControl.{CacheControl}
use Rattle.pcache_control.proofs.Words.{◌≡◌, ℕ, Bool, true, false, not, cond, List, [], ◌∷◌, All, Option, Some, refl, sym, ap, ◌∙◌, ◌&&◌, bytes_eq, lookup, bytes_eq-Decides, All-head, All-tail, option_map, name_of, is_known, is_known_name, same_key, value_of, entries_of, DirectiveKey, DirectiveValue, eq-value}
use Rattle.pcache_control.proofs.Keys.{eq_is, same_named}

pub lookup_is : {V : Type 0} (es : List (DirectiveKey × V)) (k : DirectiveKey) → lookup (eq-value.it k) es ≡ lookup (same_key k) es
lookup_is [] k = refl
lookup_is (e ∷ es) k = rw (eq_is k e.0, lookup_is es k) refl

bytes_eq-flip : (a b : List ℕ) → bytes_eq a b ≡ bytes_eq b a
bytes_eq-flip a b =
    one_answer {P = a ≡ b} (bytes_eq a b) (bytes_eq b a) (bytes_eq-Decides a b)
    ((λ e. sym ((bytes_eq-Decides b a).0 e)), (λ e. (bytes_eq-Decides b a).1 (sym e)))

-- one entry of a search for a name that is none of the fourteen
pub same_unknown : (named key : DirectiveKey) (name : List ℕ) (b : Bool) → is_known named ≡ false → name_of named ≡ name
    → b ≡ (not (is_known key) && bytes_eq (name_of key) name) → same_key named key ≡ b
same_unknown named key name b unknown is test = rw (unknown, is, test, bytes_eq-flip name (name_of key)) refl

pub passes : {V : Type 0} (named : DirectiveKey) (all rest later : List (DirectiveKey × V)) (e : DirectiveKey × V) → rest ≡ e ∷ later → same_key named e.0 ≡ false
    → lookup (same_key named) all ≡ lookup (same_key named) rest → lookup (same_key named) all ≡ lookup (same_key named) later
passes named all rest later e step other so_far = so_far ∙ ap (lookup (same_key named)) step ∙ rw other refl

hit : {V : Type 0} (named : DirectiveKey) (later : List (DirectiveKey × V)) (e : DirectiveKey × V) → same_key named e.0 ≡ true → lookup (same_key named) (e ∷ later) ≡ Some e.1
hit named later e same = rw same refl

pub has_hit : (cc : CacheControl) (named : DirectiveKey) (rest later : List (DirectiveKey × Option DirectiveValue)) (e : DirectiveKey × Option DirectiveValue)
    → rest ≡ e ∷ later → same_key named e.0 ≡ true → lookup (same_key named) cc.directives.entries ≡ lookup (same_key named) rest → true ≡ has cc named
unfolding directive_given
has_hit cc named rest later e step same so_far =
    sym (ap (λ found. is_some (option_map value_of found)) (so_far ∙ ap (lookup (same_key named)) step ∙ hit named later e same))

pub has_none : (cc : CacheControl) (named : DirectiveKey) (rest : List (DirectiveKey × Option DirectiveValue))
    → rest ≡ [] → lookup (same_key named) cc.directives.entries ≡ lookup (same_key named) rest → false ≡ has cc named
unfolding directive_given
has_none cc named rest none so_far = sym (ap (λ found. is_some (option_map value_of found)) (so_far ∙ ap (lookup (same_key named)) none))

picks : (b : Bool) (v : Option DirectiveValue) (o : Option (Option DirectiveValue)) (rest : Option (Option (List ℕ))) → option_map value_of o ≡ rest
    → option_map value_of (cond b (Some v) o) ≡ cond b (Some (value_of v)) rest
picks true v o rest same = refl
picks false v o rest same = same

found_by_name : (es : List (DirectiveKey × Option DirectiveValue)) (k : DirectiveKey) → is_known k ≡ is_known_name (name_of k) → All (λ e. is_known e.0 ≡ is_known_name (name_of e.0)) es
    → option_map value_of (lookup (same_key k) es) ≡ lookup (bytes_eq (name_of k)) (entries_of es)
found_by_name [] k p all = refl
found_by_name (e ∷ es) k p all =
    picks (same_key k e.0) e.1 (lookup (same_key k) es) (lookup (bytes_eq (name_of k)) (entries_of es)) (found_by_name es k p (All-tail (λ x. is_known x.0 ≡ is_known_name (name_of x.0)) e es all))
    ∙ ap (λ b. cond b (Some (value_of e.1)) (lookup (bytes_eq (name_of k)) (entries_of es))) (same_named k e.0 p (All-head (λ x. is_known x.0 ≡ is_known_name (name_of x.0)) e es all))

-- in a map that was read, names decide
pub given_by_name : (cc : CacheControl) (k : DirectiveKey) → is_known k ≡ is_known_name (name_of k) → AreNamed cc.directives.entries
    → directive_given cc k ≡ lookup (bytes_eq (name_of k)) (entries_of cc.directives.entries)
unfolding directive_given AreNamed
given_by_name cc k p all = found_by_name cc.directives.entries k p all
