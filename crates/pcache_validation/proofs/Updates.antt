-- Fields that are taken out of a head, and put into one.
use Rattle.std.proofs.Common.{◌≢◌, suc, not, Option, MatchOption, Result, Ok, Err, append_assoc, append-nil}
use Rattle.std.specs.Prelude.{is_some, All, OnOk}
use Rattle.std.proofs.lemmas.Slice.Eq.{bytes_eq-Decides}
use Rattle.http_header.specs.HeaderMap.{append, index_of, keys, remove_at, IsHeaderMap, IsUnique}
use Rattle.http_header.specs.Places.{IsAbsent, IsAt}
use Rattle.http_header.specs.Token.{lowercase}
use Rattle.http_header.proofs.BucketsLemmas.{IsUnique-swap_remove}
use Rattle.http_header.proofs.HeaderMapLemmas.{get_all-remove_same, get_all-remove_other, get_all-append_same, get_all-append_other}
use Rattle.http_header.proofs.PlacesLemmas.{index_of_cases}
use Rattle.pcache_base.specs.declared.error.ErrorType.{ErrorType}
use Rattle.pcache_validation.specs.Lists.{elements}
use Rattle.pcache_validation.specs.Updating.{is_among, is_left_out, left_out, of_the_body, of_the_connection, of_the_message, of_the_proxy, AreSameBut, IsBroughtIn, IsUpdated, Takes}
use Rattle.pcache_validation.specs.declared.updating.StoredBody.{StoredBody}
use Rattle.pcache_validation.proofs.Words.{◌≡◌, ℕ, ◌<◌, Bool, true, false, cond, ◌&&◌, ◌||◌, List, [], ◌∷◌, ◌++◌, length, Some, None, refl, sym, ap, ◌∙◌, subst, bytes_eq, arith, slice_get, codes, list_any, FieldValue, Entries, get, get_all, remove, without_names, without_lines, with_lines}

-- ---- what is taken out

unique_at : (m : Entries FieldValue) (name : List ℕ) (place : Option ℕ) → MatchOption place (IsAbsent m name) (IsAt m name) → IsUnique m → IsUnique (remove_at m place)
unique_at m name None is unique = unique
unique_at m name (Some i) is unique = IsUnique-swap_remove m i is.within unique

unique_without : (m : Entries FieldValue) (name : List ℕ) → IsUnique m → IsUnique (remove m name)
unique_without m name = unique_at m name (index_of m name) (index_of_cases m name)

pub unique_without_names : (m : Entries FieldValue) (names : List (List ℕ)) → IsUnique m → IsUnique (without_names m names)
unique_without_names m [] unique = unique
unique_without_names m (n ∷ names) unique = unique_without_names (remove m (lowercase n)) names (unique_without m (lowercase n) unique)

pub unique_without_lines : (m : Entries FieldValue) (lines : List FieldValue) → IsUnique m → IsUnique (without_lines m lines)
unique_without_lines m [] unique = unique
unique_without_lines m (line ∷ lines) unique =
    unique_without_lines (without_names m (elements line.bytes)) lines (unique_without_names m (elements line.bytes) unique)

equal : (a b : List ℕ) → bytes_eq a b ≡ true → a ≡ b
equal a b is = (bytes_eq-Decides a b).0 is

differ : (a b : List ℕ) → bytes_eq a b ≡ false → a ≢ b
differ a b is same = let t : bytes_eq a b ≡ true = (bytes_eq-Decides a b).1 same in cc

-- a name that is taken out, of two
out : (m : Entries FieldValue) (name other : List ℕ) (b : Bool) → bytes_eq name other ≡ b → IsUnique m → get_all (remove m name) other ≡ cond b [] (get_all m other)
out m name other true is unique = subst (λ n. get_all (remove m name) n ≡ []) (equal name other is) (get_all-remove_same m name unique)
out m name other false is unique = get_all-remove_other m name other unique (differ name other is)

either : (a b : Bool) (vs : List FieldValue) → cond a [] (cond b [] vs) ≡ cond (b || a) [] vs
either true true vs = refl
either true false vs = refl
either false true vs = refl
either false false vs = refl

pub get_all_without_names : (m : Entries FieldValue) (names : List (List ℕ)) (name : List ℕ) → IsUnique m
    → get_all (without_names m names) name ≡ cond (is_among name names) [] (get_all m name)
get_all_without_names m [] name unique = refl
get_all_without_names m (n ∷ names) name unique =
    get_all_without_names (remove m (lowercase n)) names name (unique_without m (lowercase n) unique)
    ∙ ap (λ vs. cond (is_among name names) [] vs) (out m (lowercase n) name (bytes_eq (lowercase n) name) refl unique)
    ∙ either (is_among name names) (bytes_eq (lowercase n) name) (get_all m name)

abbrev pub is_named : List ℕ → List FieldValue → Bool
is_named name lines = list_any (λ (line : FieldValue). is_among name (elements line.bytes)) lines

pub get_all_without_lines : (m : Entries FieldValue) (lines : List FieldValue) (name : List ℕ) → IsUnique m
    → get_all (without_lines m lines) name ≡ cond (is_named name lines) [] (get_all m name)
get_all_without_lines m [] name unique = refl
get_all_without_lines m (line ∷ lines) name unique =
    get_all_without_lines (without_names m (elements line.bytes)) lines name (unique_without_names m (elements line.bytes) unique)
    ∙ ap (λ vs. cond (is_named name lines) [] vs) (get_all_without_names m (elements line.bytes) name unique)
    ∙ either (is_named name lines) (is_among name (elements line.bytes)) (get_all m name)

-- ---- what is put in

pub same_with_lines : (m : Entries FieldValue) (name : List ℕ) (vs : List FieldValue) → get_all (with_lines m name vs) name ≡ get_all m name ++ vs
same_with_lines m name [] = sym (append-nil (get_all m name))
same_with_lines m name (v ∷ vs) =
    same_with_lines (append m name v) name vs
    ∙ ap (λ before. before ++ vs) (get_all-append_same m name v)
    ∙ append_assoc (get_all m name) (v ∷ []) vs

pub others_with_lines : (m : Entries FieldValue) (name : List ℕ) (vs : List FieldValue) (other : List ℕ) → name ≢ other
    → get_all (with_lines m name vs) other ≡ get_all m other
others_with_lines m name [] other unlike = refl
others_with_lines m name (v ∷ vs) other unlike = others_with_lines (append m name v) name vs other unlike ∙ get_all-append_other m name other v unlike

-- ---- each field of another head, name by name

abbrev pub is_key : List ℕ → List (List ℕ) → Bool
is_key name names = list_any (λ key. bytes_eq key name) names

-- once the names that are left are put in, all are
pub record Replacing (brought before now : Entries FieldValue) (left : List (List ℕ)) : Type 0 where
  pub lines : (name : List ℕ) → cond (is_key name left) (get_all brought name) (get_all now name)
      ≡ cond (is_key name (keys brought)) (get_all brought name) (get_all before name)

filled_one : (vs : List FieldValue) → 0 < length vs → true ≡ is_some (slice_get vs 0)
filled_one [] some = absurd (omega arith)
filled_one (v ∷ vs) some = refl

filled_pick : (b k : Bool) (here there : List FieldValue) → 0 < length here → k ≡ is_some (slice_get there 0) → (b || k) ≡ is_some (slice_get (cond b here there) 0)
filled_pick true k here there some is = filled_one here some
filled_pick false k here there some is = is

key_is_some : (m : Entries FieldValue) (name : List ℕ) → All (λ e. 0 < length e.1) m → is_key name (keys m) ≡ is_some (get m name)
key_is_some [] name filled = refl
key_is_some (e ∷ m) name filled =
    filled_pick (bytes_eq e.0 name) (is_key name (keys m)) e.1 (get_all m name) (filled 0 e (omega arith)) (key_is_some m name (λ k d h. filled (suc k) d (omega arith)))

pub all_replaced : (brought before now : Entries FieldValue) → IsHeaderMap brought → Replacing brought before now [] → Takes brought before now
all_replaced brought before now valid is = record {
  lines = λ name. is.lines name ∙ ap (λ k. cond k (get_all brought name) (get_all before name)) (key_is_some brought name valid.filled);
}

-- ---- what is left out, and what is brought in

-- once each step has taken its names out, what is left is what is brought in
pub brought : (body : StoredBody) (new copy named connection proxy message rest : Entries FieldValue) → IsUnique new → copy ≡ new
    → named ≡ without_lines copy (get_all new (codes "connection")) → connection ≡ without_names named of_the_connection
    → proxy ≡ without_names connection of_the_proxy → message ≡ without_names proxy of_the_message
    → rest ≡ without_names message (of_the_body body) → IsBroughtIn body new rest
brought body new copy named connection proxy message rest unique copied by_lines by_connection by_proxy by_message by_body =
    let lines = get_all new (codes "connection") in
    let together : rest ≡ without_names named (left_out body) =
    by_body ∙ ap (λ (m : Entries FieldValue). without_names m (of_the_body body))
    (by_message ∙ ap (λ (m : Entries FieldValue). without_names m of_the_message)
    (by_proxy ∙ ap (λ (m : Entries FieldValue). without_names m of_the_proxy) by_connection)) in
    let from : named ≡ without_lines new lines = by_lines ∙ ap (λ (m : Entries FieldValue). without_lines m lines) copied in
    let all : rest ≡ without_names (without_lines new lines) (left_out body) = together ∙ ap (λ (m : Entries FieldValue). without_names m (left_out body)) from in
    record {
      lines = λ name. ap (λ (m : Entries FieldValue). get_all m name) all
          ∙ get_all_without_names (without_lines new lines) (left_out body) name (unique_without_lines new lines unique)
          ∙ ap (λ vs. cond (is_among name (left_out body)) [] vs) (get_all_without_lines new lines name unique)
          ∙ either (is_among name (left_out body)) (is_named name lines) (get_all new name);
    }

pub taken : (left : Bool) (brought new stored : List FieldValue) → brought ≡ cond left [] new
    → cond (is_some (slice_get brought 0)) brought stored ≡ cond (is_some (slice_get new 0) && not left) new stored
taken true brought [] stored is = rw is refl
taken true brought (v ∷ new) stored is = rw is refl
taken false brought [] stored is = rw is refl
taken false brought (v ∷ new) stored is = rw is refl

pub updates : (body : StoredBody) (new brought stored copy after : Entries FieldValue) → IsBroughtIn body new brought → copy ≡ stored
    → Takes brought copy after → IsUpdated body new stored after
updates body new brought stored copy after brings same takes = record {
  lines = λ name. takes.lines name
      ∙ ap (λ (m : Entries FieldValue). cond (is_some (get brought name)) (get_all brought name) (get_all m name)) same
      ∙ taken (is_left_out body new name) (get_all brought name) (get_all new name) (get_all stored name) (brings.lines name);
}

-- ---- one field in place of what there was

pub replaced_same : (r : Result (Unit {0}) ErrorType) (out after : Entries FieldValue) (name : List ℕ) (vs : List FieldValue) → get_all out name ≡ []
    → OnOk r (after ≡ with_lines out name vs) → OnOk r (get_all after name ≡ vs)
replaced_same (Ok x) out after name vs gone is =
    ap (λ (m : Entries FieldValue). get_all m name) is ∙ same_with_lines out name vs ∙ ap (λ before. before ++ vs) gone
replaced_same (Err e) out after name vs gone is = tt

pub replaced_others : (r : Result (Unit {0}) ErrorType) (before out after : Entries FieldValue) (name : List ℕ) (vs : List FieldValue) → IsUnique before
    → out ≡ remove before name → OnOk r (after ≡ with_lines out name vs) → OnOk r (AreSameBut name before after)
replaced_others (Ok x) before out after name vs unique removed is = record {
  others = λ other unlike. ap (λ (m : Entries FieldValue). get_all m other) is
      ∙ others_with_lines out name vs other unlike
      ∙ ap (λ (m : Entries FieldValue). get_all m other) removed
      ∙ get_all-remove_other before name other unique unlike;
}
replaced_others (Err e) before out after name vs unique removed is = tt
