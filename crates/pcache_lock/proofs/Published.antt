-- What is found of tokens among publications.
use Rattle.std.proofs.Common.{suc, zero, drop, get_or, length-append}
use Rattle.std.specs.Option.{is_some}
use Rattle.std.specs.List.{slice_get}
use Rattle.std.proofs.lemmas.Option.{slice_get_read}
use Rattle.std.proofs.Math.Seq.{get_or-append_seam}
use Rattle.std.specs.BTreeSet.{BTreeSet, IsEmpty, IsKeyRangeOf}
use Rattle.std.specs.declared.ops.Bound.TheVariants.{Included, Excluded}
use Rattle.std.proofs.lemmas.List.Folds.{list_any_more}
use Rattle.std.proofs.lemmas.Map.Keys.{le_from_not_gt}
use Rattle.std.specs.Ordering.{is_gt}
use Rattle.std.specs.declared.cmp.Ordering.TheVariants.{Less}
use Rattle.std.proofs.lemmas.List.{take_more}
use Rattle.pcache_lock.specs.Waiting.{says_nothing, HasRoom}
use Rattle.pcache_lock.specs.Published.{has_token, entry_of, IsFirstPosition}
use Rattle.pcache_lock.proofs.Words.{◌≡◌, ◌<◌, ◌≤◌, ◌+◌, ◌-◌, ◌^◌, ◌==◌, ℕ, Bool, true, false, not, ◌&&◌, ◌||◌, cond, List, [], ◌∷◌, ◌++◌, length, take, Option, None, Some, refl, sym, ◌∙◌, ap, subst, arith, option_or, list_any, is_at, contains, nat_cmp, take_all, nat_tests, UnusableFill, first_match, first_told, is_entry_for, IsIndex}

-- ---- what one more fill makes of it

picked : (g : UnusableFill) (b : Bool) (x y z : Option UnusableFill) → x ≡ option_or y z → cond b (Some g) x ≡ option_or (cond b (Some g) y) z
picked g true x y z h = refl
picked g false x y z h = h

match_more : (p : List ℕ) (fs : List UnusableFill) (f : UnusableFill) → first_match p (fs ++ f ∷ []) ≡ option_or (first_match p fs) (first_match p (f ∷ []))
match_more p [] f = refl
match_more p (g ∷ fs) f = picked g (list_any (λ t. t == g.token) p) _ _ _ (match_more p fs f)

-- the position of the first publication that has any of the fills, or how many there are
abbrev pub place_told : List UnusableFill → List (List ℕ) → ℕ
place_told fs [] = 0
place_told fs (p ∷ ps) = cond (is_some (first_match p fs)) 0 (suc (place_told fs ps))

pub nothing_told : (ps : List (List ℕ)) → first_told [] ps ≡ None
nothing_told [] = refl
nothing_told (p ∷ ps) = nothing_told ps

pub no_place : (ps : List (List ℕ)) → place_told [] ps ≡ length ps
no_place [] = refl
no_place (p ∷ ps) = ap suc (no_place ps)

or_false : (b : Bool) → b ≡ (b || false)
or_false true = refl
or_false false = refl

and_false : (b : Bool) → (b && false) ≡ false
and_false true = refl
and_false false = refl

either : (a b c : Bool) → (b ≡ true → c ≡ true) → (a || b) ≡ true → (a || c) ≡ true
either true b c h e = refl
either false b c h e = h e

at_head : (b : Bool) (n : ℕ) → b ≡ false → 0 < cond b 0 (suc n)
at_head true n e = cc
at_head false n e = omega arith

behind : (b : Bool) (i n : ℕ) → b ≡ false → i < n → suc i < cond b 0 (suc n)
behind true i n e lt = cc
behind false i n e lt = omega arith

passes : (b : Bool) (i n : ℕ) → i < cond b 0 (suc n) → b ≡ false
passes true i n lt = absurd (omega arith)
passes false i n lt = refl

shorter : (b : Bool) (i n : ℕ) → suc i < cond b 0 (suc n) → i < n
shorter true i n lt = absurd (omega arith)
shorter false i n lt = omega arith

module _ (f : UnusableFill) where
  abbrev at_first : Option UnusableFill → Bool → Option UnusableFill
  at_first o t = option_or o (cond t (Some f) None)

  same_step : (o : Option UnusableFill) (t : Bool) (r s : Option UnusableFill) (m n : ℕ) → (is_some o ≡ false → t ≡ false) → (is_some o ≡ false → (s ≡ r) × (n ≡ m))
      → (option_or (at_first o t) s ≡ option_or o r) × (cond (is_some (at_first o t)) 0 (suc n) ≡ cond (is_some o) 0 (suc m))
  same_step (Some g) t r s m n off rest = (refl, refl)
  same_step None true r s m n off rest = let e : true ≡ false = off refl in cc
  same_step None false r s m n off rest = ((rest refl).0, ap suc (rest refl).1)

  first_step : (o : Option UnusableFill) (t : Bool) (s : Option UnusableFill) (n : ℕ) → is_some o ≡ false → t ≡ true
      → (option_or (at_first o t) s ≡ Some f) × (cond (is_some (at_first o t)) 0 (suc n) ≡ 0)
  first_step (Some g) t s n off e = cc
  first_step None true s n off e = (refl, refl)
  first_step None false s n off e = cc

  next_step : (o : Option UnusableFill) (t : Bool) (s : Option UnusableFill) (m n : ℕ) → is_some o ≡ false → t ≡ false → s ≡ Some f → n ≡ m
      → (option_or (at_first o t) s ≡ Some f) × (cond (is_some (at_first o t)) 0 (suc n) ≡ suc m)
  next_step (Some g) t s m n off e is place = cc
  next_step None true s m n off e is place = cc
  next_step None false s m n off e is place = (is, ap suc place)

-- a fill that no publication before the position has
told_as_before : (fs : List UnusableFill) (f : UnusableFill) (ps : List (List ℕ)) → ((i : ℕ) → i < place_told fs ps → has_token ps i f.token ≡ false)
    → (first_told (fs ++ f ∷ []) ps ≡ first_told fs ps) × (place_told (fs ++ f ∷ []) ps ≡ place_told fs ps)
told_as_before fs f [] none = (refl, refl)
told_as_before fs f (p ∷ ps) none =
    let P : Option UnusableFill → Type 0 = λ x. (option_or x (first_told (fs ++ f ∷ []) ps) ≡ first_told fs (p ∷ ps)) × (cond (is_some x) 0 (suc (place_told (fs ++ f ∷ []) ps)) ≡ place_told fs (p ∷ ps)) in
    subst P (sym (match_more p fs f))
    (same_step f (first_match p fs) (list_any (λ t. t == f.token) p) (first_told fs ps) (first_told (fs ++ f ∷ []) ps) (place_told fs ps) (place_told (fs ++ f ∷ []) ps)
    (λ e. none 0 (at_head _ _ e))
    (λ e. told_as_before fs f ps (λ i lt. none (suc i) (behind _ _ _ e lt))))

-- a fill whose first position is before it
told_now : (fs : List UnusableFill) (f : UnusableFill) (ps : List (List ℕ)) (m : ℕ) → m < place_told fs ps → has_token ps m f.token ≡ true → ((i : ℕ) → i < m → has_token ps i f.token ≡ false)
    → (first_told (fs ++ f ∷ []) ps ≡ Some f) × (place_told (fs ++ f ∷ []) ps ≡ m)
told_now fs f [] m lt has none = cc
told_now fs f (p ∷ ps) zero lt has none =
    let P : Option UnusableFill → Type 0 = λ x. (option_or x (first_told (fs ++ f ∷ []) ps) ≡ Some f) × (cond (is_some x) 0 (suc (place_told (fs ++ f ∷ []) ps)) ≡ 0) in
    subst P (sym (match_more p fs f))
    (first_step f (first_match p fs) (list_any (λ t. t == f.token) p) (first_told (fs ++ f ∷ []) ps) (place_told (fs ++ f ∷ []) ps) (passes _ _ _ lt) has)
told_now fs f (p ∷ ps) (suc m) lt has none =
    let P : Option UnusableFill → Type 0 = λ x. (option_or x (first_told (fs ++ f ∷ []) ps) ≡ Some f) × (cond (is_some x) 0 (suc (place_told (fs ++ f ∷ []) ps)) ≡ suc m) in
    let zeroth : 0 < suc m = omega arith in
    let rest : (first_told (fs ++ f ∷ []) ps ≡ Some f) × (place_told (fs ++ f ∷ []) ps ≡ m) = told_now fs f ps m (shorter _ _ _ lt) has (λ i le. let next : suc i < suc m = omega arith in none (suc i) next) in
    subst P (sym (match_more p fs f))
    (next_step f (first_match p fs) (list_any (λ t. t == f.token) p) (first_told (fs ++ f ∷ []) ps) m (place_told (fs ++ f ∷ []) ps) (passes _ _ _ lt) (none 0 zeroth) rest.0 rest.1)

-- ---- from one publication on

has_dropped : (from : ℕ) (ps : List (List ℕ)) (i token : ℕ) → has_token (drop from ps) i token ≡ has_token ps (from + i) token
has_dropped zero ps i token = let e : zero + i ≡ i = omega arith in ap (λ k. has_token ps k token) (sym e)
has_dropped (suc n) [] i token = refl
has_dropped (suc n) (p ∷ ps) i token = let e : suc n + i ≡ suc (n + i) = omega arith in has_dropped n ps i token ∙ ap (λ k. has_token (p ∷ ps) k token) (sym e)

pub told_without : (ps : List (List ℕ)) (fs : List UnusableFill) (f : UnusableFill) (from before : ℕ) → before ≡ from + place_told fs (drop from ps) → IsFirstPosition ps f.token from before None
    → (first_told (fs ++ f ∷ []) (drop from ps) ≡ first_told fs (drop from ps)) × (before ≡ from + place_told (fs ++ f ∷ []) (drop from ps))
told_without ps fs f from before at none =
    let same : (first_told (fs ++ f ∷ []) (drop from ps) ≡ first_told fs (drop from ps)) × (place_told (fs ++ f ∷ []) (drop from ps) ≡ place_told fs (drop from ps))
    = told_as_before fs f (drop from ps) (λ i lt. let le : from ≤ from + i = omega arith in let under : from + i < before = omega arith in has_dropped from ps i f.token ∙ none (from + i) le under) in
    (same.0, at ∙ ap (λ n. from + n) (sym same.1))

pub told_with : (ps : List (List ℕ)) (fs : List UnusableFill) (f : UnusableFill) (from before place : ℕ) → before ≡ from + place_told fs (drop from ps) → IsFirstPosition ps f.token from before (Some place)
    → (first_told (fs ++ f ∷ []) (drop from ps) ≡ Some f) × (place ≡ from + place_told (fs ++ f ∷ []) (drop from ps))
told_with ps fs f from before place at (le, lt, has, none) =
    let back : from + (place - from) ≡ place = omega arith in
    let under : place - from < place_told fs (drop from ps) = omega arith in
    let now : (first_told (fs ++ f ∷ []) (drop from ps) ≡ Some f) × (place_told (fs ++ f ∷ []) (drop from ps) ≡ place - from)
    = told_now fs f (drop from ps) (place - from) under (has_dropped from ps (place - from) f.token ∙ ap (λ k. has_token ps k f.token) back ∙ has)
    (λ i less. let above : from ≤ from + i = omega arith in let early : from + i < place = omega arith in has_dropped from ps i f.token ∙ none (from + i) above early) in
    (now.0, sym back ∙ ap (λ n. from + n) (sym now.1))

-- ---- the index

-- one more publication
pub has_more : (ps : List (List ℕ)) (p : List ℕ) (place token : ℕ) → has_token (ps ++ p ∷ []) place token ≡ (has_token ps place token || ((place == length ps) && list_any (λ t. t == token) p))
has_more [] p zero token = refl
has_more [] p (suc n) token = let off : (suc n == 0) ≡ false = grind (arith, nat_tests) in ap (λ b. b && list_any (λ t. t == token) p) (sym off)
has_more (q ∷ ps) p zero token = let off : (0 == suc (length ps)) ≡ false = grind (arith, nat_tests) in or_false (list_any (λ t. t == token) q) ∙ ap (λ b. list_any (λ t. t == token) q || (b && list_any (λ t. t == token) p)) (sym off)
has_more (q ∷ ps) p (suc n) token = let same : (n == length ps) ≡ (suc n == suc (length ps)) = grind (arith, nat_tests) in has_more ps p n token ∙ ap (λ b. has_token ps n token || (b && list_any (λ t. t == token) p)) same

pub none_behind : (ps : List (List ℕ)) (place token : ℕ) → length ps ≤ place → has_token ps place token ≡ false
none_behind [] place token le = refl
none_behind (p ∷ ps) zero token le = absurd (omega arith)
none_behind (p ∷ ps) (suc n) token le = let less : length ps ≤ n = omega arith in none_behind ps n token less

not_true : (b : Bool) → (b ≡ true → ⊥) → b ≡ false
not_true true h = absurd (h refl)
not_true false h = refl

-- the first entry of a token's range is that of its first position there
pub place_found : (index : BTreeSet ℕ) (ps : List (List ℕ)) (token from before base start end : ℕ) → IsIndex index ps → before < 2 ^ 64 → base ≡ entry_of token 0 → start ≡ entry_of token from → end ≡ entry_of token before
    → (r rest : List ℕ) (k : ℕ) → IsKeyRangeOf nat_cmp (Included start) (Excluded end) index r → r ≡ k ∷ rest → IsFirstPosition ps token from before (Some (k - base))
place_found index ps token from before base start end known small base-is start-is end-is r rest k range is =
    let P : List ℕ → Type 0 = λ xs. IsKeyRangeOf nat_cmp (Included start) (Excluded end) index xs in
    let at : IsKeyRangeOf nat_cmp (Included start) (Excluded end) index (k ∷ rest) = subst P is range in
    let low : start ≤ k = le_from_not_gt start k at.1.0.0 in
    let high : k < end = grind (arith, nat_tests, at.1.0.1) in
    let back : entry_of token (k - base) ≡ k = omega arith in
    let above : from ≤ k - base = omega arith in
    let under : k - base < before = omega arith in
    let fits : k - base < 2 ^ 64 = omega arith in (
      above,
      under,
      sym (known token (k - base) fits) ∙ ap (contains nat_cmp index) back ∙ at.1.1,
      λ i le lt. let small_i : i < 2 ^ 64 = omega arith in sym (known token i small_i) ∙ not_true (contains nat_cmp index (entry_of token i))
          (λ has.
          let from_start : is_gt (nat_cmp start (entry_of token i)) ≡ false = grind (arith, nat_tests) in
          let to_end : nat_cmp (entry_of token i) end ≡ Less = grind (arith, nat_tests) in
          let first : k ≤ entry_of token i = le_from_not_gt k (entry_of token i) (at.2 (entry_of token i) (from_start, to_end) has) in
          omega arith),
    )

-- what one more fill is told, if it is found and if it is not
pub found_next : (ps : List (List ℕ)) (fs : List UnusableFill) (i : ℕ) (d : UnusableFill) (from before place : ℕ) (found : Option ℕ) → i < length fs → before ≡ from + place_told (take i fs) (drop from ps)
    → IsFirstPosition ps (get_or fs i d).token from before found → found ≡ Some place
    → (first_told (take (i + 1) fs) (drop from ps) ≡ Some (get_or fs i d)) × (place ≡ from + place_told (take (i + 1) fs) (drop from ps))
found_next ps fs i d from before place found lt at first is =
    let P : List UnusableFill → Type 0 = λ gs. (first_told gs (drop from ps) ≡ Some (get_or fs i d)) × (place ≡ from + place_told gs (drop from ps)) in
    subst P (sym (take_more fs i d lt)) (told_with ps (take i fs) (get_or fs i d) from before place at (subst (IsFirstPosition ps (get_or fs i d).token from before) is first))

pub not_found_next : (ps : List (List ℕ)) (fs : List UnusableFill) (i : ℕ) (d : UnusableFill) (from before : ℕ) (found : Option ℕ) → i < length fs → before ≡ from + place_told (take i fs) (drop from ps)
    → IsFirstPosition ps (get_or fs i d).token from before found → found ≡ None
    → (first_told (take (i + 1) fs) (drop from ps) ≡ first_told (take i fs) (drop from ps)) × (before ≡ from + place_told (take (i + 1) fs) (drop from ps))
not_found_next ps fs i d from before found lt at first is =
    let P : List UnusableFill → Type 0 = λ gs. (first_told gs (drop from ps) ≡ first_told (take i fs) (drop from ps)) × (before ≡ from + place_told gs (drop from ps)) in
    subst P (sym (take_more fs i d lt)) (told_without ps (take i fs) (get_or fs i d) from before at (subst (IsFirstPosition ps (get_or fs i d).token from before) is first))

-- ---- the changes of the index

pub same_number : (k q : ℕ) → is_at (nat_cmp k) q ≡ (k == q)
same_number k q = grind (arith, nat_tests)

marked_more : (e a b : Bool) → cond e true (a || b) ≡ (a || (b || e))
marked_more true true b = refl
marked_more true false true = refl
marked_more true false false = refl
marked_more false true b = refl
marked_more false false true = refl
marked_more false false false = refl

taken_more : (e a b : Bool) → cond e false (a && not b) ≡ (a && not (b || e))
taken_more true true true = refl
taken_more true true false = refl
taken_more true false b = refl
taken_more false true true = refl
taken_more false true false = refl
taken_more false false b = refl

-- one more token is put in, and removed
pub more_in : (old index new : BTreeSet ℕ) (place : ℕ) (tokens : List ℕ) (i k q : ℕ) → i < length tokens → k ≡ entry_of (get_or tokens i 0) place
    → contains nat_cmp index q ≡ (contains nat_cmp old q || is_entry_for place (take i tokens) q)
    → contains nat_cmp new q ≡ cond (is_at (nat_cmp k) q) true (contains nat_cmp index q)
    → contains nat_cmp new q ≡ (contains nat_cmp old q || is_entry_for place (take (i + 1) tokens) q)
more_in old index new place tokens i k q lt is so_far step =
    step ∙ ap (λ b. cond b true (contains nat_cmp index q)) (same_number k q) ∙ ap (λ b. cond (k == q) true b) so_far
    ∙ marked_more (k == q) (contains nat_cmp old q) (is_entry_for place (take i tokens) q)
    ∙ ap (λ e. contains nat_cmp old q || (is_entry_for place (take i tokens) q || (e == q))) is
    ∙ ap (λ b. contains nat_cmp old q || b) (sym (list_any_more (λ t. entry_of t place == q) tokens i 0 lt))

pub more_out : (old index new : BTreeSet ℕ) (place : ℕ) (tokens : List ℕ) (i k q : ℕ) → i < length tokens → k ≡ entry_of (get_or tokens i 0) place
    → contains nat_cmp index q ≡ (contains nat_cmp old q && not (is_entry_for place (take i tokens) q))
    → contains nat_cmp new q ≡ cond (is_at (nat_cmp k) q) false (contains nat_cmp index q)
    → contains nat_cmp new q ≡ (contains nat_cmp old q && not (is_entry_for place (take (i + 1) tokens) q))
more_out old index new place tokens i k q lt is so_far step =
    step ∙ ap (λ b. cond b false (contains nat_cmp index q)) (same_number k q) ∙ ap (λ b. cond (k == q) false b) so_far
    ∙ taken_more (k == q) (contains nat_cmp old q) (is_entry_for place (take i tokens) q)
    ∙ ap (λ e. contains nat_cmp old q && not (is_entry_for place (take i tokens) q || (e == q))) is
    ∙ ap (λ b. contains nat_cmp old q && not b) (sym (list_any_more (λ t. entry_of t place == q) tokens i 0 lt))

none_taken : (a b c : Bool) → (b ≡ true → c ≡ true) → (c ≡ true → a ≡ false) → ((a || b) && not c) ≡ a
none_taken a b true within none = and_false (a || b) ∙ sym (none refl)
none_taken true b false within none = refl
none_taken false true false within none = let e : false ≡ true = within refl in cc
none_taken false false false within none = refl

any_of_all : (test : ℕ → Bool) (i : ℕ) (xs : List ℕ) → list_any test (take i xs) ≡ true → list_any test xs ≡ true
any_of_all test zero xs h = cc
any_of_all test (suc i) [] h = h
any_of_all test (suc i) (x ∷ xs) h = either (test x) (list_any test (take i xs)) (list_any test xs) (any_of_all test i xs) h

-- what was put in is removed again
pub as_before : (old marked new : BTreeSet ℕ) (place : ℕ) (tokens : List ℕ) (i q : ℕ) → (is_entry_for place tokens q ≡ true → contains nat_cmp old q ≡ false)
    → contains nat_cmp marked q ≡ (contains nat_cmp old q || is_entry_for place (take i tokens) q)
    → contains nat_cmp new q ≡ (contains nat_cmp marked q && not (is_entry_for place tokens q))
    → contains nat_cmp new q ≡ contains nat_cmp old q
as_before old marked new place tokens i q none in_it out =
    out ∙ ap (λ b. b && not (is_entry_for place tokens q)) in_it
    ∙ none_taken (contains nat_cmp old q) (is_entry_for place (take i tokens) q) (is_entry_for place tokens q) (any_of_all (λ t. entry_of t place == q) i tokens) none

-- ---- the index of more publications

alike : (e a b : Bool) → (e ≡ true → (a ≡ true) × (b ≡ true)) → (a ≡ true → b ≡ true → e ≡ true) → e ≡ (a && b)
alike true a b to back = sym (ap (λ x. x && b) (to refl).0 ∙ (to refl).1)
alike false true true to back = back refl refl
alike false true false to back = refl
alike false false b to back = refl

shared : (p a b : Bool) → ((p && a) || (p && b)) ≡ (p && (a || b))
shared true a b = refl
shared false a b = refl

-- index entries are equal if their tokens and positions are
same_entry : (t u i j : ℕ) → i < 2 ^ 64 → j < 2 ^ 64 → (entry_of t i == entry_of u j) ≡ ((j == i) && (t == u))
same_entry t u i j small_i small_j = alike (entry_of t i == entry_of u j) (j == i) (t == u)
    (λ e. let is : entry_of t i ≡ entry_of u j = grind (arith, nat_tests) in let t_is : t ≡ u = omega arith in let i_is : j ≡ i = omega arith in (let a : (j == i) ≡ true = grind (arith, nat_tests) in a, let b : (t == u) ≡ true = grind (arith, nat_tests) in b))
    (λ a b. let t_is : t ≡ u = grind (arith, nat_tests) in let i_is : j ≡ i = grind (arith, nat_tests) in let is : entry_of t i ≡ entry_of u j = omega arith in let e : (entry_of t i == entry_of u j) ≡ true = grind (arith, nat_tests) in e)

pub index_none : (index : BTreeSet ℕ) → IsEmpty index → IsIndex index []
index_none index none token place small = ap (λ ks. list_any (is_at (nat_cmp (entry_of token place))) ks) none

pub index_more : (index new : BTreeSet ℕ) (ps : List (List ℕ)) (p : List ℕ) → length ps < 2 ^ 64 → IsIndex index ps → ((q : ℕ) → contains nat_cmp new q ≡ (contains nat_cmp index q || is_entry_for (length ps) p q)) → IsIndex new (ps ++ p ∷ [])
index_more index new ps p few known step token place small =
    step (entry_of token place) ∙ ap (λ b. b || is_entry_for (length ps) p (entry_of token place)) (known token place small)
    ∙ ap (λ b. has_token ps place token || b) (current p) ∙ sym (has_more ps p place token) where
      current : (xs : List ℕ) → is_entry_for (length ps) xs (entry_of token place) ≡ ((place == length ps) && list_any (λ t. t == token) xs)
      current [] = sym (and_false (place == length ps))
      current (x ∷ xs) =
          ap (λ e. e || is_entry_for (length ps) xs (entry_of token place)) (same_entry x token (length ps) place few small)
          ∙ ap (λ b. ((place == length ps) && (x == token)) || b) (current xs)
          ∙ shared (place == length ps) (x == token) (list_any (λ t. t == token) xs)

pub index_silent : (index : BTreeSet ℕ) (ps : List (List ℕ)) → IsIndex index ps → IsIndex index (ps ++ [] ∷ [])
index_silent index ps known token place small =
    known token place small ∙ or_false (has_token ps place token) ∙ ap (λ b. has_token ps place token || b) (sym (and_false (place == length ps))) ∙ sym (has_more ps [] place token)

-- the index has nothing behind the last position
pub index_ends : (index : BTreeSet ℕ) (ps : List (List ℕ)) (p : List ℕ) → length ps < 2 ^ 64 → IsIndex index ps → (q : ℕ) → is_entry_for (length ps) p q ≡ true → contains nat_cmp index q ≡ false
index_ends index ps [] few known q at = cc
index_ends index ps (x ∷ xs) few known q at = apart (entry_of x (length ps) == q) refl at (λ h. index_ends index ps xs few known q h) where
  apart : (b : Bool) → (entry_of x (length ps) == q) ≡ b → (b || is_entry_for (length ps) xs q) ≡ true → (is_entry_for (length ps) xs q ≡ true → contains nat_cmp index q ≡ false) → contains nat_cmp index q ≡ false
  apart true e h rest = let is : q ≡ entry_of x (length ps) = grind (arith, nat_tests) in let all : length ps ≤ length ps = omega arith in ap (contains nat_cmp index) is ∙ known x (length ps) few ∙ none_behind ps (length ps) x all
  apart false e h rest = rest h

-- ---- no token yet, and all of them

pub none_yet : (a : Bool) → a ≡ (a || false)
none_yet a = or_false a

pub all_yet : (a : Bool) → a ≡ (a && not false)
all_yet true = refl
all_yet false = refl

pub whole : (place : ℕ) (tokens : List ℕ) (i q : ℕ) → length tokens ≤ i → is_entry_for place (take i tokens) q ≡ is_entry_for place tokens q
whole place tokens i q le = ap (λ ts. is_entry_for place ts q) (take_all i tokens le)

pub index_cleared : (index : BTreeSet ℕ) (ps : List (List ℕ)) → IsEmpty index → ps ≡ [] → IsIndex index (ps ++ [] ∷ [])
index_cleared index ps none is = subst (λ (qs : List (List ℕ)). IsIndex index (qs ++ [] ∷ [])) (sym is) (index_silent index [] (index_none index none))

-- ---- the current publication is empty

says_last : (ps : List (List ℕ)) → says_nothing (slice_get (ps ++ [] ∷ []) (length (ps ++ [] ∷ []) - 1)) ≡ true
says_last ps =
    let one : List (List ℕ) = [] ∷ [] in
    let len : length (ps ++ one) ≡ length ps + 1 = length-append ps one in
    let lt : length ps < length (ps ++ one) = omega arith in
    let place : length (ps ++ one) - 1 ≡ length ps = omega arith in
    ap (λ i. says_nothing (slice_get (ps ++ one) i)) place
    ∙ ap says_nothing (slice_get_read (ps ++ one) (length (ps ++ one)) (length ps) [] refl lt (sym (get_or-append_seam ps [] [] [])))

cleared_all : (index : BTreeSet ℕ) (ps new : List (List ℕ)) (t : List ℕ) (capacity : ℕ) → t ≡ [] → new ≡ ps ++ t ∷ [] → IsIndex index (ps ++ [] ∷ []) → HasRoom new capacity × IsIndex index new
cleared_all index ps new t capacity none is known =
    let last : new ≡ ps ++ [] ∷ [] = is ∙ ap (λ x. ps ++ x ∷ []) none in
    let P : List (List ℕ) → Type 0 = λ qs. HasRoom qs capacity × IsIndex index qs in
    subst P (sym last) ((λ h. let e : true ≡ false = sym (says_last ps) ∙ h in cc), known)

pub cleared_alone : (index : BTreeSet ℕ) (ps new : List (List ℕ)) (t : List ℕ) (capacity : ℕ) → IsEmpty index → ps ≡ [] → t ≡ [] → new ≡ ps ++ t ∷ [] → HasRoom new capacity × IsIndex index new
cleared_alone index ps new t capacity empty fresh none is = cleared_all index ps new t capacity none is (index_cleared index ps empty fresh)

pub cleared_last : (index : BTreeSet ℕ) (ps new : List (List ℕ)) (t : List ℕ) (capacity : ℕ) → IsIndex index ps → t ≡ [] → new ≡ ps ++ t ∷ [] → HasRoom new capacity × IsIndex index new
cleared_last index ps new t capacity known none is = cleared_all index ps new t capacity none is (index_silent index ps known)

-- ---- a publication behind the others

pub ends_there : (index : BTreeSet ℕ) (ps : List (List ℕ)) (p : List ℕ) (n : ℕ) → n ≡ length ps → n < 2 ^ 64 → IsIndex index ps → (q : ℕ) → is_entry_for n p q ≡ true → contains nat_cmp index q ≡ false
ends_there index ps p n is few known q at =
    let small : length ps < 2 ^ 64 = omega arith in
    index_ends index ps p small known q (ap (λ k. is_entry_for k p q) (sym is) ∙ at)

pub added : (index marked : BTreeSet ℕ) (ps new : List (List ℕ)) (p q : List ℕ) (n capacity : ℕ) → n ≡ length ps → n < 2 ^ 64 → length ps + 1 < capacity → IsIndex index ps
    → ((e : ℕ) → contains nat_cmp marked e ≡ (contains nat_cmp index e || is_entry_for n p e)) → q ≡ p → new ≡ ps ++ q ∷ [] → HasRoom new capacity × IsIndex marked new
added index marked ps new p q n capacity is few room known step same last =
    let small : length ps < 2 ^ 64 = omega arith in
    let one : List (List ℕ) = p ∷ [] in
    let len : length (ps ++ one) ≡ length ps + 1 = length-append ps one in
    let fits : length (ps ++ one) < capacity = omega arith in
    let next : new ≡ ps ++ p ∷ [] = last ∙ ap (λ x. ps ++ x ∷ []) same in
    let P : List (List ℕ) → Type 0 = λ qs. HasRoom qs capacity × IsIndex marked qs in
    subst P (sym next) ((λ h. fits), index_more index marked ps p small known (λ e. step e ∙ ap (λ k. contains nat_cmp index e || is_entry_for k p e) is))
