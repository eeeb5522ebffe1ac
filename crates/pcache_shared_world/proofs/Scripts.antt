-- What is known of a script that was run.
use Rattle.std.proofs.Common.{Result, Ok, Err, OnErr, Vec}
use Rattle.pcache_shared_world.specs.Workers.{RunsWhole, EachRuns, HaveGrown}
use Rattle.pcache_shared_world.proofs.Words.{◌≡◌, ℕ, zero, suc, ◌+◌, ◌<◌, List, [], ◌∷◌, map, take, length, refl, sym, ap, ◌∙◌, subst, arith, length-append, slice_index_or, append-nil, Call, Receipt, Runs, calls_of, script_at}

pub runs_none : (script : List Call) (before : List Receipt) → Runs script before before
runs_none script before = ([], 0, sym (append-nil before), refl)

module _ {X : Type 0} where
  take_whole : (n : ℕ) (xs : List X) → length (take n xs) ≡ length xs → take n xs ≡ xs
  take_whole zero [] e = refl
  take_whole zero (x ∷ xs) e = absurd (omega arith)
  take_whole (suc n) [] e = refl
  take_whole (suc n) (x ∷ xs) e = ap (λ l. x ∷ l) (take_whole n xs (omega arith))

  pub length_at : (xss : List (List X)) (i : ℕ) (d : List X) → i < length xss → slice_index_or (map length xss) i 0 ≡ length (slice_index_or xss i d)
  length_at [] i d lt = absurd (omega arith)
  length_at (xs ∷ xss) zero d lt = refl
  length_at (xs ∷ xss) (suc i) d lt = length_at xss i d (omega arith)

length_calls : (rs : List Receipt) → length (calls_of rs) ≡ length rs
length_calls [] = refl
length_calls (r ∷ rs) = ap suc (length_calls rs)

-- with a receipt for each call, all of it was run
pub runs_whole : (script : List Call) (before after : List Receipt) → Runs script before after → length after ≡ length before + length script → RunsWhole script before after
runs_whole script before after h e =
    let new = h.0 in
    let n = h.1 in
    let a = ap length h.2 ∙ length-append before new in
    let all : length (take n script) ≡ length script = omega (arith, a, e, length_calls new, ap length h.3) in
    (new, h.2, h.3 ∙ take_whole n script all)

pub all_run : {A : Type 0} (scripts : List (Vec Call A)) (before after : List (List Receipt)) (counts : List ℕ)
    → length before ≡ length after → counts ≡ map length before → EachRuns Runs scripts before after → HaveGrown scripts counts after → EachRuns RunsWhole scripts before after
all_run scripts before after counts same are runs grown i d lt =
    runs_whole (script_at scripts i) (slice_index_or before i d) (slice_index_or after i d) (runs i d lt)
    (grown i d (subst (λ n. i < n) same lt) ∙ ap (λ k. k + length (script_at scripts i)) (ap (λ l. slice_index_or l i 0) are ∙ length_at before i d lt))

-- and if all of it was run, there is one for each call
pub whole_grown : {A : Type 0} (scripts : List (Vec Call A)) (before after : List (List Receipt)) (counts : List ℕ)
    → length before ≡ length after → counts ≡ map length before → EachRuns RunsWhole scripts before after → HaveGrown scripts counts after
whole_grown scripts before after counts same are whole i d lt =
    let within = subst (λ n. i < n) (sym same) lt in
    let r = whole i d within in
    let at : slice_index_or counts i 0 ≡ length (slice_index_or before i d) = ap (λ l. slice_index_or l i 0) are ∙ length_at before i d within in
    let a = ap length r.1 ∙ length-append (slice_index_or before i d) r.0 in
    omega (arith, a, at, length_calls r.0, ap length r.2)

-- what holds anyhow holds of a refusal
pub if_refused : {A E P : Type 0} (r : Result A E) → P → OnErr r P
if_refused (Ok a) p = tt
if_refused (Err e) p = p
