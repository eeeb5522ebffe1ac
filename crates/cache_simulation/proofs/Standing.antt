-- What a manager tracks is what stands after the events so far.
use Rattle.std.proofs.Common.{length-append, sum_by}
use Rattle.std.proofs.lemmas.Bool.{both_ways}
use Rattle.pcache_evict.specs.Tracked.{IsWithin}
use Rattle.pcache_evict.proofs.Evictions.{is_gone}
use Rattle.pcache_evict.proofs.TrackedMaps.{get-without_apart}
use Rattle.cache_simulation.specs.Events.{RunsTo, stands, HitsStand}
use Rattle.cache_simulation.specs.Plays.{Becomes}
use Rattle.cache_simulation.proofs.Words.{◌≡◌, ℕ, ◌+◌, arith, Bool, true, false, cond, not, ◌&&◌, ◌||◌, None, Some, is_some, List, [], ◌∷◌, ◌++◌, refl, ap, sym, subst, ◌∙◌, ◌<◌, ◌≤◌, list_any, eq_by_cmp, sum_by-append, sum_by-cons, CacheEntryKey, entry_cmp, entries_total, Tracked, Limits, without, exact_entries, Request, Counts, Event, Hit, Came, Renewed, Passed, comes, is_hit, size_in, Rules, State, IsEvent, Plays, IsCounted, rules_of}
use Rattle.std.specs.FinMap as fin

abbrev ties : CacheEntryKey → CacheEntryKey → Bool
ties = eq_by_cmp entry_cmp

has-insert : (m : Tracked) (k : CacheEntryKey) (n : ℕ) (q : CacheEntryKey) → fin.contains_key (fin.insert m k n) q ≡ (ties q k || fin.contains_key m q)
has-insert m k n q =
    ap is_some (fin.get-insert entries_total m k n q)
    ∙ (elim (ties q k) as (λ b. is_some (cond b (Some n) (fin.get m q)) ≡ (b || is_some (fin.get m q))) [ true ↦ refl | false ↦ refl ])

none_left : (b : Bool) → false ≡ (b && false)
none_left true = refl
none_left false = refl

all_left : (b : Bool) → b ≡ (b && true)
all_left true = refl
all_left false = refl

has-without : (out : List CacheEntryKey) (m : Tracked) (q : CacheEntryKey) → fin.contains_key (without out m) q ≡ (fin.contains_key m q && not (list_any (ties q) out))
has-without out m q =
    elim (list_any (ties q) out) as (λ b. list_any (ties q) out ≡ b → fin.contains_key (without out m) q ≡ (fin.contains_key m q && not b)) [
      | true ↦ λ h. is_gone out m q h ∙ none_left (fin.contains_key m q)
      | false ↦ λ h. ap is_some (get-without_apart out m q h) ∙ all_left (fin.contains_key m q)
    ] refl

has-empty : (q : CacheEntryKey) → fin.contains_key (fin.empty {K = CacheEntryKey} {X = ℕ} {R = entry_cmp}) q ≡ false
has-empty q = ap is_some (fin.get-empty entry_cmp q)

-- what is tracked is what stands
abbrev Tracks : Tracked → List Event → Type 0
Tracks m past = (q : CacheEntryKey) → fin.contains_key m q ≡ stands q past

pub hits-stand : (limits : Limits) (past es : List Event) (m after : Tracked) → Tracks m past → RunsTo limits m es after → HitsStand past es
hits-stand limits past [] m after t r = tt
hits-stand limits past (Hit k n ∷ es) m after t (next, (there, same), rest) =
    (sym (t k) ∙ there, hits-stand limits (Hit k n ∷ past) es next after (λ q. ap (λ m. fin.contains_key m q) same ∙ t q) rest)
hits-stand limits past (Came k n out ∷ es) m after t (next, (fair, is), rest) =
    hits-stand limits (Came k n out ∷ past) es next after (λ q.
    ap (λ m. fin.contains_key m q) is ∙ has-without out (fin.insert m k n) q ∙ ap (λ b. b && not (list_any (ties q) out)) (has-insert m k n q ∙ ap (λ b. ties q k || b) (t q))) rest
hits-stand limits past (Renewed k n out ∷ es) m after t (next, (fair, is), rest) =
    hits-stand limits (Renewed k n out ∷ past) es next after (λ q.
    ap (λ m. fin.contains_key m q) is ∙ has-without out (fin.insert m k n) q ∙ ap (λ b. b && not (list_any (ties q) out)) (has-insert m k n q ∙ ap (λ b. ties q k || b) (t q))) rest
hits-stand limits past (Passed k n ∷ es) m after t (next, same, rest) =
    hits-stand limits (Passed k n ∷ past) es next after (λ q. ap (λ m. fin.contains_key m q) same ∙ t q) rest

pub hits-stand-all : (limits : Limits) (es : List Event) (after : Tracked) → RunsTo limits fin.empty es after → HitsStand [] es
hits-stand-all limits es after r = hits-stand limits [] es fin.empty after has-empty r

pub stays-within : (limits : Limits) (m : Tracked) (es : List Event) (after : Tracked) → IsWithin limits m → RunsTo limits m es after → IsWithin limits after
stays-within limits m [] after w r = subst (IsWithin limits) (sym r) w
stays-within limits m (Hit k n ∷ es) after w (next, (there, same), rest) = stays-within limits next es after (subst (IsWithin limits) (sym same) w) rest
stays-within limits m (Came k n out ∷ es) after w (next, (fair, is), rest) = stays-within limits next es after (subst (IsWithin limits) (sym is) fair.enough) rest
stays-within limits m (Renewed k n out ∷ es) after w (next, (fair, is), rest) = stays-within limits next es after (subst (IsWithin limits) (sym is) fair.enough) rest
stays-within limits m (Passed k n ∷ es) after w (next, same, rest) = stays-within limits next es after (subst (IsWithin limits) (sym same) w) rest

-- what is played is a run
pub runs-of : (rules : Rules) (s t : State) (requests : List Request) (es : List Event) → Plays rules s requests es t → RunsTo rules.limits s.tracked es t.tracked
runs-of rules s t [] [] p = ap (λ s. s.tracked) p
runs-of rules s t [] (e ∷ es) p = absurd p
runs-of rules s t (a ∷ requests) [] p = absurd p
runs-of rules s t (a ∷ requests) (e ∷ es) (between, becomes, rest) = (between.tracked, becomes.leads, runs-of rules between t requests es rest)

-- one more request at the end
pub plays-more : (rules : Rules) (s t u : State) (requests : List Request) (es : List Event) (a : Request) (e : Event) → Plays rules s requests es t → Becomes rules t a e u → Plays rules s (requests ++ a ∷ []) (es ++ e ∷ []) u
plays-more rules s t u [] [] a e p b = (u, subst (λ s. Becomes rules s a e u) p b, refl)
plays-more rules s t u [] (f ∷ es) a e p b = absurd p
plays-more rules s t u (x ∷ requests) [] a e p b = absurd p
plays-more rules s t u (x ∷ requests) (f ∷ es) a e (between, becomes, rest) b = (between, becomes, plays-more rules between t u requests es a e rest b)

pub counted-more : (old now new : Counts) (es : List Event) (e : Event) → IsCounted old es now → IsCounted now (e ∷ []) new → IsCounted old (es ++ e ∷ []) new
counted-more old now new es e p q =
    let f : Event → ℕ = λ e. cond (is_hit e) 1 0 in
    let g : Event → ℕ = λ e. cond (is_hit e) (size_in e) 0 in
    let hits = sum_by-append f es (e ∷ []) in
    let sizes = sum_by-append g es (e ∷ []) in
    let all = sum_by-append size_in es (e ∷ []) in
    let longer = length-append es (e ∷ []) in
    let a1 = p.requests in
    let a2 = p.bytes in
    let a3 = p.hits in
    let a4 = p.hit_bytes in
    let b1 = q.requests in
    let b2 = q.bytes in
    let b3 = q.hits in
    let b4 = q.hit_bytes in
    record { requests = omega arith; bytes = omega arith; hits = omega arith; hit_bytes = omega arith }

-- one event is counted
pub counted-one : (old new : Counts) (e : Event) (hits bytes : ℕ) → new.requests ≡ old.requests + 1 → new.bytes ≡ old.bytes + size_in e → new.hits ≡ old.hits + hits → new.hit_bytes ≡ old.hit_bytes + bytes → cond (is_hit e) 1 0 ≡ hits → cond (is_hit e) (size_in e) 0 ≡ bytes → IsCounted old (e ∷ []) new
counted-one old new e hits bytes a b c d h g =
    let f : Event → ℕ = λ e. cond (is_hit e) 1 0 in
    let w : Event → ℕ = λ e. cond (is_hit e) (size_in e) 0 in
    let one : sum_by f (e ∷ []) ≡ f e + 0 = sum_by-cons f e [] in
    let own : sum_by w (e ∷ []) ≡ w e + 0 = sum_by-cons w e [] in
    let all : sum_by size_in (e ∷ []) ≡ size_in e + 0 = sum_by-cons size_in e [] in
    record { requests = omega arith; bytes = omega arith; hits = omega arith; hit_bytes = omega arith }

-- ---- which event a request is

pub both_first : (a b : Bool) → (a && b) ≡ true → a ≡ true
both_first true b h = refl
both_first false b h = h

pub is-hit : (there anew : Bool) (most : ℕ) (k : CacheEntryKey) (n : ℕ) → there ≡ true → IsEvent there anew most k n (Hit k n)
is-hit there anew most k n y = record { hit = λ _. refl; passed = λ z more. absurd (both_ways _ z y); came = λ z few. absurd (both_ways _ z y) }

pub is-passed : (there anew : Bool) (most : ℕ) (k : CacheEntryKey) (n : ℕ) → there ≡ false → most < n → IsEvent there anew most k n (Passed k n)
is-passed there anew most k n z large = record { hit = λ y. absurd (both_ways _ z y); passed = λ _ _. refl; came = λ _ few. absurd (omega arith) }

pub is-come : (there anew : Bool) (most : ℕ) (k : CacheEntryKey) (n : ℕ) (out : List CacheEntryKey) → there ≡ false → n ≤ most → IsEvent there anew most k n (comes anew k n out)
is-come there anew most k n out z few = record { hit = λ y. absurd (both_ways _ z y); passed = λ _ large. absurd (omega arith); came = λ _ _. (out, refl) }

-- the rules of a cache stay
pub same-rules : (x y : Rules) (s t : State) (asked : Request) (e : Event) → x ≡ y → Becomes x s asked e t → Becomes y s asked e t
same-rules x y s t asked e is h = subst (λ rules. Becomes rules s asked e t) is h

-- rules with equal parts are equal
pub rules-same : (l m : Limits) (a b : ℕ) (c d : Bool) → l ≡ m → a ≡ b → c ≡ d → rules_of l a c ≡ rules_of m b d
rules-same l m a b c d lm ab cd = ap (λ l. rules_of l a c) lm ∙ ap (λ a. rules_of m a c) ab ∙ ap (λ c. rules_of m b c) cd

-- what was removed and is added anew
pub insert-removed : (m : Tracked) (k : CacheEntryKey) (n : ℕ) → fin.insert (fin.remove m k) k n ≡ fin.insert m k n
insert-removed m k n = fin.same_map entries_total exact_entries _ _ (λ q.
    fin.get-insert entries_total (fin.remove m k) k n q
    ∙ ap (λ o. cond (ties q k) (Some n) o) (fin.get-remove entries_total m k q)
    ∙ (elim (ties q k) as (λ b. cond b (Some n) (cond b None (fin.get m q)) ≡ cond b (Some n) (fin.get m q)) [ true ↦ refl | false ↦ refl ])
    ∙ sym (fin.get-insert entries_total m k n q))

-- what comes in is as large anew or not, and no hit
pub comes-size : (anew : Bool) (k : CacheEntryKey) (n : ℕ) (out : List CacheEntryKey) → size_in (comes anew k n out) ≡ n
comes-size true k n out = refl
comes-size false k n out = refl

pub comes-miss : (anew : Bool) (k : CacheEntryKey) (n : ℕ) (out : List CacheEntryKey) → is_hit (comes anew k n out) ≡ false
comes-miss true k n out = refl
comes-miss false k n out = refl
