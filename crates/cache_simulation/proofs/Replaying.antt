-- What requests make of a manager's order is the plain run of its policy.
use Rattle.std.proofs.Common.{length-append}
use Rattle.pcache_evict.specs.Tracked.{IsFair}
use Rattle.pcache_evict.specs.Policy.{Policy, is_in}
use Rattle.cache_simulation.specs.Replays.{Answers, Brings, gone_of}
use Rattle.cache_simulation.proofs.Words.{◌≡◌, ℕ, ◌+◌, ◌-◌, ◌^◌, ◌≤◌, min, arith, length, cond, Bool, false, ◌&&◌, Option, is_some, List, [], ◌∷◌, ◌++◌, refl, ap, sym, subst, ◌∙◌, sum_by-append, sum_by-cons, CacheEntryKey, Tracked, Limits, without, map_of, get-map_of, Request, Counts, Fresh, Event, Hit, Came, Renewed, Passed, comes, is_hit, size_in, Rules, State, IsCounted, IsEvent, state, Place, Replays, gone_in, count_after, counts_after, Served}
use Rattle.std.specs.FinMap as fin
use Rattle.cache_simulation.proofs.Standing.{is-come, insert-removed}

-- the map and the order have the same entries
pub is-in : {O : Type 0} (p : Policy O) (o : O) (m : Tracked) (k : CacheEntryKey) → m ≡ map_of (p.entries o) → is_in p k o ≡ fin.contains_key m k
is-in p o m k same = ap is_some (sym (get-map_of (p.entries o) k)) ∙ ap (λ m. fin.contains_key m k) (sym same)

pub is-anew : {O : Type 0} (p : Policy O) (o : O) (m : Tracked) (k : CacheEntryKey) (replaces : Bool) → m ≡ map_of (p.entries o) → (replaces && fin.contains_key m k) ≡ (replaces && is_in p k o)
is-anew p o m k replaces same = ap (λ b. replaces && b) (sym (is-in p o m k same))

pub is-fresh : {O : Type 0} (p : Policy O) (o : O) (m : Tracked) (k : CacheEntryKey) (fresh there : Bool) → m ≡ map_of (p.entries o) → there ≡ (fin.contains_key m k && fresh) → (is_in p k o && fresh) ≡ there
is-fresh p o m k fresh there same is = ap (λ b. b && fresh) (is-in p o m k same) ∙ sym is

-- what comes in is not in the order, or not fresh
pub is-come-in : {O : Type 0} (p : Policy O) (o : O) (m : Tracked) (k : CacheEntryKey) (n : ℕ) (fresh there replaces : Bool) (most : ℕ) (out : List CacheEntryKey) → m ≡ map_of (p.entries o) → there ≡ (fin.contains_key m k && fresh) → there ≡ false → n ≤ most
    → IsEvent (is_in p k o && fresh) (replaces && is_in p k o) most k n (comes (replaces && fin.contains_key m k) k n out)
is-come-in p o m k n fresh there replaces most out same is absent few =
    subst (λ anew. IsEvent (is_in p k o && fresh) anew most k n (comes (replaces && fin.contains_key m k) k n out)) (is-anew p o m k replaces same)
    (is-come (is_in p k o && fresh) (replaces && fin.contains_key m k) most k n out (is-fresh p o m k fresh there same is ∙ absent) few)

-- the rules of a cache stay
pub same-answers : {O : Type 0} (p : Policy O) (x y : Rules) (s t : Place O) (asked : Request) (e : Event) → x ≡ y → Answers p x s asked e t → Answers p y s asked e t
same-answers p x y s t asked e is h = subst (λ rules. Answers p rules s asked e t) is h

-- one more request at the end
pub replays-more : {O : Type 0} (p : Policy O) (rules : Rules) (s t u : Place O) (requests : List Request) (es : List Event) (a : Request) (e : Event) → Replays p rules s requests es t → Answers p rules t a e u → Replays p rules s (requests ++ a ∷ []) (es ++ e ∷ []) u
replays-more p rules s t u [] [] a e r b = (u, subst (λ s. Answers p rules s a e u) r b, refl)
replays-more p rules s t u [] (f ∷ es) a e r b = absurd r
replays-more p rules s t u (x ∷ requests) [] a e r b = absurd r
replays-more p rules s t u (x ∷ requests) (f ∷ es) a e (between, first, rest) b = (between, first, replays-more p rules between t u requests es a e rest b)

-- more requests at the end
pub replays-all : {O : Type 0} (p : Policy O) (rules : Rules) (s t u : Place O) (requests more : List Request) (es fs : List Event) → Replays p rules s requests es t → Replays p rules t more fs u → Replays p rules s (requests ++ more) (es ++ fs) u
replays-all p rules s t u [] more [] fs r q = subst (λ s. Replays p rules s more fs u) r q
replays-all p rules s t u [] more (e ∷ es) fs r q = absurd r
replays-all p rules s t u (x ∷ requests) more [] fs r q = absurd r
replays-all p rules s t u (x ∷ requests) more (e ∷ es) fs (between, first, rest) q = (between, first, replays-all p rules between t u requests more es fs rest q)

-- one more event is counted
pub counts-more : (count : ℕ) (es : List Event) (e : Event) → counts_after count (es ++ e ∷ []) ≡ count_after (counts_after count es) e
counts-more count [] e = refl
counts-more count (f ∷ es) e = counts-more (count_after count f) es e

-- what was evicted is counted, up to the largest number
one-gone : (count : ℕ) (e : Event) → count ≤ 2 ^ 64 - 1 → count_after count e ≡ min (count + gone_in e) (2 ^ 64 - 1)
one-gone count (Hit k n) small = omega arith
one-gone count (Came k n out) small = refl
one-gone count (Renewed k n out) small = refl
one-gone count (Passed k n) small = omega arith

still-small : (count : ℕ) (e : Event) → count ≤ 2 ^ 64 - 1 → count_after count e ≤ 2 ^ 64 - 1
still-small count e small = (let is = one-gone count e small in omega arith)

pub counts-gone : (count : ℕ) (es : List Event) → count ≤ 2 ^ 64 - 1 → counts_after count es ≡ min (count + gone_of es) (2 ^ 64 - 1)
counts-gone count [] small = omega arith
counts-gone count (e ∷ es) small =
    let rest = counts-gone (count_after count e) es (still-small count e small) in
    let one = one-gone count e small in
    let all = sum_by-cons gone_in e es in
    omega arith

-- one event a request
events-long : {O : Type 0} (p : Policy O) (rules : Rules) (s t : Place O) (requests : List Request) (es : List Event) → Replays p rules s requests es t → length es ≡ length requests
events-long p rules s t [] [] r = refl
events-long p rules s t [] (e ∷ es) r = absurd r
events-long p rules s t (a ∷ requests) [] r = absurd r
events-long p rules s t (a ∷ requests) (e ∷ es) (between, first, rest) = (let long = events-long p rules between t requests es rest in omega arith)

-- a run that served requests has then served these too
pub served-more : {O : Type 0} (p : Policy O) (rules : Rules) (s t u : Place O) (requests more : List Request) (old new : Counts) (b c d : ℕ) (es : List Event)
    → Served p rules s requests old b c t → IsCounted old es new → Replays p rules t more es u → d ≡ counts_after c es → Served p rules s (requests ++ more) new b d u
served-more p rules s t u requests more old new b c d es before counted after gone =
    let hit : Event → ℕ = λ e. cond (is_hit e) 1 0 in
    let hit_size : Event → ℕ = λ e. cond (is_hit e) (size_in e) 0 in
    let long = events-long p rules t u more es after in
    let all = length-append requests more in
    let hits = sum_by-append hit before.events es in
    let hit_bytes = sum_by-append hit_size before.events es in
    let bytes = sum_by-append size_in before.events es in
    let left = sum_by-append gone_in before.events es in
    let so_far = before.evicted in
    let then = counts-gone c es (omega arith) in
    let a1 = before.requests in
    let a2 = before.hits in
    let a3 = before.bytes in
    let a4 = before.hit_bytes in
    let b1 = counted.requests in
    let b2 = counted.hits in
    let b3 = counted.bytes in
    let b4 = counted.hit_bytes in
    record {
      events = before.events ++ es;
      replays = replays-all p rules s t u requests more before.events es before.replays after;
      requests = omega arith;
      hits = omega arith;
      bytes = omega arith;
      hit_bytes = omega arith;
      evicted = omega arith;
    }

-- what was served does not change with the names of its parts
pub same-served : {O : Type 0} (p : Policy O) (x y : Rules) (s t : Place O) (requests more : List Request) (counts : Counts) (b c : ℕ) → x ≡ y → requests ≡ more
    → Served p x s requests counts b c t → Served p y s more counts b c t
same-served p x y s t requests more counts b c is same h = subst (λ r. Served p y s r counts b c t) same (subst (λ rules. Served p rules s requests counts b c t) is h)

-- what was removed and then came in, came in anew
pub brings-anew : {O : Type 0} (p : Policy O) (limits l : Limits) (asked : Request) (m n : Tracked) (f : Option Fresh) (o q : O) (c d : ℕ) (t : State) (next : O) (counted : ℕ)
    → n ≡ fin.remove m asked.item → p.Removes o asked.item q → l ≡ limits → d ≡ c → Brings p l (Came asked.item asked.size) asked (state n f) q d t next counted → Brings p limits (Renewed asked.item asked.size) asked (state m f) o c t next counted
brings-anew p limits l asked m n f o q c d t next counted removed removes same count b =
    let whole : fin.insert n asked.item asked.size ≡ fin.insert m asked.item asked.size = ap (λ x. fin.insert x asked.item asked.size) removed ∙ insert-removed m asked.item asked.size in
    record {
      out = b.out;
      leads = subst (λ (x : Tracked). IsFair limits x b.out × (t.tracked ≡ without b.out x)) whole (subst (λ (y : Limits). IsFair y (fin.insert n asked.item asked.size) b.out × (t.tracked ≡ without b.out (fin.insert n asked.item asked.size))) same b.leads);
      fresh = b.fresh;
      moves = (q, removes, subst (λ (y : Limits). p.Admits y q asked.item asked.size next b.out) same b.moves);
      gone = b.gone ∙ ap (λ x. min (x + length b.out) (2 ^ 64 - 1)) count;
    }
