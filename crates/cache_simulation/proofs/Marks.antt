-- What was played up to a mark led to it.
use Rattle.std.proofs.Common.{◌≢◌}
use Rattle.std.specs.List.{All}
use Rattle.std.proofs.lemmas.List.{get_or-set_other}
use Rattle.std.proofs.lemmas.List.Elements.{AllWithin-more_set}
use Rattle.pcache_evict.specs.Policy.{Policy}
use Rattle.cache_simulation.proofs.Words.{◌≡◌, ℕ, ◌+◌, arith, Option, List, [], ◌++◌, sym, subst, ◌∙◌, ◌<◌, ◌≤◌, length, set, take, ap, AllWithin, take-append_seam, All-same, sum_by-append, Counts, Request, Fresh, Rules, Place, Served, gone_in, place, StandsAs}
use Rattle.cache_simulation.proofs.Replaying.{replays-all}

pub marked : {O : Type 0} (p : Policy O) (before asked : List Request) (rules kept next : Rules) (start : Option Fresh) (base result gone left : ℕ) (counts none : Counts) (now then : Place O)
    → next ≡ kept → result ≡ gone → Served p next now [] none result left then → StandsAs p before asked rules start base kept counts gone now → StandsAs p (before ++ asked) [] rules start result next none left then
marked p before asked rules kept next start base result gone left counts none now then same is served stands =
    let total = sum_by-append gone_in stands.past stands.served.events in
    let first = stands.first in
    let after = stands.served.evicted in
    record {
      by = same ∙ stands.by;
      past = stands.past ++ stands.served.events;
      mark = now;
      led = replays-all p rules (place p.none start) stands.mark now before asked stands.past stands.served.events stands.led stands.served.replays;
      first = omega arith;
      served = subst (λ (r : Rules). Served p r now [] none result left then) (same ∙ stands.by) served;
    }

-- more requests were served after the mark
pub played : {O : Type 0} (p : Policy O) (before asked more : List Request) (rules kept next : Rules) (start : Option Fresh) (base gone left : ℕ) (counts new : Counts) (now then : Place O)
    → next ≡ kept → ((s : Place O) (xs : List Request) (b : ℕ) → Served p kept s xs counts b gone now → Served p next s (xs ++ more) new b left then) → StandsAs p before asked rules start base kept counts gone now → StandsAs p before (asked ++ more) rules start base next new left then
played p before asked more rules kept next start base gone left counts new now then same serves stands =
    record {
      by = same ∙ stands.by;
      past = stands.past;
      mark = stands.mark;
      led = stands.led;
      first = stands.first;
      served = subst (λ (r : Rules). Served p r stands.mark (asked ++ more) new base left then) (same ∙ stands.by)
          (serves stands.mark asked base (subst (λ (r : Rules). Served p r stands.mark asked counts base gone now) (sym stands.by) stands.served));
    }

-- what holds of the elements that were changed, and of those that were not yet, after one more
pub each-more : {X : Type 0} (P Q : X → Type 0) (xs : List X) (i n : ℕ) (v : X) → i < length xs → Q v → AllWithin Q xs 0 i × AllWithin P xs i n → AllWithin Q (set xs i v) 0 (i + 1) × AllWithin P (set xs i v) (i + 1) n
each-more P Q xs i n v lt is (done, left) = (
  AllWithin-more_set xs i v lt Q done is,
  λ k d low high. let other : k ≢ i = omega arith in let from : i ≤ k = omega arith in subst P (sym (get_or-set_other xs i k v d other)) (left k d from high),
)

-- once all were changed, the vector has them
pub all-whole : {X : Type 0} (Q : X → Type 0) (xs rest : List X) (n i : ℕ) → n ≡ length xs → length xs ≤ i → AllWithin Q xs 0 i → All Q (take n (xs ++ rest))
all-whole Q xs rest n i long end is = All-same Q _ xs (ap (λ m. take m (xs ++ rest)) long ∙ take-append_seam xs rest) (λ k d low. let below : k < i = omega arith in is k d (omega arith) below)
