-- What a run tells of the requests since the mark, and where it begins.
use Rattle.pcache_evict.specs.Tracked.{weight}
use Rattle.pcache_evict.specs.Policy.{Policy}
use Rattle.cache_simulation.specs.Caches.{RanAs}
use Rattle.cache_simulation.proofs.Words.{◌≡◌, ℕ, ◌-◌, ◌^◌, min, Option, List, sym, subst, ap, ◌∙◌, map_of, Told, Counts, Request, Fresh, Rules, Place, Served, StandsAs}

pub told-as : {O : Type 0} (p : Policy O) (before asked : List Request) (rules kept : Rules) (start : Option Fresh) (base gone : ℕ) (counts : Counts) (now : Place O) (told : Told)
    → told.counts ≡ counts → told.evicted ≡ gone - base → told.tracked ≡ min (weight (map_of (p.entries now.order))) (2 ^ 64 - 1)
    → StandsAs p before asked rules start base kept counts gone now → RanAs p before asked rules start told
told-as p before asked rules kept start base gone counts now told same left bytes stands =
    record {
      past = stands.past;
      mark = stands.mark;
      led = stands.led;
      gone = gone;
      now = now;
      served = subst (λ (b : ℕ). Served p rules stands.mark asked told.counts b gone now) stands.first (subst (λ (k : Counts). Served p rules stands.mark asked k base gone now) (sym same) stands.served);
      evicted = left ∙ ap (λ b. gone - b) stands.first;
      bytes = bytes;
    }
