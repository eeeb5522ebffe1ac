use Rattle.std.specs.Duration.{as_nanos}
use Rattle.pcache_evict.specs.Listed.{map_of}
use Rattle.pcache_evict.specs.Tracked.{Evicted, Limits, limits_of}
use Rattle.pcache_c.specs.AnyManagers.{evicted_in, goes_by}
use Rattle.pcache_c.specs.Opening.{new_cache}
use Rattle.pcache_c.proofs.Words.{ap, inr, is_some, sym, ◌∙◌, [], ◌≡◌, Parts, limits_in}
use Rattle.pcache_c.proofs.Changed.{good_some}
use Rattle.pcache_c.proofs.caches.cache_weighing.Goals as goal

pub returns-in-Ok : goal.returns-in-Ok
returns-in-Ok c =
    let how = c.args.weighing in
    let m = c.in-Ok.manager in
    let none = c.in-Ok.ensures.none in
    let time = as_nanos c.from_millis-age_timeout.result in
    let named = goes_by c.args.policy in
    let limits : Limits = limits_of named c.args.limit _ in
    let zero : Evicted = record { weight = 0; count = 0 } in
    good_some _ _ _ _ (sym c.seed_of.ensures ∙ ap (λ o. is_some o) c.in-Some.is)
    (λ s. inr (
      c.new-served.result,
      record {
        parts = c.new-served.ensures.cache ∙ (ap (λ t. new_cache how t (limits_in m) (evicted_in m) time) none.tracked
            ∙ (ap (λ l. new_cache how (map_of []) l (evicted_in m) time) (none.limits ∙ ap (λ w. limits_of named c.args.limit w) c.watermark_of.ensures)
            ∙ (ap (λ e. new_cache how (map_of []) limits e time) none.evicted
            ∙ ap (λ n. new_cache how (map_of []) limits zero n) c.from_millis-age_timeout.ensures)));
        counts = c.new-served.ensures.counts;
        none = c.new-served.ensures.none;
        rounds = c.new-served.ensures.rounds;
      },
      c.keep.ensures,
    ))
