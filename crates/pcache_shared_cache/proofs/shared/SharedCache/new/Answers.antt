use Rattle.pcache_shared_cache.proofs.Words.{◌≡◌, List, ap, map, subst, ◌∙◌, as_nanos, IfOk, Parts, opened}
use Rattle.pcache_shared_cache.proofs.Placing.{new_managers}
use Rattle.pcache_shared_cache.proofs.shared.SharedCache.new.Goals as goal

pub returns-clause-begins : goal.returns-clause-begins
returns-clause-begins g c =
    subst (λ (l : List Parts). IfOk c.over.result (λ (x : List Parts). x ≡ l))
    (ap (map (opened (as_nanos c.args.age_timeout))) (c.unnamed.ensures ∙ new_managers g.M.EvictionManager.tracked g.M.EvictionManager.evicted c.in_ok-new_parts.new_parts.items c.args.portions.items c.in_ok-new_parts.ensures.parts)) c.over.ensures.begins
