use Rattle.pcache_shared_cache.proofs.Words.{◌≡◌, List, ap, map, sym, subst, ◌∙◌, map-map, as_nanos, IfOk, Parts, Lru, listed, opened, unmade_portion, portions}
use Rattle.pcache_shared_cache.proofs.Placing.{ok_limits}
use Rattle.pcache_shared_cache.proofs.Together.{ok-whole}
use Rattle.pcache_shared_cache.proofs.lists.SharedCache+Manager+K+N.with_lists.Goals as goal

pub returns-clause-begins : goal.returns-clause-begins
returns-clause-begins g c =
    subst (λ (l : List Parts). IfOk c.over.result (λ (x : List Parts). x ≡ l))
    (ap (map (opened (as_nanos c.args.age_timeout))) (c.unnamed.ensures ∙ sym (map-map listed unmade_portion c.in_ok-lists.lists.items) ∙ c.in_ok-lists.ensures.empty)) c.over.ensures.begins

pub returns-clause-limits : goal.returns-clause-limits
returns-clause-limits g c = ok_limits (as_nanos c.args.age_timeout) (portions Lru g.row.N c.args.limit c.args.watermark) c.over.result (returns-clause-begins g c)

pub returns-clause-whole : goal.returns-clause-whole
returns-clause-whole g c = ok-whole Lru g.row.N c.args.limit c.args.watermark c.over.result c.requires.some (returns-clause-limits g c)
