use Rattle.pcache_evict.proofs.Words.{◌∙◌, ap, arith, lru_cache, demoted, entry_eq}
use Rattle.pcache_evict.proofs.Recency.{kept-last}
use Rattle.pcache_evict.proofs.eviction.recency.RecencyList.push_last.Goals as goal

pub invariant_of-self : goal.invariant_of-self
invariant_of-self g c =
    (kept-last c.self.inside.cache c.demote.new.self c.self.inside.weight c.args.item c.args.size c.args.self.now c.self.invariant (c.self.view_is ∙ c.in_ok-put.ensures.ok) c.requires
    (c.demote.ensures.entries ∙ ap (λ k. lru_cache (demoted (entry_eq k) c.self.inside.cache.entries) c.self.inside.cache.cap) c.in_ok-copy.ensures.ok)
    (let few = c.len.ensures.fits in let len = c.len.ensures.len in omega arith) c.len.ensures.valid.0).1

pub returns-clause-ok : goal.returns-clause-ok
returns-clause-ok g c =
    (kept-last c.self.inside.cache c.demote.new.self c.self.inside.weight c.args.item c.args.size c.args.self.now c.self.invariant (c.self.view_is ∙ c.in_ok-put.ensures.ok) c.requires
    (c.demote.ensures.entries ∙ ap (λ k. lru_cache (demoted (entry_eq k) c.self.inside.cache.entries) c.self.inside.cache.cap) c.in_ok-copy.ensures.ok)
    (let few = c.len.ensures.fits in let len = c.len.ensures.len in omega arith) c.len.ensures.valid.0).0
