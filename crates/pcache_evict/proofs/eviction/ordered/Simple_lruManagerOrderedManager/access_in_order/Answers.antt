use Rattle.pcache_evict.proofs.Words.{◌∙◌, sym, ap, is_some, map_of}
use Rattle.pcache_evict.proofs.Maps.{map-accessed, get-map_of}
use Rattle.pcache_evict.proofs.eviction.ordered.Simple_lruManagerOrderedManager.access_in_order.Goals as goal

pub returns-clause-was : goal.returns-clause-was
returns-clause-was g c = c.in_ok-was.ensures.was ∙ ap is_some (sym (get-map_of c.args.self.now.entries c.args.item.now))

pub returns-clause-ok : goal.returns-clause-ok
returns-clause-ok g c = ap (λ s. map_of s.entries) c.in_ok-was.ensures.ok ∙ map-accessed c.args.item.now c.args.size c.args.self.now.entries

pub returns-in_err-was-clause-there : goal.returns-in_err-was-clause-there
returns-in_err-was-clause-there g c = λ has.
    let given = c.in_err-was.ensures.there (ap is_some (sym (get-map_of c.args.self.now.entries c.args.item.now)) ∙ has) in
    cc
