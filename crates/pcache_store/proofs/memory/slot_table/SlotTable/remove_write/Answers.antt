use Rattle.pcache_store.specs.Store.{has_write}
use Rattle.pcache_table.specs.Sharding.{one_map}
use Rattle.pcache_store.proofs.Words.{◌∙◌, ◌%◌, ap, arith, slice_set, body_with, complete_body, write_gone_on, parts}
use Rattle.std.specs.FinMap as map
use Rattle.pcache_store.proofs.SlotShards.{here, changed-lost, held-fits, kept-gone}
use Rattle.pcache_store.proofs.memory.slot_table.SlotTable.remove_write.Goals as goal

pub overflow_sub-self : goal.overflow_sub-self
overflow_sub-self c = let fits = held-fits c.self.inside.shards c.args.key c.self.inside.count c.index-self-place.result c.self.invariant in let gone = c.remove_write_in-there.ensures.gone in omega arith

pub invariant_of-self : goal.invariant_of-self
invariant_of-self c =
    kept-gone c.self.inside.shards c.args.key c.self.inside.count _ c.index-self-place.result c.remove_write_in-there.new.slots c.self.invariant (changed-lost c.self.inside.shards c.args.key c.index-self-place.result c.self.invariant.long c.self.invariant.placed c.args.id) c.remove_write_in-there.ensures.after c.remove_write_in-there.ensures.gone

pub returns-clause-there : goal.returns-clause-there
returns-clause-there c = c.remove_write_in-there.ensures.there ∙ ap (has_write c.args.id) (here c.self.inside.shards c.args.key c.index-self-place.result c.self.invariant.long c.self.invariant.placed ∙ ap (λ m. map.get m c.args.key) c.self.view_is)

pub returns-clause-body : goal.returns-clause-body
returns-clause-body c = c.remove_write_in-there.ensures.body ∙ ap (λ o. body_with c.args.id (complete_body o)) (here c.self.inside.shards c.args.key c.index-self-place.result c.self.invariant.long c.self.invariant.placed ∙ ap (λ m. map.get m c.args.key) c.self.view_is)

pub returns-clause-removed : goal.returns-clause-removed
returns-clause-removed c =
    ap (λ x. one_map (parts 0 (slice_set c.self.inside.shards (c.args.key % 16) x))) c.remove_write_in-there.ensures.after
    ∙ (changed-lost c.self.inside.shards c.args.key c.index-self-place.result c.self.invariant.long c.self.invariant.placed c.args.id).whole
    ∙ ap (λ m. write_gone_on m c.args.key c.args.id (map.get m c.args.key)) c.self.view_is
