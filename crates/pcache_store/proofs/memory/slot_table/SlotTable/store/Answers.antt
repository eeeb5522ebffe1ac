use Rattle.pcache_table.specs.Sharding.{one_map}
use Rattle.pcache_store.proofs.Words.{◌∙◌, ◌%◌, ap, sym, subst, arith, slice_index_or, slice_set, IsSome, complete_body, stored_on, AreShards, parts}
use Rattle.std.specs.FinMap as map
use Rattle.pcache_store.proofs.SlotShards.{here, changed-stored, held-stored, kept-changed}
use Rattle.pcache_store.proofs.memory.slot_table.SlotTable.store.Goals as goal

pub store_in-requires : goal.store_in-requires
store_in-requires c = subst IsSome (sym (here c.self.inside.shards c.args.key c.index-self-place.result c.self.invariant.long c.self.invariant.placed ∙ ap (λ m. map.get m c.args.key) c.self.view_is)) c.requires

pub invariant_of-self : goal.invariant_of-self
invariant_of-self c =
    let changed = changed-stored c.self.inside.shards c.args.key c.index-self-place.result c.self.invariant.long c.self.invariant.placed c.args.number c.args.body in
    let same = held-stored (slice_index_or c.self.inside.shards (c.args.key % 16) c.index-self-place.result) c.args.key c.args.number c.args.body in
    let few = c.self.invariant.few in
    subst (λ x. AreShards (slice_set c.self.inside.shards (c.args.key % 16) x) c.self.inside.count) (sym c.store_in.ensures.slots)
    (kept-changed c.self.inside.shards c.args.key c.self.inside.count c.self.inside.count c.index-self-place.result _ _ c.self.invariant changed (omega arith) few)

pub returns-clause-older : goal.returns-clause-older
returns-clause-older c = c.store_in.ensures.older ∙ ap complete_body (here c.self.inside.shards c.args.key c.index-self-place.result c.self.invariant.long c.self.invariant.placed ∙ ap (λ m. map.get m c.args.key) c.self.view_is)

pub returns-clause-slots : goal.returns-clause-slots
returns-clause-slots c =
    ap (λ x. one_map (parts 0 (slice_set c.self.inside.shards (c.args.key % 16) x))) c.store_in.ensures.slots
    ∙ (changed-stored c.self.inside.shards c.args.key c.index-self-place.result c.self.invariant.long c.self.invariant.placed c.args.number c.args.body).whole
    ∙ ap (λ m. stored_on m c.args.key c.args.number c.args.body (map.get m c.args.key)) c.self.view_is
