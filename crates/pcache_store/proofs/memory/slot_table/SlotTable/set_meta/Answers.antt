use Rattle.std.proofs.Common.{is_some}
use Rattle.pcache_table.specs.Sharding.{one_map}
use Rattle.pcache_store.proofs.Words.{◌∙◌, ◌%◌, ap, sym, subst, arith, slice_index_or, slice_set, complete_body, meta_changed_on, AreShards, parts}
use Rattle.std.specs.FinMap as map
use Rattle.pcache_store.proofs.SlotShards.{here, changed-meta, held-meta, kept-changed}
use Rattle.pcache_store.proofs.memory.slot_table.SlotTable.set_meta.Goals as goal

pub invariant_of-self : goal.invariant_of-self
invariant_of-self c =
    let changed = changed-meta c.self.inside.shards c.args.key c.index-self-place.result c.self.invariant.long c.self.invariant.placed (λ _. c.args.meta) in
    let same = held-meta (slice_index_or c.self.inside.shards (c.args.key % 16) c.index-self-place.result) c.args.key (λ _. c.args.meta) in
    let few = c.self.invariant.few in
    subst (λ x. AreShards (slice_set c.self.inside.shards (c.args.key % 16) x) c.self.inside.count) (sym c.set_meta_in.ensures.slots)
    (kept-changed c.self.inside.shards c.args.key c.self.inside.count c.self.inside.count c.index-self-place.result _ _ c.self.invariant changed (omega arith) few)

pub returns-clause-there : goal.returns-clause-there
returns-clause-there c = c.set_meta_in.ensures.there ∙ ap (λ o. is_some (complete_body o)) (here c.self.inside.shards c.args.key c.index-self-place.result c.self.invariant.long c.self.invariant.placed ∙ ap (λ m. map.get m c.args.key) c.self.view_is)

pub returns-clause-slots : goal.returns-clause-slots
returns-clause-slots c =
    ap (λ x. one_map (parts 0 (slice_set c.self.inside.shards (c.args.key % 16) x))) c.set_meta_in.ensures.slots
    ∙ (changed-meta c.self.inside.shards c.args.key c.index-self-place.result c.self.invariant.long c.self.invariant.placed (λ _. c.args.meta)).whole
    ∙ ap (λ m. meta_changed_on (λ _. c.args.meta) m c.args.key (map.get m c.args.key)) c.self.view_is
