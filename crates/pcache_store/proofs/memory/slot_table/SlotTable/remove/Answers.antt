use Rattle.std.proofs.Common.{is_some}
use Rattle.pcache_table.specs.Sharding.{one_map}
use Rattle.pcache_store.proofs.Words.{◌≡◌, ◌∙◌, ◌%◌, ap, arith, cond, slice_index_or, slice_set, one_if_some, parts}
use Rattle.std.specs.FinMap as map
use Rattle.pcache_store.proofs.SlotShards.{here, changed-removed, held-removed, held-fits, kept-gone}
use Rattle.pcache_store.proofs.memory.slot_table.SlotTable.remove.Goals as goal

pub overflow_sub-self : goal.overflow_sub-self
overflow_sub-self c = let fits = held-fits c.self.inside.shards c.args.key c.self.inside.count c.index-self-place.result c.self.invariant in let gone = c.one_if.ensures ∙ ap (λ b. cond b 1 0) (c.is_some.ensures ∙ ap is_some c.remove-slot.ensures.before) in omega arith

pub invariant_of-self : goal.invariant_of-self
invariant_of-self c =
    let table = slice_index_or c.self.inside.shards (c.args.key % 16) c.index-self-place.result in
    let none = ap (λ m. one_if_some (map.get m c.args.key)) c.remove-slot.ensures.removed ∙ held-removed table c.args.key in
    let gone : c.one_if.result ≡ one_if_some (map.get table c.args.key) = c.one_if.ensures ∙ ap (λ b. cond b 1 0) (c.is_some.ensures ∙ ap is_some c.remove-slot.ensures.before) in
    kept-gone c.self.inside.shards c.args.key c.self.inside.count c.one_if.result c.index-self-place.result c.remove-slot.new.self c.self.invariant (changed-removed c.self.inside.shards c.args.key c.index-self-place.result c.self.invariant.long c.self.invariant.placed) c.remove-slot.ensures.removed (omega arith)

pub returns-clause-before : goal.returns-clause-before
returns-clause-before c = c.remove-slot.ensures.before ∙ here c.self.inside.shards c.args.key c.index-self-place.result c.self.invariant.long c.self.invariant.placed ∙ ap (λ m. map.get m c.args.key) c.self.view_is

pub returns-clause-removed : goal.returns-clause-removed
returns-clause-removed c =
    ap (λ x. one_map (parts 0 (slice_set c.self.inside.shards (c.args.key % 16) x))) c.remove-slot.ensures.removed
    ∙ (changed-removed c.self.inside.shards c.args.key c.index-self-place.result c.self.invariant.long c.self.invariant.placed).whole
    ∙ ap (λ m. map.remove m c.args.key) c.self.view_is
