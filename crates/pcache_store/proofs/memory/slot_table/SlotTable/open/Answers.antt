use Rattle.pcache_table.specs.Sharding.{one_map}
use Rattle.pcache_store.proofs.Words.{◌∙◌, ◌%◌, ap, arith, slice_index_or, slice_set, opened, one_if_some, parts}
use Rattle.std.specs.FinMap as map
use Rattle.pcache_store.proofs.Maps.{not_full}
use Rattle.pcache_store.proofs.SlotShards.{changed-opened, held-opened, kept-more}
use Rattle.pcache_store.proofs.memory.slot_table.SlotTable.open.Goals as goal

pub invariant_of-self-2 : goal.invariant_of-self-2
invariant_of-self-2 c =
    let table = slice_index_or c.self.inside.shards (c.args.key % 16) c.index-self-place.result in
    let one = ap (λ m. one_if_some (map.get m c.args.key)) c.in_ok-more.ensures.ok ∙ held-opened table c.args.key c.args.number in
    kept-more c.self.inside.shards c.args.key c.self.inside.count c.in_ok-more.more c.index-self-place.result c.open_in.new.slots c.self.invariant (changed-opened c.self.inside.shards c.args.key c.index-self-place.result c.self.invariant.long c.self.invariant.placed c.args.number) c.in_ok-more.ensures.ok one c.in_ok-more.ensures.more (let few = not_full c.is_full.result c.self.inside.count c.is_full.ensures c.if-is_full.false in omega arith)

pub returns-clause-ok : goal.returns-clause-ok
returns-clause-ok c =
    ap (λ x. one_map (parts 0 (slice_set c.self.inside.shards (c.args.key % 16) x))) c.in_ok-more.ensures.ok
    ∙ (changed-opened c.self.inside.shards c.args.key c.index-self-place.result c.self.invariant.long c.self.invariant.placed c.args.number).whole
    ∙ ap (λ m. opened m c.args.key c.args.number) c.self.view_is
