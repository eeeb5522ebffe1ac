use Rattle.pcache_table.specs.Sharding.{one_map}
use Rattle.pcache_store.proofs.Words.{◌∙◌, ◌%◌, ap, arith, slice_set, shut_on, parts}
use Rattle.std.specs.FinMap as map
use Rattle.pcache_store.proofs.SlotShards.{changed-shut, held-fits, kept-gone}
use Rattle.pcache_store.proofs.memory.slot_table.SlotTable.shut.Goals as goal

pub overflow_sub-self : goal.overflow_sub-self
overflow_sub-self c = let fits = held-fits c.self.inside.shards c.args.key c.self.inside.count c.index-self-place.result c.self.invariant in let gone = c.shut_in.ensures.gone in omega arith

pub invariant_of-self : goal.invariant_of-self
invariant_of-self c =
    kept-gone c.self.inside.shards c.args.key c.self.inside.count c.shut_in.result c.index-self-place.result c.shut_in.new.slots c.self.invariant (changed-shut c.self.inside.shards c.args.key c.index-self-place.result c.self.invariant.long c.self.invariant.placed c.args.number) c.shut_in.ensures.after c.shut_in.ensures.gone

pub returns : goal.returns
returns c =
    ap (λ x. one_map (parts 0 (slice_set c.self.inside.shards (c.args.key % 16) x))) c.shut_in.ensures.after
    ∙ (changed-shut c.self.inside.shards c.args.key c.index-self-place.result c.self.invariant.long c.self.invariant.placed c.args.number).whole
    ∙ ap (λ m. shut_on m c.args.key c.args.number (map.get m c.args.key)) c.self.view_is
