use Rattle.pcache_table.proofs.Words.{◌∙◌, ◌<◌, ap, arith, length, slice_get-get_or, part_of}
use Rattle.pcache_table.proofs.Sharded.{part-joined}
use Rattle.pcache_table.proofs.hashtable.Shards.get_shard_at_idx.Goals as goal

pub returns-then-place-clause-part : goal.returns-then-place-clause-part
returns-then-place-clause-part g c =
    let within : c.args.place < length c.self.inside.shards = omega arith in
    part-joined g.row.N c.self.inside.shards c.args.place _ c.self.invariant.1 (slice_get-get_or c.self.inside.shards c.args.place c.index-shards-place.result within) ∙ ap (λ m. part_of g.row.N c.args.place m) c.self.view_is
