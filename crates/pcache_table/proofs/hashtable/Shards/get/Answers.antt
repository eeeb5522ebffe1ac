use Rattle.pcache_table.proofs.Words.{◌∙◌, ◌%◌, ap, part_of}
use Rattle.pcache_table.proofs.Sharded.{at_place, part-joined}
use Rattle.pcache_table.proofs.hashtable.Shards.get.Goals as goal

pub returns-clause-place : goal.returns-clause-place
returns-clause-place g c =
    let at = at_place g.row.N c.self.inside.shards c.args.key c.index-shards-key.result c.self.invariant.0 c.self.told in
    (c.self.invariant.1 (c.args.key % g.row.N) _ at).at

pub returns-clause-part : goal.returns-clause-part
returns-clause-part g c =
    let at = at_place g.row.N c.self.inside.shards c.args.key c.index-shards-key.result c.self.invariant.0 c.self.told in
    part-joined g.row.N c.self.inside.shards (c.args.key % g.row.N) _ c.self.invariant.1 at ∙ ap (λ m. part_of g.row.N (c.args.key % g.row.N) m) c.self.view_is
