use Rattle.pcache_table.proofs.Words.{◌∙◌, ap, sym}
use Rattle.std.specs.FinMap as map
use Rattle.pcache_table.proofs.Sharded.{at_place, get-joined}
use Rattle.pcache_table.proofs.hashtable.Shards.value.Goals as goal

pub returns : goal.returns
returns g c =
    let ps = c.self.inside.shards in
    let at = at_place g.row.N ps c.args.key c.index-shards-key.result c.self.invariant.0 c.self.told2 in
    c.get.ensures ∙ sym (get-joined g.row.N ps c.args.key _ c.self.invariant.1 at) ∙ ap (λ m. map.get m c.args.key) c.self.view_is
