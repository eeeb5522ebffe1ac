use Rattle.pcache_table.proofs.Words.{◌∙◌, ◌%◌, ap, sym, slice_get_within}
use Rattle.std.specs.FinMap as map
use Rattle.pcache_table.proofs.Sharded.{all-set, at_place, get-joined, placed-without, remove-joined}
use Rattle.pcache_table.proofs.hashtable.Shards.remove.Goals as goal

pub invariant_of-self : goal.invariant_of-self
invariant_of-self g c =
    let ps = c.self.inside.shards in
    let at = at_place g.row.N ps c.args.key c.index-self-place.result c.self.invariant.0 c.self.told in (
      c.self.invariant.0,
      all-set g.row.N (c.args.key % g.row.N) ps c.remove.new.self (slice_get_within ps (c.args.key % g.row.N) _ at) c.self.invariant.1
          (placed-without g.row.N (c.args.key % g.row.N) c.args.key _ c.remove.new.self c.remove.ensures.removed (c.self.invariant.1 (c.args.key % g.row.N) _ at)),
    )

pub returns-clause-before : goal.returns-clause-before
returns-clause-before g c =
    let ps = c.self.inside.shards in
    let at = at_place g.row.N ps c.args.key c.index-self-place.result c.self.invariant.0 c.self.told in
    c.remove.ensures.before ∙ sym (get-joined g.row.N ps c.args.key _ c.self.invariant.1 at) ∙ ap (λ m. map.get m c.args.key) c.self.view_is

pub returns-clause-removed : goal.returns-clause-removed
returns-clause-removed g c =
    let ps = c.self.inside.shards in
    let at = at_place g.row.N ps c.args.key c.index-self-place.result c.self.invariant.0 c.self.told in
    remove-joined g.row.N ps c.args.key _ c.remove.new.self c.self.invariant.0 c.self.told c.self.invariant.1 at c.remove.ensures.removed ∙ ap (λ m. map.remove m c.args.key) c.self.view_is
