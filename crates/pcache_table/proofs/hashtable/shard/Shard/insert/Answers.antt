use Rattle.pcache_table.proofs.Words.{◌∙◌, ap, sym}
use Rattle.pcache_table.proofs.Sharded.{belongs-either}
use Rattle.pcache_table.proofs.hashtable.shard.Shard.insert.Goals as goal

pub invariant_of-self : goal.invariant_of-self
invariant_of-self g c =
    let own = c.requires ∙ ap (λ s. s.place) (sym c.self.view_is) in
    (c.self.invariant.0, belongs-either g.row.N c.self.inside.place c.args.key c.args.value c.self.inside.table c.insert.new.self c.insert.result own c.insert.ensures.ok c.insert.ensures.err c.self.invariant.1)
