use Rattle.pcache_table.proofs.Words.{ap, sym, ◌∙◌}
use Rattle.pcache_table.proofs.ShardLists.{own-put-either}
use Rattle.pcache_table.proofs.hashtable.lru_shard.LruShard.put.Goals as goal

pub invariant_of-self : goal.invariant_of-self
invariant_of-self g c =
    let own = c.requires ∙ ap (λ s. s.place) (sym c.self.view_is) in
    (c.self.invariant.0, own-put-either g.row.N c.self.inside.place c.args.key c.args.value c.self.inside.cache c.put.new.self c.put.result own c.put.ensures.entries c.put.ensures.err c.self.invariant.1)
