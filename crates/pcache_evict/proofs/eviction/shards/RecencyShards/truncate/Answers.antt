use Rattle.pcache_evict.proofs.Words.{ap, arith, length, Recency}
use Rattle.pcache_evict.proofs.Cuts.{cut-none, cut-more, cut-done}
use Rattle.pcache_evict.proofs.eviction.shards.RecencyShards.truncate.Goals as goal

pub loop-self-init : goal.loop-self-init
loop-self-init g c = cut-none c.args.place c.args.len c.args.self.now

pub loop-self-preserved : goal.loop-self-preserved
loop-self-preserved g c =
    (cut-more g.row.N c.args.place c.args.len c.args.self.now c.loop-self.self c.pop.new.self c.loop-self.invariant c.requires c.len-in-loop-self.ensures.placed.long
    (let more = c.loop-self-test.true in let value = c.len.ensures.value in let many = ap (λ (l : Recency). length l) c.list.ensures in omega arith) c.pop.ensures).0

pub loop-self-smaller : goal.loop-self-smaller
loop-self-smaller g c =
    (cut-more g.row.N c.args.place c.args.len c.args.self.now c.loop-self.self c.pop.new.self c.loop-self.invariant c.requires c.len-in-loop-self.ensures.placed.long
    (let more = c.loop-self-test.true in let value = c.len.ensures.value in let many = ap (λ (l : Recency). length l) c.list.ensures in omega arith) c.pop.ensures).1

pub returns : goal.returns
returns g c =
    cut-done g.row.N c.args.place c.args.len c.args.self.now c.loop-self.self c.loop-self.invariant c.requires c.len-2.ensures.placed.long
    (let most = c.loop-self-test.false in let value = c.len.ensures.value in let many = ap (λ (l : Recency). length l) c.list.ensures in omega arith)
