use Rattle.pcache_files.proofs.Words.{arith}
use Rattle.pcache_files.proofs.PutIn.{loads_step, skips_few}
use Rattle.pcache_files.proofs.sharded_lru.load.Goals as goal

pub take_in-requires : goal.take_in-requires
take_in-requires g c =
    let few = skips_few (g.R.NamedFiles.opens c.args.files.now) g.R.File.TriedRead.remaining g.R.File.TriedRead.source (g.R.NamedFiles.refuses c.args.files.now) g.R.File.TriedRead.read_fails c.args.dir.now c.loop-shard.shard c.loop-shard.skipped c.loop-shard.entries.items c.loop-shard.invariant in
    omega (arith, few, c.loop-shard-test.true, c.shards-shards.ensures.value, g.N.fits)

pub loop-shard-preserved : goal.loop-shard-preserved
loop-shard-preserved g c =
    loads_step (g.R.NamedFiles.opens c.args.files.now) g.R.File.TriedRead.remaining g.R.File.TriedRead.source (g.R.NamedFiles.refuses c.args.files.now) g.R.File.TriedRead.read_fails c.args.dir.now (λ v. v.items) c.in_ok-list.list c.loop-shard.shard c.loop-shard.skipped c.take_in.new.skipped c.loop-shard.entries.items c.take_in.new.entries.items c.loop-shard.invariant
    c.in_ok-list.ensures.read c.in_ok-take_in.ensures.added c.in_ok-take_in.ensures.missed

pub returns-clause-skipped : goal.returns-clause-skipped
returns-clause-skipped g c =
    let few = skips_few (g.R.NamedFiles.opens c.args.files.now) g.R.File.TriedRead.remaining g.R.File.TriedRead.source (g.R.NamedFiles.refuses c.args.files.now) g.R.File.TriedRead.read_fails c.args.dir.now c.loop-shard.shard c.loop-shard.skipped c.loop-shard.entries.items c.loop-shard.invariant in
    omega (arith, few, c.loop-shard.auto.shard-end, c.shards-shards.ensures.value)
