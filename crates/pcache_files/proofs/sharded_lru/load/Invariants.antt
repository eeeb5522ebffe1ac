use Rattle.pcache_files.proofs.Words.{Loads, shard_names}
use Rattle.pcache_files.proofs.sharded_lru.load.Given as goal

abbrev pub invariant-loop-shard : goal.invariant-loop-shard
invariant-loop-shard g l = Loads (g.R.NamedFiles.opens l.fn.files) g.R.File.TriedRead.remaining g.R.File.TriedRead.source (g.R.NamedFiles.refuses l.fn.files) g.R.File.TriedRead.read_fails l.fn.dir (shard_names l.shard) l.skipped l.entries.items
