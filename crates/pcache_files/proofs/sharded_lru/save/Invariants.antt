use Rattle.pcache_files.proofs.Words.{AreSaved, shard_files}
use Rattle.pcache_files.proofs.sharded_lru.save.Given as goal

abbrev pub invariant-shards : goal.invariant-shards
invariant-shards g l = AreSaved (g.R.NamedFiles.makes l.fn.files) (g.R.NamedFiles.renames l.fn.files) g.R.File.TriedWrite.contents g.R.File.TriedWrite.is_flushed l.fn.dir (shard_files l.shard l.fn.manager.shards)
