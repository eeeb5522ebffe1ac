use Rattle.pcache_files.proofs.Words.{err_from_is_err_and, Io}
use Rattle.pcache_files.proofs.PutIn.{saved_step}
use Rattle.pcache_files.proofs.Written.{passed_as}
use Rattle.pcache_files.proofs.sharded_lru.save.Goals as goal

pub shards-preserved : goal.shards-preserved
shards-preserved g c = saved_step (g.R.NamedFiles.makes c.args.files.now) (g.R.NamedFiles.renames c.args.files.now) g.R.File.TriedWrite.contents g.R.File.TriedWrite.is_flushed c.args.dir.now c.shards.shard c.args.manager.now.shards c.shards.invariant c.in_ok-save_shard.ensures.saved

pub returns-in_err-save_shard-clause-unsaved : goal.returns-in_err-save_shard-clause-unsaved
returns-in_err-save_shard-clause-unsaved g c = λ failed.
    let p = err_from_is_err_and c.from_residual.result c.from_residual.ensures.1 in
    c.in_err-save_shard.ensures.unsaved (passed_as Io c.from_residual.result c.in_err-save_shard.field-0.0 p.0 p.1 p.2 failed)
