use Rattle.pcache_files.proofs.Words.{err_from_is_err_and, Io}
use Rattle.pcache_files.specs.Folder as folder
use Rattle.pcache_files.proofs.Written.{passed_as}
use Rattle.pcache_files.proofs.folder.write_and_rename.Goals as goal

pub returns-in_err-write_new-clause-unsaved : goal.returns-in_err-write_new-clause-unsaved
returns-in_err-write_new-clause-unsaved g c = λ failed.
    let p = err_from_is_err_and c.from_residual.result c.from_residual.ensures.1 in
    let why = c.in_err-write_new.ensures.unwritten (passed_as Io c.from_residual.result c.in_err-write_new.field-0.0 p.0 p.1 p.2 failed) in
    folder.unwritten why.0 why.1 why.2

pub returns-clause-unsaved : goal.returns-clause-unsaved
returns-clause-unsaved g c = λ failed. folder.refused c.args.path.now (c.rename.ensures.refused failed)
