use Rattle.pcache_files.proofs.Words.{arith, err_from_is_err_and, Io}
use Rattle.pcache_files.specs.Folder as folder
use Rattle.pcache_files.proofs.Written.{passed_as}
use Rattle.pcache_files.proofs.folder.replace_file.Goals as goal

pub returns-in_err-make_folder-clause-unsaved : goal.returns-in_err-make_folder-clause-unsaved
returns-in_err-make_folder-clause-unsaved g c = λ failed.
    let r = c.from_residual-in_err-make_folder.result in
    let p = err_from_is_err_and r c.from_residual-in_err-make_folder.ensures.1 in
    folder.refused c.args.dir.now (c.in_err-make_folder.ensures.refused (passed_as Io r c.in_err-make_folder.field-0.0 p.0 p.1 p.2 failed))

pub returns-then-not-is_taken-clause-unsaved : goal.returns-then-not-is_taken-clause-unsaved
returns-then-not-is_taken-clause-unsaved g c = λ failed.
    folder.refused c.as_str.result.now (record { error = c.in-Err.error; given = c.in-Err.ensures.cause; cause = c.refusal.ensures.device (cc failed) })

pub returns-clause-unsaved : goal.returns-clause-unsaved
returns-clause-unsaved g c = λ failed.
    let tried = c.suffixes.invariant (omega (arith, c.suffixes-test.false)) in
    folder.refused tried.0 tried.1
