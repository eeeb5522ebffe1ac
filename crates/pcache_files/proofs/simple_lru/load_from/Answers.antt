use Rattle.pcache_files.proofs.Words.{err_from_is_err_and}
use Rattle.pcache_files.proofs.Written.{passed_on}
use Rattle.pcache_files.proofs.simple_lru.load_from.Goals as goal

pub returns-in_err-entries-clause-refused : goal.returns-in_err-entries-clause-refused
returns-in_err-entries-clause-refused g c = λ refused bytes known l s.
    let p = err_from_is_err_and c.from_residual.result c.from_residual.ensures.1 in
    c.in_err-entries.ensures.refused (passed_on c.from_residual.result c.in_err-entries.field-0.0 p.0 p.1 p.2 refused) bytes known l s
