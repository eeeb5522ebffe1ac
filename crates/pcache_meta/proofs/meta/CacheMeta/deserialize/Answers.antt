use Rattle.pcache_meta.proofs.Words.{err_from_is_err_and, shown, InternalError}
use Rattle.pcache_meta.proofs.MetaMade.{meta_made}
use Rattle.pcache_meta.proofs.Refusals.{same_error}
use Rattle.pcache_meta.proofs.meta.CacheMeta.deserialize.Goals as goal

pub returns-in_err-internal-clause-refused : goal.returns-in_err-internal-clause-refused
returns-in_err-internal-clause-refused c = λ refused m spelled. c.in_err-internal.ensures.refused m.internal spelled.0

pub returns-in_err-header-clause-refused : goal.returns-in_err-header-clause-refused
returns-in_err-header-clause-refused c = λ refused m spelled.
    let p = err_from_is_err_and c.from_residual-in_err-header.result c.from_residual-in_err-header.ensures.1 in
    c.in_err-header.ensures.refused (same_error c.from_residual-in_err-header.result p.0 c.in_err-header.field-0.0 InternalError p.1 p.2 refused) m.header spelled.1

pub returns-clause-found : goal.returns-clause-found
returns-clause-found c = (c.in_ok-internal.ensures.found, c.in_ok-header.ensures.found)

pub returns-clause-same : goal.returns-clause-same
returns-clause-same c = λ m spelled.
    meta_made c.in_ok-internal.internal (shown c.in_ok-header.header) m (c.in_ok-internal.ensures.same m.internal spelled.0)
    (c.in_ok-header.ensures.same m.header spelled.1)

pub returns-in_err-header-clause-memory : goal.returns-in_err-header-clause-memory
returns-in_err-header-clause-memory c =
    let p = err_from_is_err_and c.from_residual-in_err-header.result c.from_residual-in_err-header.ensures.1 in
    rw (p.1, p.2) (λ e. let told = c.in_err-header.ensures.memory e in (record { internal = c.in_ok-internal.internal; header = told.0 }, (c.in_ok-internal.ensures.found, told.1)))
