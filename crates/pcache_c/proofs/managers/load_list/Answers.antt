use Rattle.pcache_evict.specs.Listed.{Listed}
use Rattle.pcache_c.proofs.Words.{ap, Managed}
use Rattle.pcache_c.proofs.Changed.{refused_bytes}
use Rattle.pcache_c.proofs.managers.load_list.Goals as goal

pub returns-in-Err : goal.returns-in-Err
returns-in-Err c =
    refused_bytes c.in-Err.e c.code_of.result _ _ _ c.code_of.ensures.code c.in-Err.ensures.kinds c.in-Err.ensures.refused
    (ap (λ m. let new : Managed Listed = record { manager = m; waiting = c.args.managed.now.waiting; shown = c.args.managed.now.shown } in new) c.in-Err.ensures.err)
