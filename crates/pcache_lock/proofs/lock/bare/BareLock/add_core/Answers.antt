use Rattle.std.proofs.Common.{rules}
use Rattle.pcache_lock.proofs.Words.{◌≡◌, None, ◌∙◌, ap}
use Rattle.std.specs.FinMap as map
use Rattle.pcache_lock.proofs.Changes.{undone}
use Rattle.pcache_lock.proofs.lock.bare.BareLock.add_core.Goals as goal

pub returns-in-Err-clause-err : goal.returns-in-Err-clause-err
returns-in-Err-clause-err c =
    let none : map.get c.self.inside.current c.args.slot ≡ None = search rules in
    rw (c.remove.ensures.removed ∙ ap (λ m. map.remove m c.args.slot) c.in_ok-insert-2.ensures.ok ∙ undone _ c.args.slot _ none, c.in-Err.ensures.err) c.self.view_is
