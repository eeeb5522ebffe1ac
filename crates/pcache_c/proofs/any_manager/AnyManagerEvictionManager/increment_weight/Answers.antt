use Rattle.pcache_c.proofs.Words.{sym, subst, IfOk, limits_in, named_by, rules_by, shown_in, AnyManager}
use Rattle.pcache_c.specs.declared.any_manager.AnyManager.TheVariants as any
use Rattle.pcache_c.proofs.any_manager.AnyManagerEvictionManager.increment_weight.Goals as goal

pub returns-in-Fifo-clause-order : goal.returns-in-Fifo-clause-order
returns-in-Fifo-clause-order c =
    let new : AnyManager = any.Fifo c.increment_weight-in-Fifo.new.self in
    subst (λ (m : AnyManager). IfOk c.increment_weight-in-Fifo.result (λ out. (rules_by (named_by m)).Increments (limits_in m) (shown_in m) c.args.item.now c.args.delta c.args.max_weight (shown_in new) out.items)) (sym c.in-Fifo.is) c.increment_weight-in-Fifo.ensures.order
