use Rattle.pcache_c.proofs.Words.{sym, subst, IfOk, limits_in, named_by, rules_by, shown_in, AnyManager}
use Rattle.pcache_c.specs.declared.any_manager.AnyManager.TheVariants as any
use Rattle.pcache_c.proofs.any_manager.AnyManagerEvictionManager.admit.Goals as goal

pub returns-in-Fifo-clause-order : goal.returns-in-Fifo-clause-order
returns-in-Fifo-clause-order c =
    let new : AnyManager = any.Fifo c.admit-in-Fifo.new.self in
    subst (λ (m : AnyManager). IfOk c.admit-in-Fifo.result (λ out. (rules_by (named_by m)).Admits (limits_in m) (shown_in m) c.args.item c.args.size (shown_in new) out.items)) (sym c.in-Fifo.is) c.admit-in-Fifo.ensures.order

pub returns-in-Clock-clause-order : goal.returns-in-Clock-clause-order
returns-in-Clock-clause-order c =
    let new : AnyManager = any.Clock c.admit-in-Clock.new.self in
    subst (λ (m : AnyManager). IfOk c.admit-in-Clock.result (λ out. (rules_by (named_by m)).Admits (limits_in m) (shown_in m) c.args.item c.args.size (shown_in new) out.items)) (sym c.in-Clock.is) c.admit-in-Clock.ensures.order
