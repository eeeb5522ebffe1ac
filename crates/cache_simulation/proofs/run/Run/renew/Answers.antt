use Rattle.cache_simulation.proofs.Words.{ap, on_ok_weaker}
use Rattle.cache_simulation.proofs.Replaying.{brings-anew}
use Rattle.cache_simulation.proofs.run.Run.renew.Goals as goal

pub returns-clause-comes : goal.returns-clause-comes
returns-clause-comes g c =
    let removed = c.remove_in_order.ensures in
    on_ok_weaker c.fill.result (λ came. brings-anew g.M.OrderedManager.policy (g.M.EvictionManager.limits c.args.self.now.manager) _ c.args.asked.now (g.M.EvictionManager.tracked c.args.self.now.manager) _ _ _ _ _ _ _ _ _
    removed.tracked removed.order removed.limits (ap (λ e. e.count) removed.evicted) came) c.fill.ensures.comes
