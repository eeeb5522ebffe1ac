use Rattle.pcache_cache.proofs.Words.{Some}
use Rattle.pcache_request.specs.StorePasts.{dropped_past}
use Rattle.pcache_cache.proofs.Adding.{dropped_keeps}
use Rattle.pcache_cache.proofs.Naming.{names_done, names_kept}
use Rattle.pcache_cache.proofs.Words.{◌∙◌, ap, dropped_by}
use Rattle.pcache_cache.proofs.Kept.{kept_dropped}
use Rattle.pcache_cache.proofs.cache.Cache.drop_left.Goals as goal

pub invariant_of-self : goal.invariant_of-self
invariant_of-self g c =
    let limits = g.M.EvictionManager.limits c.self.inside.manager in
    let tracked = g.M.EvictionManager.tracked c.self.inside.manager in (
      kept_dropped c.self.inside.weighing limits tracked c.self.inside.store.state c.drop_writer.new.store.state c.args.left (c.drop_writer.ensures.store ∙ ap (λ w. dropped_by w c.self.inside.store.state) c.into_writer.ensures) c.self.invariant.0,
      c.self.invariant.1,
      names_done (dropped_past _) (Some c.self.inside.store.past) (Some c.drop_writer.new.store.past) (dropped_keeps names_kept _) c.drop_writer.ensures.past c.self.invariant.2,
    )
