use Rattle.pcache_cache.proofs.Words.{Some}
use Rattle.pcache_cache.specs.OwnPut.{put_past}
use Rattle.pcache_cache.proofs.Adding.{put_keeps}
use Rattle.pcache_cache.proofs.Naming.{names_done, names_kept}
use Rattle.pcache_cache.proofs.Fed.{kept_fed}
use Rattle.pcache_cache.proofs.cache.Cache.store_piece.Goals as goal

pub invariant_of-self : goal.invariant_of-self
invariant_of-self g c =
    let limits = g.M.EvictionManager.limits c.self.inside.manager in
    let tracked = g.M.EvictionManager.tracked c.self.inside.manager in
    let step = c.store_in.ensures.step in (
      kept_fed c.self.inside.weighing limits tracked c.self.inside.store.state c.store_in.new.store.state c.args.put.now.put.key c.args.put.now.put.stage step.0.began step.0.wrote c.store_in.result step.2 c.self.invariant.0,
      c.self.invariant.1,
      names_done (put_past c.args.put.now.put step.0 c.store_in.result c.self.inside.store.state) (Some c.self.inside.store.past) (Some c.store_in.new.store.past) (put_keeps names_kept c.args.put.now.put step.0 c.store_in.result c.self.inside.store.state) step.3 c.self.invariant.2,
    )
