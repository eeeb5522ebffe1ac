use Rattle.pcache_cache.proofs.Words.{Some}
use Rattle.pcache_request.specs.StorePasts.{left_past}
use Rattle.pcache_cache.proofs.Adding.{left_keeps}
use Rattle.pcache_cache.proofs.Naming.{names_done, names_kept}
use Rattle.pcache_cache.proofs.Kept.{kept_left}
use Rattle.pcache_cache.proofs.cache.Cache.finish_hit_handler.Goals as goal

pub invariant_of-self : goal.invariant_of-self
invariant_of-self g c =
    let limits = g.M.EvictionManager.limits c.self.inside.manager in
    let tracked = g.M.EvictionManager.tracked c.self.inside.manager in (
      kept_left c.self.inside.weighing limits tracked c.self.inside.store.state c.finish_hit_handler.new.storage.state c.args.request.now.cache.reader c.finish_hit_handler.ensures.ends.store c.self.invariant.0,
      c.self.invariant.1,
      names_done (left_past c.args.request.now.cache.reader) (Some c.self.inside.store.past) (Some c.finish_hit_handler.new.storage.past) (left_keeps names_kept c.args.request.now.cache.reader) c.finish_hit_handler.ensures.ends.past c.self.invariant.2,
    )
