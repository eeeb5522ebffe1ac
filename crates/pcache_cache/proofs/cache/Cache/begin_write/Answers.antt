use Rattle.pcache_cache.proofs.Naming.{names_begun}
use Rattle.pcache_cache.proofs.Kept.{kept_beginning}
use Rattle.pcache_cache.proofs.Own.{beginning_own}
use Rattle.pcache_cache.proofs.Unlocking.{if_begun}
use Rattle.pcache_cache.proofs.Words.{Some, refl, rules}
use Rattle.pcache_cache.proofs.cache.Cache.begin_write.Goals as goal

pub invariant_of-self : goal.invariant_of-self
invariant_of-self g c =
    let inside = c.self.inside in
    let r = c.args.request.now.cache in
    let call = c.set_miss_handler in
    let new = call.new in (
      kept_beginning inside.weighing (g.M.EvictionManager.limits inside.manager) (g.M.EvictionManager.tracked inside.manager) inside.store.state new.storage.state (Some inside.store.past) (Some new.storage.past) inside.lock.table new.lock.table (Some inside.lock.past) (Some new.lock.past) r new.self call.result call.ensures.begins.store call.ensures.begins.err c.self.invariant.0,
      if_begun call.result inside.store.state new.storage.state (Some inside.store.past) (Some new.storage.past) inside.lock.table new.lock.table (Some inside.lock.past) (Some new.lock.past) r new.self call.ensures.begins.deeds call.ensures.begins.err c.self.invariant.1,
      names_begun call.result inside.store.state new.storage.state (Some inside.store.past) (Some new.storage.past) inside.lock.table new.lock.table (Some inside.lock.past) (Some new.lock.past) r new.self call.ensures.begins.past call.ensures.begins.err c.self.invariant.2,
    )

pub returns : goal.returns
returns g c =
    let call = c.set_miss_handler in
    let e = call.ensures in
    rw (← c.self.view_is) (record {
      takes = record {
        takes = e.begins;
        phase = search rules;
        own = λ uses. beginning_own c.args.request.now.cache call.new.self c.self.inside.store.state call.new.storage.state call.result c.requires c.key-key.ensures.known uses e.begins.request e.begins.store;
        rest = refl;
      };
      fetch = search rules;
    })
