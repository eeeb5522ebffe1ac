use Rattle.pcache_cache.proofs.Naming.{names_ended}
use Rattle.pcache_cache.proofs.Words.{ap, subst, sym, ◌∙◌, Some, refl, rules, ending_weight, IsKept, MayEnd, Parts, HasRoom, beside}
use Rattle.pcache_cache.proofs.Ended.{kept_finished, same-number}
use Rattle.pcache_cache.proofs.Unlocking.{if_ended}
use Rattle.pcache_cache.proofs.Ways.{each_end}
use Rattle.pcache_cache.proofs.Only.{only_finished}
use Rattle.pcache_cache.proofs.Room.{finish_calm}
use Rattle.pcache_cache.proofs.cache.Cache.finish_miss_handler.Goals as goal

pub invariant_of-self : goal.invariant_of-self
invariant_of-self g c =
    let tracked = g.M.EvictionManager.tracked in (
      subst (λ l. IsKept c.self.inside.weighing l (tracked c.finish_replacing.new.eviction) c.finish_replacing.new.storage.state) (sym c.finish_replacing.ensures.limits)
          (kept_finished c.self.inside.weighing (g.M.EvictionManager.limits c.self.inside.manager) c.args.request.now.cache c.replaced_by.result c.ending_weight.result c.self.inside.store.state c.finish_replacing.new.storage.state (tracked c.self.inside.manager) (tracked c.finish_replacing.new.eviction) c.self.inside.lock.table c.finish_replacing.new.lock.table c.finish_replacing.result
          (subst (λ (p : Parts). MayEnd p.store c.args.request.now.cache) (sym c.self.view_is) c.requires.own) (sym c.writer-writer.ensures.entry ∙ same-number _ c.writer-writer.result ∙ c.writer-writer.ensures.write) (c.ending_weight.ensures ∙ ap (ending_weight c.self.inside.weighing c.self.inside.store.state) c.writer-writer.ensures.write) (each_end c.finish_replacing.result (λ how is. is.ends) c.finish_replacing.ensures.ended) c.self.invariant.0),
      if_ended c.finish_replacing.result c.args.request.now.cache.write c.args.request.now.cache.held (Some c.self.inside.lock.past) (Some c.finish_replacing.new.lock.past) (each_end c.finish_replacing.result (λ how is. is.deeds) c.finish_replacing.ensures.ended) c.self.invariant.1,
      names_ended c.finish_replacing.result c.args.request.now.cache.key c.args.request.now.cache.write (Some c.self.inside.store.past) (Some c.finish_replacing.new.storage.past) (each_end c.finish_replacing.result (λ how is. is.past) c.finish_replacing.ensures.ended) c.self.invariant.2,
    )

pub returns : goal.returns
returns g c =
    let tracked = g.M.EvictionManager.tracked in
    let inside = c.self.inside in
    let limits = g.M.EvictionManager.limits inside.manager in
    let call = c.finish_replacing in
    let e = call.ensures in
    let r = c.args.request.now.cache in
    let may = subst (λ (p : Parts). MayEnd p.store r) (sym c.self.view_is) c.requires.own in
    let weighs = c.ending_weight.ensures ∙ ap (ending_weight inside.weighing inside.store.state) c.writer-writer.ensures.write in
    rw (← c.self.view_is) (record {
      takes = record {
        request = e.request;
        ended = search rules;
        only = λ of its only. only_finished of inside.weighing limits r c.replaced_by.result c.ending_weight.result inside.store.state call.new.storage.state (tracked inside.manager) (tracked call.new.eviction) inside.lock.table call.new.lock.table call.result
            may (sym c.writer-writer.ensures.entry ∙ same-number _ c.writer-writer.result ∙ c.writer-writer.ensures.write) weighs its c.replaced_by.ensures (each_end call.result (λ how is. is.ends) e.ended) only;
        room = λ of none its only room. finish_calm of none inside.weighing limits r c.replaced_by.result c.ending_weight.result inside.store.state call.new.storage.state (tracked inside.manager) (tracked call.new.eviction) inside.lock.table call.new.lock.table call.result
            may.uses its c.replaced_by.ensures only (subst (HasRoom inside.weighing limits (beside r.key inside.store.state)) (sym weighs) room) (each_end call.result (λ how is. is.ends) e.ended);
        withdrawn = search rules;
        limits = e.limits;
        weighing = refl;
        purges = refl;
      };
      fetch = search rules;
    })
