use Rattle.pcache_cache.proofs.Naming.{names_put_ended}
use Rattle.pcache_cache.proofs.Words.{ap, ◌≡◌, true, Some, rules, subst, sym, ◌∙◌, slot, write_in, body_number, IsKept, Parts, is_own_write, HasRoom, beside}
use Rattle.pcache_cache.proofs.Ended.{same-number}
use Rattle.pcache_cache.proofs.Fed.{kept_put_ended}
use Rattle.pcache_cache.proofs.Ways.{each_put_end}
use Rattle.pcache_cache.proofs.Only.{only_put_ended}
use Rattle.pcache_cache.proofs.Room.{put_calm}
use Rattle.pcache_cache.proofs.cache.Cache.finish_put.Goals as goal

pub invariant_of-self : goal.invariant_of-self
invariant_of-self g c =
    let tracked = g.M.EvictionManager.tracked in
    let put = c.args.put.now.put in (
      subst (λ l. IsKept c.self.inside.weighing l (tracked c.finish_replacing.new.eviction) c.finish_replacing.new.storage.state) (sym c.finish_replacing.ensures.limits)
          (kept_put_ended c.self.inside.weighing (g.M.EvictionManager.limits c.self.inside.manager) put.key put.parser put.stage c.body_number.result c.put_weight.result c.self.inside.store.state c.finish_replacing.new.storage.state (tracked c.self.inside.manager) (tracked c.finish_replacing.new.eviction) c.finish_replacing.result
          (sym c.writer-writer.ensures.entry ∙ same-number _ c.writer-writer.result ∙ c.writer-writer.ensures.write)
          (subst (λ (p : Parts). is_own_write p.store (Some put.key) (write_in put.stage) ≡ true) (sym c.self.view_is) c.requires.own) c.put_weight.ensures (each_put_end c.finish_replacing.result (λ how is. is.0) c.finish_replacing.ensures.ended) c.self.invariant.0),
      c.self.invariant.1,
      names_put_ended c.finish_replacing.result put.key put.stage (Some c.self.inside.store.past) (Some c.finish_replacing.new.storage.past) (each_put_end c.finish_replacing.result (λ how is. is.1) c.finish_replacing.ensures.ended) c.self.invariant.2,
    )

pub returns : goal.returns
returns g c =
    let tracked = g.M.EvictionManager.tracked in
    let inside = c.self.inside in
    let limits = g.M.EvictionManager.limits inside.manager in
    let call = c.finish_replacing in
    let e = call.ensures in
    let put = c.args.put.now.put in
    let replaced = c.body_number.ensures ∙ ap (λ k. body_number inside.store.state (slot k)) c.key.ensures in
    rw (← c.self.view_is) (record {
      takes = record {
        ended = search rules;
        withdrawn = search rules;
        only = λ of its only. only_put_ended of inside.weighing limits put.key put.parser put.stage c.body_number.result c.put_weight.result inside.store.state call.new.storage.state (tracked inside.manager) (tracked call.new.eviction) call.result
            (sym c.writer-writer.ensures.entry ∙ same-number _ c.writer-writer.result ∙ c.writer-writer.ensures.write)
            (subst (λ (p : Parts). is_own_write p.store (Some put.key) (write_in put.stage) ≡ true) (sym c.self.view_is) c.requires.own) c.put_weight.ensures its replaced (each_put_end call.result (λ how is. is.0) e.ended) only;
        room = λ of none its only room. put_calm of none inside.weighing limits put.key put.parser put.stage c.body_number.result c.put_weight.result inside.store.state call.new.storage.state (tracked inside.manager) (tracked call.new.eviction) call.result
            its replaced only (subst (HasRoom inside.weighing limits (beside (Some put.key) inside.store.state)) (sym c.put_weight.ensures) room) (each_put_end call.result (λ how is. is.0) e.ended);
        rest = search rules;
      };
    })
