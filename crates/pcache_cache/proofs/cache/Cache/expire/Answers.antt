use Rattle.pcache_store.specs.Notes.{expiry_noted}
use Rattle.pcache_request.specs.StorePasts.{expired_past}
use Rattle.pcache_cache.proofs.Words.{Some, option_map, slot}
use Rattle.pcache_cache.proofs.Adding.{no_set_expired}
use Rattle.pcache_cache.proofs.Naming.{names_if, names_kept}
use Rattle.pcache_cache.proofs.Words.{subst, sym, rules, IsKept}
use Rattle.pcache_cache.proofs.Kept.{kept_expired}
use Rattle.pcache_cache.proofs.Only.{only_expired}
use Rattle.pcache_cache.proofs.cache.Cache.expire.Goals as goal

pub invariant_of-self : goal.invariant_of-self
invariant_of-self g c =
    let limits = g.M.EvictionManager.limits c.self.inside.manager in
    let tracked = g.M.EvictionManager.tracked c.self.inside.manager in (
      subst (λ l. IsKept c.self.inside.weighing l (g.M.EvictionManager.tracked c.expire.new.eviction) c.expire.new.storage.state) (sym c.expire.ensures.expires.limits)
          (kept_expired c.self.inside.weighing limits tracked (g.M.EvictionManager.tracked c.expire.new.eviction) c.self.inside.store.state c.expire.new.storage.state c.args.request.now.cache.uses.eviction c.args.request.now.cache.key c.args.now c.expire.result c.expire.ensures.expires.store c.expire.ensures.expires.tracked c.expire.ensures.expires.same_store c.expire.ensures.expires.same_tracked c.self.invariant.0),
      c.self.invariant.1,
      names_if c.expire.result (expired_past c.args.now c.args.request.now.cache.key) (Some c.self.inside.store.past) (Some c.expire.new.storage.past) (λ x is. names_kept (expiry_noted c.args.now (option_map slot c.args.request.now.cache.key)) x (no_set_expired c.args.now (option_map slot c.args.request.now.cache.key)) is) c.expire.ensures.expires.past c.expire.ensures.expires.same_past c.self.invariant.2,
    )

pub returns : goal.returns
returns g c =
    let tracked = g.M.EvictionManager.tracked in
    let inside = c.self.inside in
    let call = c.expire in
    let e = call.ensures in
    let r = c.args.request.now.cache in
    rw (← c.self.view_is) (record {
      takes = record {
        request = e.same;
        there = e.there;
        takes = e.expires;
        only = λ of its only. only_expired of inside.weighing (tracked inside.manager) (tracked call.new.eviction) inside.store.state call.new.storage.state r.uses.eviction r.key c.args.now call.result e.expires.store e.expires.tracked e.expires.same_store e.expires.same_tracked only;
        same = search rules;
        rest = search rules;
      };
      fetch = search rules;
    })
