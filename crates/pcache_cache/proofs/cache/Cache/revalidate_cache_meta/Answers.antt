use Rattle.pcache_request.specs.Renewals.{renewed_by}
use Rattle.pcache_cache.proofs.Words.{◌≡◌, OnOk, Option, Some, ap, subst, sym, ◌∙◌, rules, Key, slot, Meta, Request, Parts, IsItsKey, IfRoom, KeepsBodies, weight_with}
use Rattle.pcache_cache.specs.Renewing.{named_as}
use Rattle.pcache_cache.proofs.Only.{numbered}
use Rattle.pcache_cache.proofs.Owned.{only_own, own_room}
use Rattle.pcache_cache.proofs.cache.Cache.revalidate_cache_meta.Goals as goal

pub returns : goal.returns
returns g c =
    let inside = c.self.inside in
    let r = c.args.request.now.cache in
    let new = c.set_own_meta.new.store.state in
    let key = c.in-Some-Some.key.now in
    let as_named : c.named_as-meta.result ≡ named_as r.meta c.args.meta = c.named_as-meta.ensures in
    let made = c.renew_request-released.ensures.goes_on.request in
    let keyed : Some key ≡ r.key = c.in-Some-Some.ensures.value ∙ ap (λ (x : Request). x.key) made in
    let given : Some c.in-Some-Some.meta.now ≡ Some (renewed_by (named_as r.meta c.args.meta) r.meta) = c.in-Some-Some.ensures' ∙ ap (λ (x : Request). x.meta) made ∙ ap (λ (x : Meta). Some (renewed_by x r.meta)) as_named in
    let meta : c.in-Some-Some.meta.now ≡ renewed_by (named_as r.meta c.args.meta) r.meta = cc in
    let p : Parts = record { store = inside.store.state; past = inside.store.past; weighing = inside.weighing; tracked = g.M.EvictionManager.tracked inside.manager; limits = g.M.EvictionManager.limits inside.manager; evicted = g.M.EvictionManager.evicted inside.manager; locks = inside.lock.table; deeds = inside.lock.past; purges = inside.purges } in
    let own = own_room p c.in-Some-Some.meta.now (Some key) c.set_own_meta.result (record { store = new; past = c.set_own_meta.new.store.past; tracked = g.M.EvictionManager.tracked c.set_own_meta.new.manager; evicted = g.M.EvictionManager.evicted c.set_own_meta.new.manager }) c.set_own_meta.ensures.renews in
    let with_meta = subst (λ (x : Meta). OnOk c.set_own_meta.result (IfRoom (Some key) (weight_with p.weighing x (Some key) p.store) p (KeepsBodies p.store new))) meta own in
    let with_key = subst (λ (k : Option Key). OnOk c.set_own_meta.result (IfRoom k (weight_with p.weighing (renewed_by (named_as r.meta c.args.meta) r.meta) k p.store) p (KeepsBodies p.store new))) keyed with_meta in
    rw (← c.self.view_is) (record {
      takes = record {
        goes_on = search rules;
        renews = search rules;
        kind = search rules;
        only = λ of its only. only_own of inside.weighing (g.M.EvictionManager.limits inside.manager) c.in-Some-Some.meta.now key c.set_own_meta.result _ _ c.set_own_meta.ensures.renews
            (λ b there. numbered inside.store.state inside.store.past c.headline.ensures.bodies c.headline.ensures.kept (slot key) b there) (subst (IsItsKey of) (sym keyed) its) only;
        room = with_key;
        rest = search rules;
      };
      fetch = search rules;
    })
