use Rattle.std.proofs.Common.{option_map}
use Rattle.pcache_request.specs.Stale.{MayRevalidate}
use Rattle.pcache_store.specs.Store.{Reader}
use Rattle.pcache_lock.specs.declared.lock.status.LockStatus.TheVariants.{Done}
use Rattle.pcache_world.proofs.Words.{◌≡◌, rules, inl, Option, Some, ap, sym, subst, ◌∙◌, Meta, reader_of, facts_in, Ongoing, MovesStore, Renews, held_with, MovesLocks, deeds_by}
use Rattle.pcache_world.proofs.world.vary.revalidate.Goals as goal

pub returns-clause-answers : goal.returns-clause-answers
returns-clause-answers c =
    let may : MayRevalidate c.args.request.now.request = search rules in
    let both : ◌≡◌ {A = Option (Meta × Meta)} (Some (c.in-Some.own, c.in-Some.noted)) (Some (c.args.meta.now, c.args.meta.now)) = sym c.in-Some.is ∙ c.take.ensures.value ∙ c.requires.spare in
    let pairs : ◌≡◌ {A = Meta × Meta} (c.in-Some.own, c.in-Some.noted) (c.args.meta.now, c.args.meta.now) = cc in
    let own : c.in-Some.own ≡ c.args.meta.now = ap (λ (p : Meta × Meta). p.0) pairs in
    let renews = subst (λ (x : Ongoing). Renews (facts_in c.args.store.now.state c.args.lock.now.table x.request) c.in-Some.own x.request c.renew.result c.renew.new.events.items) c.request.view_is c.renew.ensures.answers in
    inl (may, c.renew.ensures.other, subst (λ (m : Meta). Renews (facts_in c.args.store.now.state c.args.lock.now.table c.args.request.now.request) m c.args.request.now.request c.renew.result c.renew.new.events.items) own renews)

pub returns-clause-moves : goal.returns-clause-moves
returns-clause-moves c =
    let pair : Option (Meta × Reader) = option_map (λ p. (p.0, reader_of p.1)) c.request.inside.pair in
    let d = c.request.inside.carried in
    subst (λ (x : Ongoing). MovesStore (Some x) c.args.store.now.state c.renew.new.events.items (Some (held_with d pair c.renew.new.cache)) c.renew.new.store.state) c.request.view_is (c.renew.ensures.moves pair d)

pub returns-clause-locks : goal.returns-clause-locks
returns-clause-locks c n = subst (λ (x : Ongoing). MovesLocks n (deeds_by n 0 Done c.renew.new.events.items) x.request.held c.args.lock.now.table c.renew.new.cache.held c.renew.new.lock.table) c.request.view_is (c.renew.ensures.locks n)
