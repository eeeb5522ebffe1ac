use Rattle.std.proofs.Common.{option_map}
use Rattle.pcache_request.specs.Requests.{Request}
use Rattle.pcache_store.specs.Store.{Reader}
use Rattle.pcache_world.specs.Step.{permit_in}
use Rattle.pcache_lock.specs.declared.lock.status.LockStatus.TheVariants.{Done}
use Rattle.pcache_world.proofs.Words.{Option, Some, refl, ap, subst, ◌∙◌, Meta, reader_of, Ongoing, MovesStore, Release, held_with, MovesLocks, deeds_by, leaves_variant}
use Rattle.pcache_world.proofs.MovesOf.{turns-quietly, quiet-noted}
use Rattle.pcache_world.proofs.LockSteps.{varied-locks}
use Rattle.pcache_world.proofs.world.vary.variance.Goals as goal

pub returns-clause-moves : goal.returns-clause-moves
returns-clause-moves c s =
    let pair : Option (Meta × Reader) = option_map (λ p. (p.0, reader_of p.1)) c.request.inside.pair in
    let d = c.request.inside.carried in
    let r : Request = c.request.inside.cache in
    let o = c.permit_in.result in
    let old = c.args.events.now.items in
    let all = c.note_release.new.events.items in
    subst (λ (x : Ongoing). MovesStore (Some x) s all (Some (held_with d pair c.update_variance-released.new.self)) s) c.request.view_is
    (turns-quietly (held_with d pair r) (held_with d pair c.update_variance-released.new.self) s all (quiet-noted Release o old all (λ n. tt) c.requires.none c.note_release.ensures.events)
    refl (ap (λ (y : Request). y.reader) c.update_variance-released.ensures.varies.request) (ap (λ (y : Request). y.write) c.update_variance-released.ensures.varies.request))

pub returns-clause-locks : goal.returns-clause-locks
returns-clause-locks c n =
    let r : Request = c.request.inside.cache in
    let all = c.note_release.new.events.items in
    let b = leaves_variant c.args.variance r.key in
    subst (λ (x : Ongoing). MovesLocks n (deeds_by n 0 Done all) x.request.held c.args.lock.now.table c.update_variance-released.new.self.held c.update_variance-released.new.lock.table) c.request.view_is
    (varied-locks n 0 Done c.args.lock.now.table c.update_variance-released.new.lock.table b r.held c.update_variance-released.new.self.held c.permit_in.result c.args.events.now.items all tt (c.permit_in.ensures ∙ ap permit_in c.update_variance-released.ensures.varies.released) c.requires.none c.note_release.ensures.events
    (ap (λ (y : Request). y.held) c.update_variance-released.ensures.varies.request) c.update_variance-released.ensures.varies.table)
