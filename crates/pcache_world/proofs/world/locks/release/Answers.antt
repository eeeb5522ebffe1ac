use Rattle.std.proofs.Common.{option_map}
use Rattle.pcache_request.specs.Requests.{Request}
use Rattle.pcache_store.specs.Store.{Reader}
use Rattle.pcache_world.proofs.Words.{◌≡◌, Option, Some, refl, ap, subst, ◌∙◌, Meta, reader_of, Ongoing, MovesStore, permit_of, permit_released, Release, held_with, MovesLocks, deeds_by, status_for, GiveUp}
use Rattle.pcache_world.proofs.MovesOf.{turns-quietly, quiet-noted}
use Rattle.pcache_world.proofs.Noted.{permit-released}
use Rattle.pcache_world.proofs.LockSteps.{settle-alone}
use Rattle.pcache_world.proofs.Waiting.{status-reason}
use Rattle.pcache_world.proofs.world.locks.release.Goals as goal

pub returns-clause-moves : goal.returns-clause-moves
returns-clause-moves c s =
    let pair : Option (Meta × Reader) = option_map (λ p. (p.0, reader_of p.1)) c.request.inside.pair in
    let r : Request = c.request.inside.cache in
    let o = c.permit_released.result in
    let old = c.args.events.now.items in
    let all = c.note_release.new.events.items in
    subst (λ (x : Ongoing). MovesStore (Some x) s all (Some (held_with c.request.inside.carried pair c.release_write_lock-released.new.self)) s) c.request.view_is
    (turns-quietly (held_with c.request.inside.carried pair r) (held_with c.request.inside.carried pair c.release_write_lock-released.new.self) s all (quiet-noted Release o old all (λ n. tt) c.requires.none c.note_release.ensures.events)
    refl (ap (λ (y : Request). y.reader) c.release_write_lock-released.ensures.releases.request) (ap (λ (y : Request). y.write) c.release_write_lock-released.ensures.releases.request))

pub returns-clause-locks : goal.returns-clause-locks
returns-clause-locks c n =
    let r : Request = c.request.inside.cache in
    let o = c.permit_released.result in
    let old = c.args.events.now.items in
    let all = c.note_release.new.events.items in
    let permit : o ≡ permit_of r.held = c.permit_released.ensures ∙ ap permit_released c.release_write_lock-released.ensures.releases.released ∙ permit-released _ r.held in
    subst (λ (x : Ongoing). MovesLocks n (deeds_by n 0 (status_for (λ text. GiveUp) c.args.reason) all) x.request.held c.args.lock.now.table c.release_write_lock-released.new.self.held c.release_write_lock-released.new.lock.table) c.request.view_is
    (settle-alone n 0 (status_for (λ text. GiveUp) c.args.reason) c.args.lock.now.table c.release_write_lock-released.new.lock.table r.held c.release_write_lock-released.new.self.held o old all (status-reason c.args.reason) permit c.requires.none c.note_release.ensures.events (ap (λ (y : Request). y.held) c.release_write_lock-released.ensures.releases.request) c.release_write_lock-released.ensures.releases.settles.table)
