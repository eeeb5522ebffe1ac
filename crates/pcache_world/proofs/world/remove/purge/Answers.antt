use Rattle.std.proofs.Common.{option_map}
use Rattle.pcache_request.specs.Requests.{Request}
use Rattle.pcache_store.specs.Store.{Reader}
use Rattle.pcache_lock.specs.declared.lock.status.LockStatus.TheVariants.{Done}
use Rattle.pcache_world.proofs.Words.{Option, Some, refl, sym, ap, subst, ◌∙◌, ◌≡◌, Meta, reader_of, Ongoing, Moves, number_for, held_with, MovesLocks, deeds_by}
use Rattle.pcache_world.proofs.MovesOf.{purges, idle}
use Rattle.pcache_world.proofs.OfParts.{locks-over, moves-over}
use Rattle.pcache_world.proofs.Noted.{goes, purge-events, purge-untracks, purge-store}
use Rattle.pcache_world.proofs.world.remove.purge.Goals as goal
use Rattle.pcache_world.proofs.LockSteps.{none_noted, purge-locks}
use Rattle.pcache_world.proofs.world.remove.purge.Goals.{in-Ok, in-Err}

pub returns-clause-moves : goal.returns-clause-moves
returns-clause-moves g c world =
    let tracked = g.M.EvictionManager.tracked in
    let limits = g.M.EvictionManager.limits c.parts.inside.manager in
    let s = c.parts.inside.store.state in
    let u = c.purge_key.new.storage.state in
    let m = tracked c.parts.inside.manager in
    let n = tracked c.purge_key.new.eviction in
    let r : Request = c.request.inside.cache in
    let pair : Option (Meta × Reader) = option_map (λ p. (p.0, reader_of p.1)) c.request.inside.pair in
    let events = c.match-purge_key.events.items in
    let key = sym c.in-Some.ensures.value in
    let k = c.in-Some.key.now in
    moves-over _ (Some (held_with c.request.inside.carried pair c.purge_key.new.self)) _ c.parts.view_is (subst (λ (x : Ongoing). Moves limits (Some x) s m events (Some (held_with c.request.inside.carried pair c.purge_key.new.self)) u n) c.request.view_is
    (subst (λ (y : Request). Moves limits (Some (held_with c.request.inside.carried pair r)) s m events (Some (held_with c.request.inside.carried pair y)) u n) (sym c.purge_key.ensures.same)
    (elim c.match-purge_key.branch [
      | in-Ok w ↦
          let is = purge-events s r.uses.eviction r.key k key c.slot-slot.result w.in-Ok.removal.outcome w.in-Ok.removal.untracked c.args.events.now.items events c.slot-slot.ensures w.in-Ok.ensures.outcome w.in-Ok.ensures.untracked c.requires.none
          (ap (λ v. v.items) w.events-is ∙ w.note_removal.ensures.events) in
          purges (held_with c.request.inside.carried pair r) s u m n limits k (number_for s r.key) (goes s r.uses.eviction r.key k key) events is (purge-store s r.uses.eviction r.key k key u w.in-Ok.ensures.purges.store) (purge-untracks s r.uses.eviction r.key k key m n w.in-Ok.ensures.purges.tracked)
      | in-Err w ↦
          subst (λ t. Moves limits (Some (held_with c.request.inside.carried pair r)) s m events (Some (held_with c.request.inside.carried pair r)) u t) (sym w.in-Err.ensures.purges.same_tracked)
          (idle (Some (held_with c.request.inside.carried pair r)) (Some (held_with c.request.inside.carried pair r)) s u events (ap (λ v. v.items) w.events-is ∙ c.requires.none) refl w.in-Err.ensures.purges.same_store limits m)
    ])))

pub returns-clause-locks : goal.returns-clause-locks
returns-clause-locks g c n =
    let events = c.match-purge_key.events.items in
    let h = c.args.request.now.request.held in
    let same : c.purge_key.new.self.held ≡ h = ap (λ (y : Request). y.held) c.purge_key.ensures.same ∙ ap (λ (z : Ongoing). z.request.held) c.request.view_is in
    locks-over c.parts.view_is (subst (λ l. MovesLocks n (deeds_by n 0 Done events) h c.parts.inside.lock.table l c.parts.inside.lock.table) (sym same)
    (elim c.match-purge_key.branch [
      | in-Ok w ↦ purge-locks n 0 Done c.parts.inside.lock.table h c.slot-slot.result w.in-Ok.removal.untracked c.args.events.now.items events c.requires.none (ap (λ v. v.items) w.events-is ∙ w.note_removal.ensures.events)
      | in-Err w ↦ none_noted n 0 Done events h h c.parts.inside.lock.table c.parts.inside.lock.table (ap (λ v. v.items) w.events-is ∙ c.requires.none) refl refl
    ]))
