use Rattle.std.proofs.Common.{option_map}
use Rattle.pcache_request.specs.Requests.{Request}
use Rattle.pcache_store.specs.Store.{Reader}
use Rattle.pcache_lock.specs.declared.lock.status.LockStatus.TheVariants.{Done}
use Rattle.pcache_world.proofs.Words.{Option, Some, refl, sym, ap, subst, ◌∙◌, ◌≡◌, Meta, reader_of, slot, Ongoing, Moves, held_with, MovesLocks, deeds_by}
use Rattle.pcache_world.proofs.MovesOf.{expires, idle}
use Rattle.pcache_world.proofs.OfParts.{locks-over, moves-over}
use Rattle.pcache_world.proofs.Noted.{expire-store, expire-tracks}
use Rattle.pcache_world.proofs.world.remove.expire.Goals as goal
use Rattle.pcache_world.proofs.LockSteps.{expire-locks, none_noted}
use Rattle.pcache_world.proofs.world.remove.expire.Goals.{in-Ok, in-Err}

pub returns-clause-moves : goal.returns-clause-moves
returns-clause-moves g c =
    let tracked = g.M.EvictionManager.tracked in
    let limits = g.M.EvictionManager.limits c.parts.inside.manager in
    let s = c.parts.inside.store.state in
    let u = c.expire.new.storage.state in
    let m = tracked c.parts.inside.manager in
    let n = tracked c.expire.new.eviction in
    let r : Request = c.request.inside.cache in
    let pair : Option (Meta × Reader) = option_map (λ p. (p.0, reader_of p.1)) c.request.inside.pair in
    let events = c.match-expire.events.items in
    let key = sym c.in-Some.ensures.value in
    let k = c.in-Some.key.now in
    moves-over _ (Some (held_with c.request.inside.carried pair c.expire.new.self)) _ c.parts.view_is (subst (λ (x : Ongoing). Moves limits (Some x) s m events (Some (held_with c.request.inside.carried pair c.expire.new.self)) u n) c.request.view_is
    (subst (λ (y : Request). Moves limits (Some (held_with c.request.inside.carried pair r)) s m events (Some (held_with c.request.inside.carried pair y)) u n) (sym c.expire.ensures.same)
    (elim c.match-expire.branch [
      | in-Ok w ↦
          subst (λ t. Moves limits (Some (held_with c.request.inside.carried pair r)) s m events (Some (held_with c.request.inside.carried pair r)) u t) (sym (expire-tracks s r.uses.eviction r.key m n w.in-Ok.ensures.expires.tracked))
          (expires (held_with c.request.inside.carried pair r) s u c.slot-slot.result (slot k) c.args.now c.args.events.now.items events c.slot-slot.ensures c.requires.none (ap (λ v. v.items) w.events-is ∙ w.push_reserved.ensures.items) (expire-store s u r.key k c.args.now key w.in-Ok.ensures.expires.store) limits m)
      | in-Err w ↦
          subst (λ t. Moves limits (Some (held_with c.request.inside.carried pair r)) s m events (Some (held_with c.request.inside.carried pair r)) u t) (sym w.in-Err.ensures.expires.same_tracked)
          (idle (Some (held_with c.request.inside.carried pair r)) (Some (held_with c.request.inside.carried pair r)) s u events (ap (λ v. v.items) w.events-is ∙ c.requires.none) refl w.in-Err.ensures.expires.same_store limits m)
    ])))

pub returns-clause-locks : goal.returns-clause-locks
returns-clause-locks g c n =
    let events = c.match-expire.events.items in
    let h = c.args.request.now.request.held in
    let same : c.expire.new.self.held ≡ h = ap (λ (y : Request). y.held) c.expire.ensures.same ∙ ap (λ (z : Ongoing). z.request.held) c.request.view_is in
    locks-over c.parts.view_is (subst (λ l. MovesLocks n (deeds_by n 0 Done events) h c.parts.inside.lock.table l c.parts.inside.lock.table) (sym same)
    (elim c.match-expire.branch [
      | in-Ok w ↦ expire-locks n 0 Done c.parts.inside.lock.table h c.slot-slot.result c.args.now c.args.events.now.items events c.requires.none (ap (λ v. v.items) w.events-is ∙ w.push_reserved.ensures.items)
      | in-Err w ↦ none_noted n 0 Done events h h c.parts.inside.lock.table c.parts.inside.lock.table (ap (λ v. v.items) w.events-is ∙ c.requires.none) refl refl
    ]))
