use Rattle.std.proofs.Common.{option_map}
use Rattle.pcache_request.specs.Releasing.{MayDisable}
use Rattle.pcache_request.specs.Requests.{Request}
use Rattle.pcache_store.specs.Store.{Reader}
use Rattle.pcache_history.specs.Rules.{release_of}
use Rattle.pcache_world.specs.Step.{permit_in}
use Rattle.pcache_world.proofs.Words.{rules, inl, ◌≡◌, ◌++◌, None, Option, Some, refl, ap, subst, ◌∙◌, Meta, status_for, dropped_by, left_by, reader_of, Ongoing, MovesStore, no_facts, FollowsRule, drop_of, each, permit_of, held_with, MovesLocks, deeds_by, GiveUp}
use Rattle.pcache_history.specs.declared.call.Act.TheVariants as C
use Rattle.pcache_history.specs.declared.call.RequestAct.TheVariants as Q
use Rattle.pcache_history.specs.declared.call.Reply.TheVariants as replies
use Rattle.pcache_history.specs.declared.entry.Event.TheVariants as E
use Rattle.pcache_world.proofs.MovesOf.{switches-off}
use Rattle.pcache_world.proofs.Noted.{permit-named}
use Rattle.pcache_world.proofs.LockSteps.{settle-then}
use Rattle.pcache_world.proofs.Waiting.{status-reason}
use Rattle.pcache_world.proofs.world.switch.disable.Goals as goal

pub returns-clause-moves : goal.returns-clause-moves
returns-clause-moves c =
    let pair : Option (Meta × Reader) = option_map (λ p. (p.0, reader_of p.1)) c.request.inside.pair in
    let now : Option (Meta × Reader) = option_map (λ p. (p.0, reader_of p.1)) c.hold.new.place in
    let r : Request = c.request.inside.cache in
    let new : Request = c.disable-released.new.self in
    let events = c.note_shut.new.events.items in
    subst (λ (x : Ongoing). MovesStore (Some x) c.args.store.now.state events (Some (held_with None now new)) c.disable-released.new.storage.state) c.request.view_is
    (switches-off (held_with c.request.inside.carried pair r) (held_with None now new) c.args.store.now.state c.disable-released.new.storage.state c.write_number-dropped.result c.permit_in.result c.args.events.now.items events
    c.write_number-dropped.ensures.write c.requires.none c.note_shut.ensures (ap (option_map (λ p. (p.0, reader_of p.1))) c.hold.ensures.place)
    c.disable-released.ensures.disables.held.1 c.disable-released.ensures.disables.held.2 (c.disable-released.ensures.disables.gives.store ∙ ap (λ s. left_by r.reader (dropped_by r.write s)) c.hold.ensures.store))

pub returns-clause-answers : goal.returns-clause-answers
returns-clause-answers c =
    let r : Request = c.request.inside.cache in
    let events = c.note_shut.new.events.items in
    let may : MayDisable c.args.reason r = search rules in
    let permit : c.permit_in.result ≡ permit_of r.held = c.permit_in.ensures ∙ ap permit_in c.disable-released.ensures.disables.released ∙ permit-named r.held in
    let is : events ≡ release_of r.held ++ drop_of r.write = c.note_shut.ensures ∙ (λ i. c.requires.none i ++ each E.Release (permit i) ++ drop_of (c.write_number-dropped.ensures.write i)) in
    subst (λ (x : Ongoing). FollowsRule no_facts (C.Request (Q.Disable c.args.reason)) (Some x) replies.Done events) c.request.view_is (inl (may, tt, (refl, is)))

pub returns-clause-locks : goal.returns-clause-locks
returns-clause-locks c n =
    let r : Request = c.request.inside.cache in
    let s = status_for (λ text. GiveUp) c.args.reason in
    let all = c.note_shut.new.events.items in
    let permit : c.permit_in.result ≡ permit_of r.held = c.permit_in.ensures ∙ ap permit_in c.disable-released.ensures.disables.released ∙ permit-named r.held in
    subst (λ (x : Ongoing). MovesLocks n (deeds_by n 0 s all) x.request.held c.args.lock.now.table c.disable-released.new.self.held c.disable-released.new.lock.table) c.request.view_is
    (settle-then n 0 s c.args.lock.now.table c.disable-released.new.lock.table r.held c.disable-released.new.self.held c.permit_in.result c.write_number-dropped.result c.args.events.now.items all (status-reason c.args.reason) permit c.requires.none c.note_shut.ensures c.disable-released.ensures.disables.held.0 c.disable-released.ensures.disables.settles.table)
