use Rattle.pcache_lock.specs.declared.lock.status.LockStatus.TheVariants.{Done}
use Rattle.pcache_request.specs.Requests.{Request}
use Rattle.pcache_world.specs.Step.{permit_in}
use Rattle.pcache_world.proofs.Words.{◌++◌, ◌∷◌, Some, ap, sym, ◌∙◌, each, held_with}
use Rattle.pcache_history.specs.declared.entry.Event.TheVariants as E
use Rattle.pcache_world.proofs.MovesOf.{begins-joined, begins-refused, idle, on-ok, on-err}
use Rattle.pcache_world.proofs.Noted.{began-is, permit-named}
use Rattle.pcache_world.proofs.LockSteps.{release-locks}
use Rattle.pcache_world.proofs.world.fill.begin_write.Goals as goal

pub returns-in-Err-begin_write-clause-moves : goal.returns-in-Err-begin_write-clause-moves
returns-in-Err-begin_write-clause-moves c p d =
    idle (Some (held_with d p c.args.cache.now)) (Some (held_with d p c.begin_write.new.self)) c.args.store.now.state c.begin_write.new.storage.state c.args.events.now.items
    c.requires.none (ap (λ y. Some (held_with d p y)) c.in-Err-begin_write.ensures.begins.same_request) c.in-Err-begin_write.ensures.begins.same_store

pub returns-in-Ok-following-clause-moves : goal.returns-in-Ok-following-clause-moves
returns-in-Ok-following-clause-moves c p d =
    let now = on-ok c.in-Ok-begin_write.begun.following c.in-Ok-following.field-0 c.in-Ok-following.is c.in-Ok-begin_write.ensures.begins.request in
    begins-joined d c.args.cache.now c.begin_write.new.self p c.args.store.now.state c.begin_write.new.storage.state c.in-Some.key.now c.in-Some-meta.meta.now c.in-Some-write_number.write c.slot-slot.result c.in-Ok.copy c.permit_in.result
    c.args.events.now.items c.note_with_release.new.events.items
    (sym c.in-Some.ensures.value) (sym c.in-Some-meta.ensures) c.requires.may.2 (sym c.write_number.ensures.write ∙ c.in-Some-write_number.is) c.slot-slot.ensures c.in-Ok.ensures.ok
    (c.permit_in.ensures ∙ ap permit_in c.in-Ok-begin_write.ensures.begins.released ∙ permit-named c.args.cache.now.held) c.requires.none
    c.note_with_release.ensures.events (ap (λ (y : Request). y.write) now) now (on-ok c.in-Ok-begin_write.begun.following c.in-Ok-following.field-0 c.in-Ok-following.is c.in-Ok-begin_write.ensures.begins.store)

pub returns-in-Ok-following-clause-row : goal.returns-in-Ok-following-clause-row
returns-in-Ok-following-clause-row c =
    began-is c.args.store.now.state c.args.cache.now c.begin_write.new.self c.in-Some.key.now c.in-Some-meta.meta.now c.in-Ok.copy c.in-Some-write_number.write c.slot-slot.result c.note_with_release.new.events.items (each E.Release c.permit_in.result)
    (sym c.in-Some.ensures.value) (sym c.in-Some-meta.ensures) (on-ok c.in-Ok-begin_write.begun.following c.in-Ok-following.field-0 c.in-Ok-following.is c.in-Ok-begin_write.ensures.begins.request) (sym c.write_number.ensures.write ∙ c.in-Some-write_number.is)
    (c.note_with_release.ensures.events ∙ ap (λ es. es ++ E.Begin c.in-Some-write_number.write c.slot-slot.result c.in-Ok.copy ∷ each E.Release c.permit_in.result) c.requires.none)

pub returns-in-Err-following-clause-moves : goal.returns-in-Err-following-clause-moves
returns-in-Err-following-clause-moves c p d =
    let now = on-err c.in-Ok-begin_write.begun.following c.in-Err-following.refused c.in-Err-following.is c.in-Ok-begin_write.ensures.begins.unfollowed_request in
    begins-refused d c.args.cache.now c.begin_write.new.self p c.args.store.now.state c.begin_write.new.storage.state c.in-Some.key.now c.in-Some-meta.meta.now c.in-Some-write_number.write c.slot-slot.result c.in-Ok.copy c.permit_in.result
    c.args.events.now.items c.note_with_release.new.events.items
    (sym c.in-Some.ensures.value) (sym c.in-Some-meta.ensures) c.requires.may.2 (sym c.write_number.ensures.write ∙ c.in-Some-write_number.is) c.slot-slot.ensures c.in-Ok.ensures.ok
    (c.permit_in.ensures ∙ ap permit_in c.in-Ok-begin_write.ensures.begins.released ∙ permit-named c.args.cache.now.held) c.requires.none
    c.note_with_release.ensures.events (ap (λ (y : Request). y.write) now) (ap (λ (y : Request). y.reader) now) (on-err c.in-Ok-begin_write.begun.following c.in-Err-following.refused c.in-Err-following.is c.in-Ok-begin_write.ensures.begins.unfollowed_store)

pub returns-in-Ok-following-clause-locks : goal.returns-in-Ok-following-clause-locks
returns-in-Ok-following-clause-locks c n =
    release-locks n 0 Done c.args.lock.now.table c.begin_write.new.lock.table c.args.cache.now.held c.begin_write.new.self.held c.permit_in.result (E.Begin c.in-Some-write_number.write c.slot-slot.result c.in-Ok.copy) c.args.events.now.items c.note_with_release.new.events.items
    tt tt (c.permit_in.ensures ∙ ap permit_in c.in-Ok-begin_write.ensures.begins.released ∙ permit-named c.args.cache.now.held) c.requires.none c.note_with_release.ensures.events (ap (λ (y : Request). y.held) (on-ok c.in-Ok-begin_write.begun.following c.in-Ok-following.field-0 c.in-Ok-following.is c.in-Ok-begin_write.ensures.begins.request)) c.in-Ok-begin_write.ensures.begins.table

pub returns-in-Err-following-clause-locks : goal.returns-in-Err-following-clause-locks
returns-in-Err-following-clause-locks c n =
    release-locks n 0 Done c.args.lock.now.table c.begin_write.new.lock.table c.args.cache.now.held c.begin_write.new.self.held c.permit_in.result (E.Begin c.in-Some-write_number.write c.slot-slot.result c.in-Ok.copy) c.args.events.now.items c.note_with_release.new.events.items
    tt tt (c.permit_in.ensures ∙ ap permit_in c.in-Ok-begin_write.ensures.begins.released ∙ permit-named c.args.cache.now.held) c.requires.none c.note_with_release.ensures.events (ap (λ (y : Request). y.held) (on-err c.in-Ok-begin_write.begun.following c.in-Err-following.refused c.in-Err-following.is c.in-Ok-begin_write.ensures.begins.unfollowed_request)) c.in-Ok-begin_write.ensures.begins.table
