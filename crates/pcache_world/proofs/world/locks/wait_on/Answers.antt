use Rattle.pcache_request.specs.Requests.{Request}
use Rattle.pcache_world.proofs.Words.{ap, ◌∙◌, inl, inr, refl, unusable_in, wait_reply, held_with}
use Rattle.pcache_history.specs.declared.call.Reply.TheVariants as replies
use Rattle.pcache_world.proofs.MovesOf.{turns-quietly}
use Rattle.pcache_world.proofs.Waited.{aged-by, aged-quiet, names-fills, not-polled, untold-after, wait-kept, wait-locks, wait-reader, wait-write}
use Rattle.pcache_world.proofs.world.locks.wait_on.Goals as goal

pub returns-in-Err-clause-answers : goal.returns-in-Err-clause-answers
returns-in-Err-clause-answers c s =
    let x : Request = c.args.cache.now in
    inl (not-polled x.held c.wait.result c.in-Err.refused c.in-Err.is c.wait.ensures.waits.later, names-fills (unusable_in x.key) c.wait.result c.in-Err.refused c.in-Err.is c.wait.ensures.waits.unnamed, (ap replies.Refused (c.etype.ensures ∙ c.in-Err.ensures.waits.kind), c.requires.none))

pub returns-clause-answers : goal.returns-clause-answers
returns-clause-answers c s =
    let x : Request = c.args.cache.now in
    inr (c.reply_of.ensures ∙ ap wait_reply c.in-Ok.ensures.answer, aged-by _ x.held c.in-Ok.report.is_too_old c.in-Ok.report.lock c.args.events.now.items c.note_aged.new.events.items c.in-Ok.ensures.too_old c.in-Ok.ensures.lock c.requires.may c.requires.none c.note_aged.ensures)

pub returns-clause-moves : goal.returns-clause-moves
returns-clause-moves c s p d =
    let x : Request = c.args.cache.now in
    let y : Request = c.wait.new.self in
    turns-quietly (held_with d p x) (held_with d p y) s c.note_aged.new.events.items (aged-quiet c.in-Ok.report.is_too_old c.in-Ok.report.lock.number c.args.events.now.items c.note_aged.new.events.items c.requires.none c.note_aged.ensures) refl
    (ap (λ (z : Request). z.reader) c.in-Ok.ensures.waits.request ∙ wait-reader c.args.lock.now.table c.args.now x.held x) (ap (λ (z : Request). z.write) c.in-Ok.ensures.waits.request ∙ wait-write c.args.lock.now.table c.args.now x.held x)

pub returns-clause-keeps : goal.returns-clause-keeps
returns-clause-keeps c = wait-kept c.args.lock.now.table c.args.now c.args.cache.now.held c.args.cache.now c.wait.new.self c.in-Ok.ensures.waits.request

pub returns-clause-row : goal.returns-clause-row
returns-clause-row c = untold-after c.args.lock.now.table c.args.now c.args.cache.now.held c.args.cache.now c.wait.new.self c.reply_of.result refl c.requires.may c.in-Ok.ensures.waits.request (c.reply_of.ensures ∙ ap wait_reply c.in-Ok.ensures.answer)

pub returns-clause-locks : goal.returns-clause-locks
returns-clause-locks c n =
    let x : Request = c.args.cache.now in
    wait-locks n c.args.now c.args.lock.now.table c.wait.new.lock.table x.held x c.wait.new.self c.reply_of.result c.note_aged.new.events.items refl c.requires.may c.in-Ok.ensures.waits.request c.in-Ok.ensures.waits.table
    (aged-by _ x.held c.in-Ok.report.is_too_old c.in-Ok.report.lock c.args.events.now.items c.note_aged.new.events.items c.in-Ok.ensures.too_old c.in-Ok.ensures.lock c.requires.may c.requires.none c.note_aged.ensures) (c.reply_of.ensures ∙ ap wait_reply c.in-Ok.ensures.answer)
