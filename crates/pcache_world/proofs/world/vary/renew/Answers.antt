use Rattle.pcache_request.specs.Requests.{Request}
use Rattle.pcache_world.specs.Step.{permit_in}
use Rattle.pcache_lock.specs.declared.lock.status.LockStatus.TheVariants.{Done}
use Rattle.pcache_world.proofs.Words.{◌≡◌, refl, ap, sym, ◌∙◌, renewed_by, permit_of, held_with}
use Rattle.pcache_world.proofs.MovesOf.{renews}
use Rattle.pcache_world.proofs.Noted.{permit-named, renewed-as, renews-told}
use Rattle.pcache_world.proofs.LockSteps.{renewed-locks}
use Rattle.pcache_world.proofs.world.vary.renew.Goals as goal

pub returns-clause-answers : goal.returns-clause-answers
returns-clause-answers c =
    let x : Request = c.args.cache.now in
    let permit : c.permit_in.result ≡ permit_of x.held = c.permit_in.ensures ∙ ap permit_in c.renew_meta-updated.ensures.released ∙ permit-named x.held in
    let copy : c.set_created.new.self ≡ renewed_by c.args.meta x.meta = renewed-as x c.args.meta c.args.noted c.in-Some-meta.old.now c.set_provenance.new.self c.set_created.new.self c.provenance.result c.created.result (sym c.in-Some-meta.ensures) c.requires.same c.provenance.ensures c.created.ensures c.set_provenance.ensures c.set_created.ensures in
    renews-told c.args.store.now.state c.args.lock.now.table x c.args.meta c.set_created.new.self c.in-Some.key.now c.slot-slot.result c.renew_meta-updated.result.updated c.permit_in.result c.note_renewal-reply.result c.args.events.now.items c.note_renewal-reply.new.events.items c.note_release.new.events.items
    (sym c.in-Some.ensures.value) c.slot-slot.ensures copy permit c.note_renewal-reply.ensures.reply c.requires.none c.note_renewal-reply.ensures.events c.note_release.ensures.events c.renew_meta-updated.ensures.renews.there c.renew_meta-updated.ensures.renews.something c.renew_meta-updated.ensures.renews.kind

pub returns-clause-moves : goal.returns-clause-moves
returns-clause-moves c p d =
    let x : Request = c.args.cache.now in
    let y : Request = c.renew_meta-updated.new.self in
    let copy : c.set_created.new.self ≡ renewed_by c.args.meta x.meta = renewed-as x c.args.meta c.args.noted c.in-Some-meta.old.now c.set_provenance.new.self c.set_created.new.self c.provenance.result c.created.result (sym c.in-Some-meta.ensures) c.requires.same c.provenance.ensures c.created.ensures c.set_provenance.ensures c.set_created.ensures in
    renews (held_with d p x) (held_with d p y) c.args.store.now.state c.renew_meta-updated.new.storage.state c.in-Some.key.now c.slot-slot.result (renewed_by c.args.meta x.meta) c.set_created.new.self c.renew_meta-updated.result.updated c.permit_in.result
    c.args.events.now.items c.note_renewal-reply.new.events.items c.note_release.new.events.items c.requires.none c.note_renewal-reply.ensures.events c.note_release.ensures.events refl (ap (λ (z : Request). z.reader) c.renew_meta-updated.ensures.goes_on.request) (ap (λ (z : Request). z.write) c.renew_meta-updated.ensures.goes_on.request)
    (sym c.in-Some.ensures.value) c.slot-slot.ensures copy c.renew_meta-updated.ensures.renews.there c.renew_meta-updated.ensures.renews.store c.renew_meta-updated.ensures.renews.same_store

pub returns-clause-locks : goal.returns-clause-locks
returns-clause-locks c n =
    let x : Request = c.args.cache.now in
    let permit : c.permit_in.result ≡ permit_of x.held = c.permit_in.ensures ∙ ap permit_in c.renew_meta-updated.ensures.released ∙ permit-named x.held in
    renewed-locks n 0 Done c.args.lock.now.table c.renew_meta-updated.new.lock.table x.held c.renew_meta-updated.new.self.held c.permit_in.result c.slot-slot.result c.set_created.new.self c.renew_meta-updated.result.updated c.args.events.now.items c.note_renewal-reply.new.events.items c.note_release.new.events.items
    tt permit c.requires.none c.note_renewal-reply.ensures.events c.note_release.ensures.events (ap (λ (y : Request). y.held) c.renew_meta-updated.ensures.goes_on.request) c.renew_meta-updated.ensures.goes_on.settles.table
