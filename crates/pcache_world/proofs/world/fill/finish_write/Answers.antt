use Rattle.pcache_request.specs.WriteEnds.{status_after}
use Rattle.pcache_request.specs.Requests.{Request}
use Rattle.pcache_world.specs.PartFacts.{facts_in, untouched_for}
use Rattle.pcache_world.proofs.Words.{◌≡◌, ◌++◌, ◌∷◌, true, None, refl, ap, sym, ◌∙◌, cond, is_some, each, Admit, Finish, Purge, Release, settled}
use Rattle.pcache_world.proofs.Evicting.{finish-drops, finish-stores, finish-withdraws, idle-evicts}
use Rattle.pcache_world.proofs.MovesOf.{finish-refused, finish-size, finish-stored, finish-withdrawn, finish-dropped, end-locks}
use Rattle.pcache_world.proofs.Noted.{stored-entry, released-permit}
use Rattle.pcache_world.proofs.LockSteps.{refused-locks, stored-locks}
use Rattle.pcache_world.proofs.world.fill.finish_write.Goals as goal

pub returns-in-Some-entry-clause-moves : goal.returns-in-Some-entry-clause-moves
returns-in-Some-entry-clause-moves g c p d world =
    let tracked = g.M.EvictionManager.tracked in
    let key = sym c.in-Some-key.ensures.value in
    let has = sym c.write_number.ensures.write ∙ c.in-Some.is in
    let report = c.end_write-end.result in
    let entry = stored-entry c.args.cache.now.key c.args.cache.now.entry c.in-Some-key.key.now report.end c.in-Stored.report report.entry c.in-Some-entry.entry key c.in-Stored.is c.end_write-end.ensures.entry c.in-Some-entry.is in
    let number = sym c.write_number.ensures.entry ∙ c.in-Some.is in
    finish-stored d c.args.cache.now c.end_write-end.new.self p c.args.store.now.state c.end_write-end.new.storage.state c.in-Some-key.key.now c.in-Some.write _ (tracked c.args.manager.now) (tracked c.end_write-end.new.eviction) _ _ c.permit_in-permit.result c.args.events.now.items
    key has c.requires.none c.end_write-end.ensures.request
    report.end c.in-Stored.report c.in-Some-entry.entry (c.args.events.now.items ++ Finish c.in-Some.write true ∷ each Release c.permit_in-permit.result) c.note_stored.new.events.items c.in-Stored.is world number entry c.end_write-end.ensures.ends.ends refl c.note_stored.ensures.events

pub returns-in-Dropped-clause-moves : goal.returns-in-Dropped-clause-moves
returns-in-Dropped-clause-moves g c p d world =
    finish-dropped d c.args.cache.now c.end_write-end.new.self p c.args.store.now.state c.end_write-end.new.storage.state c.in-Some-key.key.now c.in-Some.write _ (g.M.EvictionManager.tracked c.args.manager.now) (g.M.EvictionManager.tracked c.end_write-end.new.eviction) _ _ c.permit_in-permit.result c.args.events.now.items
    (sym c.in-Some-key.ensures.value) (sym c.write_number.ensures.write ∙ c.in-Some.is) c.requires.none c.end_write-end.ensures.request
    _ _ c.etype-kind.result c.end_refused.result c.note_with_release.new.events.items c.in-Dropped.is c.end_refused.ensures c.etype-kind.ensures c.end_write-end.ensures.ends.ends c.note_with_release.ensures.events

pub returns-in-Withdrawn-clause-moves : goal.returns-in-Withdrawn-clause-moves
returns-in-Withdrawn-clause-moves g c p d world =
    finish-withdrawn d c.args.cache.now c.end_write-end.new.self p c.args.store.now.state c.end_write-end.new.storage.state c.in-Some-key.key.now c.in-Some.write _ (g.M.EvictionManager.tracked c.args.manager.now) (g.M.EvictionManager.tracked c.end_write-end.new.eviction) _ _ c.permit_in-permit.result c.args.events.now.items
    (sym c.in-Some-key.ensures.value) (sym c.write_number.ensures.write ∙ c.in-Some.is) c.requires.none c.end_write-end.ensures.request
    _ _ c.slot-slot.result c.note_with_release-in-Withdrawn.new.events.items c.push_reserved.new.self.items c.in-Withdrawn.is c.slot-slot.ensures c.end_write-end.ensures.ends.ends c.note_with_release-in-Withdrawn.ensures.events c.push_reserved.ensures.items

pub returns-in-Dropped-clause-answers : goal.returns-in-Dropped-clause-answers
returns-in-Dropped-clause-answers g c oldest =
    let x = c.args.cache.now in
    let has = sym c.write_number.ensures.write ∙ c.in-Some.is in
    let permit = released-permit x c.in-Some.write c.end_write-end.result.released c.permit_in-permit.result has c.end_write-end.ensures.released c.permit_in-permit.ensures in
    finish-refused None x c.end_write-end.new.self None c.args.store.now.state c.end_write-end.new.storage.state c.in-Some-key.key.now c.in-Some.write _ (g.M.EvictionManager.tracked c.args.manager.now) (g.M.EvictionManager.tracked c.end_write-end.new.eviction) _ _ c.permit_in-permit.result c.args.events.now.items
    (sym c.in-Some-key.ensures.value) has c.requires.none c.end_write-end.ensures.request
    _ _ c.etype-kind.result c.end_refused.result c.note_with_release.new.events.items (facts_in c.args.store.now.state c.args.lock.now.table x) c.in-Dropped.is c.end_refused.ensures c.etype-kind.ensures c.end_write-end.ensures.ends.ends (ap (untouched_for c.args.store.now.state) has) oldest c.note_with_release.ensures.events permit

pub returns-in-Some-entry-clause-locks : goal.returns-in-Some-entry-clause-locks
returns-in-Some-entry-clause-locks g c n =
    let key = sym c.in-Some-key.ensures.value in
    let has = sym c.write_number.ensures.write ∙ c.in-Some.is in
    let x = c.args.cache.now in
    let permit = released-permit x c.in-Some.write c.end_write-end.result.released c.permit_in-permit.result has c.end_write-end.ensures.released c.permit_in-permit.ensures in
    let gone : c.end_write-end.new.self.held ≡ None = ap (λ (y : Request). y.held) c.end_write-end.ensures.request ∙ ap (λ o. (cond (is_some o) (record x { write = None; entry = None; held = None }) x).held) has in
    let to = end-locks None x c.end_write-end.new.self None c.args.store.now.state c.end_write-end.new.storage.state c.in-Some-key.key.now c.in-Some.write _ (g.M.EvictionManager.tracked c.args.manager.now) (g.M.EvictionManager.tracked c.end_write-end.new.eviction) c.args.lock.now.table c.end_write-end.new.lock.table c.permit_in-permit.result c.args.events.now.items
    key has c.requires.none c.end_write-end.ensures.request c.end_write-end.result.end c.end_write-end.ensures.ends.ends ∙ ap (λ how. settled (status_after how) x.held c.args.lock.now.table) c.in-Stored.is in
    stored-locks n 0 c.args.lock.now.table c.end_write-end.new.lock.table x.held c.end_write-end.new.self.held c.permit_in-permit.result c.in-Some.write (Admit c.in-Some-entry.entry c.in-Stored.report.size c.in-Stored.report.evicted.items) c.args.events.now.items
    (c.args.events.now.items ++ Finish c.in-Some.write true ∷ each Release c.permit_in-permit.result) c.note_stored.new.events.items tt permit c.requires.none refl c.note_stored.ensures.events gone to

pub returns-in-Dropped-clause-locks : goal.returns-in-Dropped-clause-locks
returns-in-Dropped-clause-locks g c n =
    let key = sym c.in-Some-key.ensures.value in
    let has = sym c.write_number.ensures.write ∙ c.in-Some.is in
    let x = c.args.cache.now in
    let permit = released-permit x c.in-Some.write c.end_write-end.result.released c.permit_in-permit.result has c.end_write-end.ensures.released c.permit_in-permit.ensures in
    let gone : c.end_write-end.new.self.held ≡ None = ap (λ (y : Request). y.held) c.end_write-end.ensures.request ∙ ap (λ o. (cond (is_some o) (record x { write = None; entry = None; held = None }) x).held) has in
    let to = end-locks None x c.end_write-end.new.self None c.args.store.now.state c.end_write-end.new.storage.state c.in-Some-key.key.now c.in-Some.write _ (g.M.EvictionManager.tracked c.args.manager.now) (g.M.EvictionManager.tracked c.end_write-end.new.eviction) c.args.lock.now.table c.end_write-end.new.lock.table c.permit_in-permit.result c.args.events.now.items
    key has c.requires.none c.end_write-end.ensures.request c.end_write-end.result.end c.end_write-end.ensures.ends.ends ∙ ap (λ how. settled (status_after how) x.held c.args.lock.now.table) c.in-Dropped.is in
    refused-locks n 0 c.args.lock.now.table c.end_write-end.new.lock.table x.held c.end_write-end.new.self.held c.permit_in-permit.result c.in-Some.write c.etype-kind.result c.end_refused.result c.args.events.now.items c.note_with_release.new.events.items c.end_refused.ensures permit c.requires.none c.note_with_release.ensures.events gone to

pub returns-in-Withdrawn-clause-locks : goal.returns-in-Withdrawn-clause-locks
returns-in-Withdrawn-clause-locks g c n =
    let key = sym c.in-Some-key.ensures.value in
    let has = sym c.write_number.ensures.write ∙ c.in-Some.is in
    let x = c.args.cache.now in
    let permit = released-permit x c.in-Some.write c.end_write-end.result.released c.permit_in-permit.result has c.end_write-end.ensures.released c.permit_in-permit.ensures in
    let gone : c.end_write-end.new.self.held ≡ None = ap (λ (y : Request). y.held) c.end_write-end.ensures.request ∙ ap (λ o. (cond (is_some o) (record x { write = None; entry = None; held = None }) x).held) has in
    let to = end-locks None x c.end_write-end.new.self None c.args.store.now.state c.end_write-end.new.storage.state c.in-Some-key.key.now c.in-Some.write _ (g.M.EvictionManager.tracked c.args.manager.now) (g.M.EvictionManager.tracked c.end_write-end.new.eviction) c.args.lock.now.table c.end_write-end.new.lock.table c.permit_in-permit.result c.args.events.now.items
    key has c.requires.none c.end_write-end.ensures.request c.end_write-end.result.end c.end_write-end.ensures.ends.ends ∙ ap (λ how. settled (status_after how) x.held c.args.lock.now.table) c.in-Withdrawn.is in
    stored-locks n 0 c.args.lock.now.table c.end_write-end.new.lock.table x.held c.end_write-end.new.self.held c.permit_in-permit.result c.in-Some.write (Purge c.slot-slot.result) c.args.events.now.items c.note_with_release-in-Withdrawn.new.events.items c.push_reserved.new.self.items tt permit c.requires.none c.note_with_release-in-Withdrawn.ensures.events c.push_reserved.ensures.items gone to

pub returns-in_default-clause-evicted : goal.returns-in_default-clause-evicted
returns-in_default-clause-evicted g c world = idle-evicts _ _ _ c.args.events.now.items c.requires.none refl

pub returns-in-Some-entry-clause-evicted : goal.returns-in-Some-entry-clause-evicted
returns-in-Some-entry-clause-evicted g c world =
    let key = sym c.in-Some-key.ensures.value in
    let has = sym c.write_number.ensures.write ∙ c.in-Some.is in
    let x = c.args.cache.now in
    let report = c.end_write-end.result in
    let entry = stored-entry x.key x.entry c.in-Some-key.key.now report.end c.in-Stored.report report.entry c.in-Some-entry.entry key c.in-Stored.is c.end_write-end.ensures.entry c.in-Some-entry.is in
    let size = finish-size None x c.end_write-end.new.self None c.args.store.now.state c.end_write-end.new.storage.state c.in-Some-key.key.now c.in-Some.write _ (g.M.EvictionManager.tracked c.args.manager.now) (g.M.EvictionManager.tracked c.end_write-end.new.eviction) c.args.lock.now.table c.end_write-end.new.lock.table c.permit_in-permit.result c.args.events.now.items
    key has c.requires.none c.end_write-end.ensures.request report.end c.in-Stored.report c.in-Stored.is c.end_write-end.ensures.ends.ends in
    finish-stores (g.M.EvictionManager.tracked c.args.manager.now) _ x c.args.store.now.state c.in-Some-key.key.now c.in-Some.write c.permit_in-permit.result report.end _ c.args.events.now.items key has c.requires.none c.end_write-end.ensures.ends.evicted
    c.in-Stored.report c.in-Some-entry.entry (c.args.events.now.items ++ Finish c.in-Some.write true ∷ each Release c.permit_in-permit.result) c.note_stored.new.events.items c.in-Stored.is c.requires.may world entry size refl c.note_stored.ensures.events

pub returns-in-Dropped-clause-evicted : goal.returns-in-Dropped-clause-evicted
returns-in-Dropped-clause-evicted g c world =
    finish-drops (g.M.EvictionManager.tracked c.args.manager.now) _ c.args.cache.now c.args.store.now.state c.in-Some-key.key.now c.in-Some.write c.permit_in-permit.result c.end_write-end.result.end _ c.args.events.now.items
    (sym c.in-Some-key.ensures.value) (sym c.write_number.ensures.write ∙ c.in-Some.is) c.requires.none c.end_write-end.ensures.ends.evicted _ c.etype-kind.result c.end_refused.result c.note_with_release.new.events.items c.in-Dropped.is c.end_refused.ensures c.note_with_release.ensures.events

pub returns-in-Withdrawn-clause-evicted : goal.returns-in-Withdrawn-clause-evicted
returns-in-Withdrawn-clause-evicted g c world =
    finish-withdraws (g.M.EvictionManager.tracked c.args.manager.now) _ c.args.cache.now c.args.store.now.state c.in-Some-key.key.now c.in-Some.write c.permit_in-permit.result c.end_write-end.result.end _ c.args.events.now.items
    (sym c.in-Some-key.ensures.value) (sym c.write_number.ensures.write ∙ c.in-Some.is) c.requires.none c.end_write-end.ensures.ends.evicted _ c.slot-slot.result c.note_with_release-in-Withdrawn.new.events.items c.push_reserved.new.self.items c.in-Withdrawn.is c.note_with_release-in-Withdrawn.ensures.events c.push_reserved.ensures.items
