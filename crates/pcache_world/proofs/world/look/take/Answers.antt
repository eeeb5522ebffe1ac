use Rattle.std.specs.Prelude.{IsTrue}
use Rattle.pcache_history.specs.Ongoing.{asked}
use Rattle.pcache_request.specs.Requests.{Request}
use Rattle.pcache_store.specs.Store.{Reader}
use Rattle.pcache_lock.specs.declared.lock.status.LockStatus.TheVariants.{Done}
use Rattle.pcache_world.proofs.Words.{◌≡◌, ◌++◌, Option, None, Result, ap, sym, subst, refl, ◌∙◌, Some, IfErr, IfOk, OnOk, OnErr, inl, inr, ErrorType, NumbersExhausted, MayFailLock, reader_of, accesses, asking, noting, Tracked, Meta, Moves, asked_by_found, asks_as_stale, asks_for_hit, found_row, placed, store_found, table_found, AskedLock, left, held_with}
use Rattle.pcache_history.specs.declared.call.Reply.TheVariants as R
use Rattle.pcache_world.proofs.Keeps.{keeps-found}
use Rattle.pcache_world.proofs.MovesOf.{takes, untaken, let-go, found-write, quiet-asking}
use Rattle.pcache_world.proofs.Noted.{found-asked, found-phase, lock-refused, noted-access, takes-found}
use Rattle.pcache_world.proofs.LockSteps.{none_noted, taken-locks, untaken-locks}
use Rattle.pcache_world.proofs.world.look.take.Goals as goal

pub returns-in-Ok-asked-clause-answers : goal.returns-in-Ok-asked-clause-answers
returns-in-Ok-asked-clause-answers g c =
    let key = c.in-Some.key.now in
    let s = c.args.status in
    let x = c.args.cache.now in
    let t = c.args.lock.now.table in
    let h = reader_of c.args.pair.1 in
    let name = sym c.in-Some.ensures.value in
    let noted : c.note_access.new.events.items ≡ accesses s key h x = c.note_access.ensures.events ∙ (λ i. c.requires.none i ++ (ap noting c.in-Ok.ensures.access ∙ noted-access s key h x name) i) in
    let j = c.slot-slot.result in
    let a = c.in-Ok-asked.asked in
    let given = subst (λ (o : Result (Option AskedLock) ErrorType). IfOk o (λ q. q ≡ asked_by_found s t x)) c.in-Ok-asked.is c.in-Ok.ensures.asked in
    let now = subst (λ (o : Result (Option AskedLock) ErrorType). OnOk o (c.take_found.new.self ≡ found_row s c.args.pair.0 h t x)) c.in-Ok-asked.is c.in-Ok.ensures.takes.request in
    let phase = c.phase.ensures ∙ ap (λ (z : Request). z.phase) now ∙ found-phase s c.args.pair.0 h t x in
    takes-found c.args.store.now.state s t x (c.args.pair.0, h) key j a c.note_lock-kind.result c.phase.result c.note_lock-kind.new.events.items name c.slot-slot.ensures given c.note_lock-kind.ensures.kind
    (c.note_lock-kind.ensures.events ∙ ap (λ es. es ++ asking j a) noted) phase

pub returns-in-Ok-asked-clause-row : goal.returns-in-Ok-asked-clause-row
returns-in-Ok-asked-clause-row g c d =
    let key = c.in-Some.key.now in
    let s = c.args.status in
    let x = c.args.cache.now in
    let t = c.args.lock.now.table in
    let h = reader_of c.args.pair.1 in
    let name = sym c.in-Some.ensures.value in
    let noted : c.note_access.new.events.items ≡ accesses s key h x = c.note_access.ensures.events ∙ (λ i. c.requires.none i ++ (ap noting c.in-Ok.ensures.access ∙ noted-access s key h x name) i) in
    let j = c.slot-slot.result in
    let given = subst (λ (o : Result (Option AskedLock) ErrorType). IfOk o (λ q. q ≡ asked_by_found s t x)) c.in-Ok-asked.is c.in-Ok.ensures.asked in
    let now = subst (λ (o : Result (Option AskedLock) ErrorType). OnOk o (c.take_found.new.self ≡ found_row s c.args.pair.0 h t x)) c.in-Ok-asked.is c.in-Ok.ensures.takes.request in
    let events = c.note_lock-kind.ensures.events ∙ ap (λ es. es ++ asking j c.in-Ok-asked.asked) noted in
    ap Some (ap (held_with d None) (
    now
    ∙ found-asked s c.args.pair.0 h t x key j
    ∙ ap (λ a. placed s c.args.pair.0 h (asked (asks_as_stale s x.phase) (accesses s key h x ++ asking j a) x)) (sym given)
    ∙ ap (λ es. placed s c.args.pair.0 h (asked (asks_as_stale s x.phase) es x)) (sym events)))

pub returns-in-Err-clause-moves : goal.returns-in-Err-clause-moves
returns-in-Err-clause-moves g c d =
    let p : Meta × Reader = (c.args.pair.0, reader_of c.args.pair.1) in
    let tracked = g.M.EvictionManager.tracked in
    let x = held_with d (Some p) c.args.cache.now in
    let y = held_with d None c.take_found.new.self in
    subst (λ (m : Tracked). Moves (g.M.EvictionManager.limits c.args.manager.now) (Some x) c.args.store.now.state (tracked c.args.manager.now) c.args.events.now.items (Some y) c.take_found.new.storage.state m) (sym c.in-Err.ensures.same_tracked)
    (let-go x y c.args.store.now.state c.take_found.new.storage.state c.args.events.now.items c.requires.none refl (ap (λ (z : Request). z.reader) c.in-Err.ensures.takes.same_request) (ap (λ (z : Request). z.write) c.in-Err.ensures.takes.same_request) c.in-Err.ensures.takes.left_store _ _)

pub returns-in-Err-asked-clause-moves : goal.returns-in-Err-asked-clause-moves
returns-in-Err-asked-clause-moves g c d =
    let x = c.args.cache.now in
    let p : Meta × Reader = (c.args.pair.0, reader_of c.args.pair.1) in
    let tracked = g.M.EvictionManager.tracked in
    let name = sym c.in-Some.ensures.value in
    let same = subst (λ (o : Result (Option AskedLock) ErrorType). OnErr o (c.take_found.new.self ≡ x)) c.in-Err-asked.is c.in-Ok.ensures.takes.same_request in
    let gone = subst (λ (o : Result (Option AskedLock) ErrorType). OnErr o (c.take_found.new.storage.state ≡ left c.args.store.now.state p.1)) c.in-Err-asked.is c.in-Ok.ensures.takes.left_store in
    untaken d x (held_with d None c.take_found.new.self) p c.args.store.now.state c.take_found.new.storage.state (tracked c.args.manager.now) (tracked c.take_found.new.eviction) _ c.args.status c.in-Some.key.now c.note_access.new.events.items
    (c.note_access.ensures.events ∙ (λ i. c.requires.none i ++ (ap noting c.in-Ok.ensures.access ∙ noted-access c.args.status c.in-Some.key.now p.1 x name) i)) name refl
    (ap (λ (z : Request). z.reader) same) (ap (λ (z : Request). z.write) same) gone c.in-Ok.ensures.tracked

pub returns-in-Ok-asked-clause-moves : goal.returns-in-Ok-asked-clause-moves
returns-in-Ok-asked-clause-moves g c d =
    let x = c.args.cache.now in
    let t = c.args.lock.now.table in
    let s = c.args.status in
    let p : Meta × Reader = (c.args.pair.0, reader_of c.args.pair.1) in
    let tracked = g.M.EvictionManager.tracked in
    let name = sym c.in-Some.ensures.value in
    let more = asking c.slot-slot.result c.in-Ok-asked.asked in
    let now = subst (λ (o : Result (Option AskedLock) ErrorType). OnOk o (c.take_found.new.self ≡ found_row s p.0 p.1 t x)) c.in-Ok-asked.is c.in-Ok.ensures.takes.request in
    let to = subst (λ (o : Result (Option AskedLock) ErrorType). OnOk o (c.take_found.new.storage.state ≡ store_found s p.1 x c.args.store.now.state)) c.in-Ok-asked.is c.in-Ok.ensures.takes.store in
    takes d x (held_with d None c.take_found.new.self) p c.args.store.now.state c.take_found.new.storage.state (tracked c.args.manager.now) (tracked c.take_found.new.eviction) _ s c.in-Some.key.now more c.note_lock-kind.new.events.items (quiet-asking _ _)
    (c.note_lock-kind.ensures.events ∙ ap (λ es. es ++ more) (c.note_access.ensures.events ∙ (λ i. c.requires.none i ++ (ap noting c.in-Ok.ensures.access ∙ noted-access s c.in-Some.key.now p.1 x name) i))) name
    refl (ap (λ (z : Request). z.reader) now) (ap (λ (z : Request). z.write) now ∙ found-write s p.0 p.1 t x) to c.in-Ok.ensures.tracked

pub returns-in-Ok-asked-clause-keeps : goal.returns-in-Ok-asked-clause-keeps
returns-in-Ok-asked-clause-keeps g c =
    let now = subst (λ (o : Result (Option AskedLock) ErrorType). OnOk o (c.take_found.new.self ≡ found_row c.args.status c.args.pair.0 (reader_of c.args.pair.1) c.args.lock.now.table c.args.cache.now)) c.in-Ok-asked.is c.in-Ok.ensures.takes.request in
    keeps-found c.args.cache.now c.take_found.new.self c.args.status c.args.pair.0 (reader_of c.args.pair.1) c.args.lock.now.table c.requires.may now

pub returns-in-Err-asked-clause-locks : goal.returns-in-Err-asked-clause-locks
returns-in-Err-asked-clause-locks g c n =
    let x = c.args.cache.now in
    let h = reader_of c.args.pair.1 in
    let name = sym c.in-Some.ensures.value in
    let same = subst (λ (o : Result (Option AskedLock) ErrorType). OnErr o (c.take_found.new.self ≡ x)) c.in-Err-asked.is c.in-Ok.ensures.takes.same_request in
    let table = subst (λ (o : Result (Option AskedLock) ErrorType). OnErr o (c.take_found.new.lock.table ≡ c.args.lock.now.table)) c.in-Err-asked.is c.in-Ok.ensures.takes.same_table in
    untaken-locks n c.args.now Done c.args.status c.args.lock.now.table c.take_found.new.lock.table x c.take_found.new.self c.in-Some.key.now h c.note_access.new.events.items table same
    (c.note_access.ensures.events ∙ (λ i. c.requires.none i ++ (ap noting c.in-Ok.ensures.access ∙ noted-access c.args.status c.in-Some.key.now h x name) i))

pub returns-in-Err-clause-locks : goal.returns-in-Err-clause-locks
returns-in-Err-clause-locks g c n = none_noted n c.args.now Done c.args.events.now.items c.args.cache.now.held c.take_found.new.self.held c.args.lock.now.table c.take_found.new.lock.table c.requires.none (ap (λ (z : Request). z.held) c.in-Err.ensures.takes.same_request) c.in-Err.ensures.takes.same_table

pub returns-in-Ok-asked-clause-locks : goal.returns-in-Ok-asked-clause-locks
returns-in-Ok-asked-clause-locks g c n =
    let name = sym c.in-Some.ensures.value in
    let x = c.args.cache.now in
    let t = c.args.lock.now.table in
    let h = reader_of c.args.pair.1 in
    let s = c.args.status in
    let a = c.in-Ok-asked.asked in
    let given = subst (λ (o : Result (Option AskedLock) ErrorType). IfOk o (λ q. q ≡ asked_by_found s t x)) c.in-Ok-asked.is c.in-Ok.ensures.asked in
    let now = subst (λ (o : Result (Option AskedLock) ErrorType). OnOk o (c.take_found.new.self ≡ found_row s c.args.pair.0 h t x)) c.in-Ok-asked.is c.in-Ok.ensures.takes.request in
    let table = subst (λ (o : Result (Option AskedLock) ErrorType). OnOk o (c.take_found.new.lock.table ≡ table_found s c.args.now x t)) c.in-Ok-asked.is c.in-Ok.ensures.takes.table in
    taken-locks n c.args.now Done s t c.take_found.new.lock.table x c.take_found.new.self c.in-Some.key.now c.args.pair.0 h c.slot-slot.result a c.note_lock-kind.new.events.items name c.slot-slot.ensures given now table
    (c.note_lock-kind.ensures.events ∙ ap (λ es. es ++ asking c.slot-slot.result a) (c.note_access.ensures.events ∙ (λ i. c.requires.none i ++ (ap noting c.in-Ok.ensures.access ∙ noted-access s c.in-Some.key.now h x name) i)))

pub returns-in-Err-asked-clause-answers : goal.returns-in-Err-asked-clause-answers
returns-in-Err-asked-clause-answers g c =
    let key = c.in-Some.key.now in
    let s = c.args.status in
    let x = c.args.cache.now in
    let t = c.args.lock.now.table in
    let h = reader_of c.args.pair.1 in
    let name = sym c.in-Some.ensures.value in
    let noted : c.note_access.new.events.items ≡ accesses s key h x = c.note_access.ensures.events ∙ (λ i. c.requires.none i ++ (ap noting c.in-Ok.ensures.access ∙ noted-access s key h x name) i) in
    let kind = subst (λ (o : Result (Option AskedLock) ErrorType). IfErr o (λ e. MayFailLock t e)) c.in-Err-asked.is c.in-Ok.ensures.takes.kind in
    let numbers = subst (λ (o : Result (Option AskedLock) ErrorType). IfErr o (λ e. e ≡ NumbersExhausted → IsTrue (asks_for_hit s x))) c.in-Err-asked.is c.in-Ok.ensures.takes.numbers in
    let refusal = lock-refused c.args.store.now.state t x (asks_for_hit s x) c.in-Err-asked.refused kind numbers in
    inr (key, name, inl (c.in-Err-asked.refused, refusal, ap R.Refused c.etype-in-Err-asked.ensures, noted))
