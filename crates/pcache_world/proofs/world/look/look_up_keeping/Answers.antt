use Rattle.std.proofs.Common.{option_map}
use Rattle.pcache_request.specs.Requests.{Request}
use Rattle.pcache_store.specs.Store.{Reader}
use Rattle.pcache_world.proofs.Words.{◌≡◌, Some, ap, sym, subst, ◌∙◌, Option, refl, Key, OutOfMemory, TransientError, Meta, decision_taken, MayLookUp, found_for, LookUp, reader_of, MemHitHandler, Nothing, deeds_by, KeepsKey, Ongoing, looked_by, Looks, MovesLocks, MovesStore, facts_in, noted_look, LookNote, held_with}
use Rattle.pcache_world.proofs.LockSteps.{none_noted}
use Rattle.pcache_world.proofs.Looking.{heard, held-after, look-answers, look-keeps, look-locks, look-moves, look-row, refused-moves, taken-decision}
use Rattle.pcache_world.proofs.world.look.look_up_keeping.Goals as goal

pub returns-in-Err-clause-moves : goal.returns-in-Err-clause-moves
returns-in-Err-clause-moves c =
    let r : Request = c.request.inside.cache in
    let pair : Option (Meta × Reader) = option_map (λ p. (p.0, reader_of p.1)) c.request.inside.pair in
    let x : Ongoing = held_with c.request.inside.carried pair r in
    let y : Ongoing = held_with c.request.inside.carried pair c.look_up.new.self in
    subst (λ (z : Ongoing). MovesStore (Some z) c.args.store.now.state c.args.events.now.items (Some y) c.look_up.new.storage.state) c.request.view_is
    (refused-moves c.args.store.now.state c.look_up.new.storage.state x y c.in-Some.key.now c.in-Err.refused OutOfMemory c.args.events.now.items (sym c.in-Some.ensures.value) c.requires.none (ap (held_with c.request.inside.carried pair) c.in-Err.ensures.looks.same_request) c.in-Err.ensures.refused)

pub returns-in-Err-clause-locks : goal.returns-in-Err-clause-locks
returns-in-Err-clause-locks c n =
    let r : Request = c.request.inside.cache in
    let y : Request = c.look_up.new.self in
    let es = c.args.events.now.items in
    subst (λ (z : Ongoing). MovesLocks n (deeds_by n c.args.now TransientError es) z.request.held c.args.lock.now.table y.held c.look_up.new.lock.table) c.request.view_is
    (none_noted n c.args.now TransientError es r.held y.held c.args.lock.now.table c.look_up.new.lock.table c.requires.none (ap (λ (z : Request). z.held) c.in-Err.ensures.looks.same_request) c.in-Err.ensures.looks.same_table)

pub returns-clause-answers : goal.returns-clause-answers
returns-clause-answers c =
    let s = c.args.store.now.state in
    let t = c.args.lock.now.table in
    let r : Request = c.request.inside.cache in
    let y : Request = c.look_up.new.self in
    let pair : Option (Meta × Reader) = option_map (λ p. (p.0, reader_of p.1)) c.request.inside.pair in
    let x : Ongoing = held_with c.request.inside.carried pair r in
    let k : Key = c.in-Some.key.now in
    let l : LookUp MemHitHandler = c.in-Ok.looked in
    let m : LookNote = c.look_up.new.witness in
    let n : LookNote = record { slot = c.slot-slot.result; write = c.write_number.result; kept = c.args.kept; answer = Nothing } in
    let named : r.key ≡ Some k = sym c.in-Some.ensures.value in
    let kept : c.args.kept ≡ option_map (λ q. q.0) (found_for s r.key) = subst (λ (z : Ongoing). c.args.kept ≡ option_map (λ q. q.0) (found_for s z.request.key)) (sym c.request.view_is) c.requires.kept in
    let h = heard (found_for s r.key) n m c.in-Ok.ensures.heard refl kept in
    let own = taken-decision s x y m.answer c.policy_of-policy.result c.look_up.new.policy h.2 c.policy_of-policy.ensures c.in-Ok.ensures.decides in
    let all = c.note_look.ensures.events ∙ (λ i. noted_look ((h.0 ∙ c.slot-slot.ensures) i) m.answer ((h.1 ∙ c.write_number.ensures.write) i) l) in
    subst (λ (z : Ongoing). Looks (facts_in s t z.request) z c.note_look.result c.note_look.new.events.items) c.request.view_is
    (look-answers s t x k m.answer (decision_taken s r y) named h.2 own l c.note_look.result c.note_look.new.events.items c.in-Ok.ensures.looks.found c.in-Ok.ensures.looks.told c.note_look.ensures.reply all)

pub returns-clause-moves : goal.returns-clause-moves
returns-clause-moves c =
    let s = c.args.store.now.state in
    let t = c.args.lock.now.table in
    let r : Request = c.request.inside.cache in
    let y : Request = c.look_up.new.self in
    let pair : Option (Meta × Reader) = option_map (λ p. (p.0, reader_of p.1)) c.request.inside.pair in
    let x : Ongoing = held_with c.request.inside.carried pair r in
    let k : Key = c.in-Some.key.now in
    let l : LookUp MemHitHandler = c.in-Ok.looked in
    let m : LookNote = c.look_up.new.witness in
    let n : LookNote = record { slot = c.slot-slot.result; write = c.write_number.result; kept = c.args.kept; answer = Nothing } in
    let named : r.key ≡ Some k = sym c.in-Some.ensures.value in
    let kept : c.args.kept ≡ option_map (λ q. q.0) (found_for s r.key) = subst (λ (z : Ongoing). c.args.kept ≡ option_map (λ q. q.0) (found_for s z.request.key)) (sym c.request.view_is) c.requires.kept in
    let h = heard (found_for s r.key) n m c.in-Ok.ensures.heard refl kept in
    let own = taken-decision s x y m.answer c.policy_of-policy.result c.look_up.new.policy h.2 c.policy_of-policy.ensures c.in-Ok.ensures.decides in
    let all = c.note_look.ensures.events ∙ (λ i. noted_look ((h.0 ∙ c.slot-slot.ensures) i) m.answer ((h.1 ∙ c.write_number.ensures.write) i) l) in
    subst (λ (z : Ongoing). MovesStore (Some z) s c.note_look.new.events.items (Some c.note_look.new.request) c.note_look.new.store.state) c.request.view_is
    (look-moves s t x k m.answer (decision_taken s r y) named h.2 own l y c.note_look.new.request c.look_up.new.storage.state c.note_look.new.store.state c.note_look.new.events.items c.in-Ok.ensures.looks.found c.in-Ok.ensures.looks.told c.in-Ok.ensures.looks.request c.in-Ok.ensures.looks.unlocked_request c.in-Ok.ensures.looks.store c.note_look.ensures.store c.note_look.ensures.request all)

pub returns-clause-keeps : goal.returns-clause-keeps
returns-clause-keeps c =
    let s = c.args.store.now.state in
    let t = c.args.lock.now.table in
    let r : Request = c.request.inside.cache in
    let y : Request = c.look_up.new.self in
    let pair : Option (Meta × Reader) = option_map (λ p. (p.0, reader_of p.1)) c.request.inside.pair in
    let x : Ongoing = held_with c.request.inside.carried pair r in
    let k : Key = c.in-Some.key.now in
    let l : LookUp MemHitHandler = c.in-Ok.looked in
    let m : LookNote = c.look_up.new.witness in
    let n : LookNote = record { slot = c.slot-slot.result; write = c.write_number.result; kept = c.args.kept; answer = Nothing } in
    let named : r.key ≡ Some k = sym c.in-Some.ensures.value in
    let kept : c.args.kept ≡ option_map (λ q. q.0) (found_for s r.key) = subst (λ (z : Ongoing). c.args.kept ≡ option_map (λ q. q.0) (found_for s z.request.key)) (sym c.request.view_is) c.requires.kept in
    let h = heard (found_for s r.key) n m c.in-Ok.ensures.heard refl kept in
    let own = taken-decision s x y m.answer c.policy_of-policy.result c.look_up.new.policy h.2 c.policy_of-policy.ensures c.in-Ok.ensures.decides in
    let kept : KeepsKey (Some x) (Some c.note_look.new.request) = look-keeps s t x k m.answer (decision_taken s r y) named h.2 own l y c.note_look.new.request c.in-Ok.ensures.looks.found c.in-Ok.ensures.looks.told c.in-Ok.ensures.looks.request c.in-Ok.ensures.looks.unlocked_request c.note_look.ensures.request in
    subst (λ (z : Ongoing). KeepsKey (Some z) (Some c.note_look.new.request)) c.request.view_is kept

pub returns-clause-row : goal.returns-clause-row
returns-clause-row c =
    let s = c.args.store.now.state in
    let t = c.args.lock.now.table in
    let r : Request = c.request.inside.cache in
    let y : Request = c.look_up.new.self in
    let pair : Option (Meta × Reader) = option_map (λ p. (p.0, reader_of p.1)) c.request.inside.pair in
    let x : Ongoing = held_with c.request.inside.carried pair r in
    let k : Key = c.in-Some.key.now in
    let l : LookUp MemHitHandler = c.in-Ok.looked in
    let m : LookNote = c.look_up.new.witness in
    let n : LookNote = record { slot = c.slot-slot.result; write = c.write_number.result; kept = c.args.kept; answer = Nothing } in
    let named : r.key ≡ Some k = sym c.in-Some.ensures.value in
    let kept : c.args.kept ≡ option_map (λ q. q.0) (found_for s r.key) = subst (λ (z : Ongoing). c.args.kept ≡ option_map (λ q. q.0) (found_for s z.request.key)) (sym c.request.view_is) c.requires.kept in
    let h = heard (found_for s r.key) n m c.in-Ok.ensures.heard refl kept in
    let own = taken-decision s x y m.answer c.policy_of-policy.result c.look_up.new.policy h.2 c.policy_of-policy.ensures c.in-Ok.ensures.decides in
    let all = c.note_look.ensures.events ∙ (λ i. noted_look ((h.0 ∙ c.slot-slot.ensures) i) m.answer ((h.1 ∙ c.write_number.ensures.write) i) l) in
    subst (λ (z : Ongoing). c.note_look.new.request ≡ looked_by c.note_look.new.events.items z) c.request.view_is
    (look-row s t x k m.answer (decision_taken s r y) named h.2 own l y c.note_look.new.request c.note_look.new.events.items (subst (λ (z : Ongoing). MayLookUp z.request.phase) (sym c.request.view_is) c.requires.may) c.in-Ok.ensures.looks.found c.in-Ok.ensures.looks.told c.in-Ok.ensures.looks.request c.in-Ok.ensures.looks.unlocked_request c.note_look.ensures.request all)

pub returns-clause-locks : goal.returns-clause-locks
returns-clause-locks c q =
    let s = c.args.store.now.state in
    let t = c.args.lock.now.table in
    let r : Request = c.request.inside.cache in
    let y : Request = c.look_up.new.self in
    let pair : Option (Meta × Reader) = option_map (λ p. (p.0, reader_of p.1)) c.request.inside.pair in
    let x : Ongoing = held_with c.request.inside.carried pair r in
    let k : Key = c.in-Some.key.now in
    let l : LookUp MemHitHandler = c.in-Ok.looked in
    let m : LookNote = c.look_up.new.witness in
    let n : LookNote = record { slot = c.slot-slot.result; write = c.write_number.result; kept = c.args.kept; answer = Nothing } in
    let named : r.key ≡ Some k = sym c.in-Some.ensures.value in
    let kept : c.args.kept ≡ option_map (λ q. q.0) (found_for s r.key) = subst (λ (z : Ongoing). c.args.kept ≡ option_map (λ q. q.0) (found_for s z.request.key)) (sym c.request.view_is) c.requires.kept in
    let h = heard (found_for s r.key) n m c.in-Ok.ensures.heard refl kept in
    let own = taken-decision s x y m.answer c.policy_of-policy.result c.look_up.new.policy h.2 c.policy_of-policy.ensures c.in-Ok.ensures.decides in
    let all = c.note_look.ensures.events ∙ (λ i. noted_look ((h.0 ∙ c.slot-slot.ensures) i) m.answer ((h.1 ∙ c.write_number.ensures.write) i) l) in
    let goes = look-locks s t x k m.answer (decision_taken s r y) named h.2 own q c.args.now l y c.look_up.new.lock.table c.note_look.new.events.items c.in-Ok.ensures.looks.found c.in-Ok.ensures.looks.told c.in-Ok.ensures.looks.request c.in-Ok.ensures.looks.unlocked_request c.in-Ok.ensures.looks.table c.in-Ok.ensures.looks.unlocked_table all in
    let same : y.held ≡ c.note_look.new.request.request.held = sym (ap (λ (z : Ongoing). z.request.held) c.note_look.ensures.request ∙ held-after l (held_with c.request.inside.carried pair y)) in
    subst (λ (z : Ongoing). MovesLocks q (deeds_by q c.args.now TransientError c.note_look.new.events.items) z.request.held t c.note_look.new.request.request.held c.look_up.new.lock.table) c.request.view_is
    (subst (λ o. MovesLocks q (deeds_by q c.args.now TransientError c.note_look.new.events.items) r.held t o c.look_up.new.lock.table) same goes)
