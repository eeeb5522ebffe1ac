use Rattle.pcache_world.proofs.Words.{◌∙◌, ap, slot, write_in, taking}
use Rattle.pcache_world.proofs.PutFed.{declined-moves, ends-declined, ends-on, ends-refused, goes-moves, goes-puts, left-drop, not-over, noted-drop, refused-answers-of, refused-moves, refused-never, refused-noted, refused-puts, refused-unwritten}
use Rattle.pcache_world.proofs.world.puts.feed_in.Goals as goal

pub returns-in-GoesOn-clause-moves : goal.returns-in-GoesOn-clause-moves
returns-in-GoesOn-clause-moves g c =
    goes-moves (taking c.args.ctx.now) (taking c.take_piece-began.new.self) c.args.store.now.state c.take_piece-began.new.storage.state c.take_piece-began.result.began c.take_piece-began.result.wrote c.slot-slot.result (c.slot-slot.ensures ∙ ap slot c.key.ensures) c.take_piece-began.ensures.began c.take_piece-began.ensures.store
    c.write_of.result c.args.events.now.items c.note_piece.new.events.items c.requires.none c.write_of.ensures.write (ends-on _ _ _ _ c.in-GoesOn.is c.take_piece-began.ensures.ends) c.note_piece.ensures.events

pub returns-in-NotCached-clause-moves : goal.returns-in-NotCached-clause-moves
returns-in-NotCached-clause-moves g c =
    let how = ends-declined _ _ _ _ _ c.in-NotCached.is c.take_piece-began.ensures.ends in
    declined-moves (taking c.args.ctx.now) (taking c.take_piece-began.new.self) c.args.store.now.state c.take_piece-began.new.storage.state c.take_piece-began.result.began c.take_piece-began.result.wrote c.slot-slot.result (c.slot-slot.ensures ∙ ap slot c.key.ensures) c.take_piece-began.ensures.began c.take_piece-began.ensures.store
    c.args.events.now.items c.requires.none how.1 (ap write_in how.0)

pub returns-in-Refused-clause-moves : goal.returns-in-Refused-clause-moves
returns-in-Refused-clause-moves g c =
    let how = ends-refused _ _ _ _ _ _ c.in-Refused.is c.take_piece-began.ensures.ends in
    refused-moves (taking c.args.ctx.now) (taking c.take_piece-began.new.self) c.args.store.now.state c.take_piece-began.new.storage.state c.take_piece-began.result.began c.take_piece-began.result.wrote c.slot-slot.result (c.slot-slot.ensures ∙ ap slot c.key.ensures) c.take_piece-began.ensures.began c.take_piece-began.ensures.store
    c.drop_write.new.store.state c.number_in.result c.args.events.now.items c.note_piece-in-Refused.new.events.items c.drop_write.new.events.items c.requires.none (c.number_in.ensures ∙ how.1) (ap write_in how.0) c.note_piece-in-Refused.ensures.events (noted-drop _ _ _ _ c.number_in.ensures c.drop_write.ensures.events) (left-drop _ _ _ _ c.number_in.ensures c.drop_write.ensures.store)

pub returns-in-Refused-clause-answers : goal.returns-in-Refused-clause-answers
returns-in-Refused-clause-answers g c t some =
    let e = c.take_piece-began.ensures in
    let b = c.take_piece-began.result in
    let how = ends-refused _ _ _ _ _ _ c.in-Refused.is e.ends in
    let unwritten = refused-unwritten b.end c.in-Refused.refused c.in-Refused.writer b.wrote c.in-Refused.is e.refused in
    refused-answers-of c.args.store.now.state t g.P.PutPolicy.says (taking c.args.ctx.now) some.0 some.1 b.end b.began c.in-Refused.refused c.etype.result c.in-Refused.writer c.number_in.result c.slot-slot.result c.drop_write.new.events.items
    some.2 e.again c.in-Refused.is c.etype.ensures e.began e.kind e.whether (c.number_in.ensures ∙ how.1) (c.slot-slot.ensures ∙ ap slot c.key.ensures)
    (refused-noted _ _ _ b.began b.wrote _ _ _ c.requires.none c.note_piece-in-Refused.ensures.events unwritten c.number_in.ensures c.drop_write.ensures.events)
    some.3 (refused-never (taking c.args.ctx.now) b.end c.in-Refused.refused c.in-Refused.writer c.in-Refused.is (λ whole. ap (λ r. r.end) (e.ignored whole)))

pub returns-in-GoesOn-clause-puts : goal.returns-in-GoesOn-clause-puts
returns-in-GoesOn-clause-puts g c =
    let p = taking c.args.ctx.now in
    let b = c.take_piece-began.result in
    goes-puts g.P.PutPolicy.says p (taking c.take_piece-began.new.self) c.args.bytes.now c.args.now c.args.store.now.state.next c.slot-slot.result b.began b.wrote c.write_of.result c.args.events.now.items c.note_piece.new.events.items c.take_piece-began.ensures.began (not-over p.stage b.end c.take_piece-began.ensures.again c.in-GoesOn.is) c.take_piece-began.ensures.taken
    c.requires.none c.write_of.ensures.write (ends-on _ _ _ _ c.in-GoesOn.is c.take_piece-began.ensures.ends) c.note_piece.ensures.events (λ whole. (ap (λ r. r.began) (c.take_piece-began.ensures.ignored whole), ap (λ r. r.wrote) (c.take_piece-began.ensures.ignored whole))) c.take_piece-began.ensures.last c.take_piece-began.ensures.begun

pub returns-in-Refused-clause-puts : goal.returns-in-Refused-clause-puts
returns-in-Refused-clause-puts g c =
    let p = taking c.args.ctx.now in
    let e = c.take_piece-began.ensures in
    let b = c.take_piece-began.result in
    let unwritten = refused-unwritten b.end c.in-Refused.refused c.in-Refused.writer b.wrote c.in-Refused.is e.refused in
    refused-puts g.P.PutPolicy.says p (taking c.take_piece-began.new.self) c.args.bytes.now c.args.now c.slot-slot.result b.began b.wrote c.in-Refused.refused c.etype.result c.number_in.result c.drop_write.new.events.items e.taken (ends-refused _ _ _ _ _ _ c.in-Refused.is e.ends).0
    (refused-noted _ _ _ b.began b.wrote _ _ _ c.requires.none c.note_piece-in-Refused.ensures.events unwritten c.number_in.ensures c.drop_write.ensures.events) e.begun
    (refused-never p b.end c.in-Refused.refused c.in-Refused.writer c.in-Refused.is (λ whole. ap (λ r. r.end) (e.ignored whole)))
