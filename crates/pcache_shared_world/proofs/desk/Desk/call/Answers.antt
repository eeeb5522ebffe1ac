use Rattle.std.proofs.lemmas.List.{append_assoc}
use Rattle.pcache_shared_world.proofs.Words.{◌≡◌, [], ◌∷◌, ◌++◌, ◌+◌, length, ◌<◌, refl, sym, ap, ◌∙◌, subst, length-append, Entry, evicted_after, slip, some, TableId, step}
use Rattle.pcache_shared_world.proofs.Moves.{moves_as, deals_as, takes_in_as, adds_as}
use Rattle.pcache_shared_world.proofs.Lists.{get_pushed}
use Rattle.pcache_shared_world.proofs.Calls.{moved_is, slip_is, keeper_is, some_part, joined_is, added_is, relieved_is, dealt_is}
use Rattle.pcache_shared_world.proofs.Totals.{totals-grow}
use Rattle.pcache_shared_world.proofs.desk.Desk.call.Goals as goal

pub split_seat-moved-requires : goal.split_seat-moved-requires
split_seat-moved-requires g c =
    let room = c.requires.room in
    let seat = c.requires.seat in
    (seat.0 ∙ sym room.0, subst (λ (t : TableId). 0 < t.words) (sym room.0) room.1, moves_as _ _ seat.1)

pub join_seat-requires : goal.join_seat-requires
join_seat-requires g c =
    let room = c.requires.room in
    let seat = c.requires.seat in
    let i = c.self.invariant in
    let s = c.split_seat-moved.ensures in
    let moved = moved_is _ _ seat.1 s.4 in
    (i.0 ∙ sym room.0, s.3 ∙ (seat.0 ∙ sym room.0), ap (λ m. m.1) s.4, subst (λ (t : TableId). 0 < t.words) (sym room.0) room.1, takes_in_as _ _ _ _ i.1 (slip_is _ _ moved))

pub compare_exchange_with-requires : goal.compare_exchange_with-requires
compare_exchange_with-requires g c =
    let room = c.requires.room in
    let seat = c.requires.seat in
    let i = c.self.invariant in
    let s = c.split_seat-moved.ensures in
    let j = c.join_seat.ensures in
    let moved = moved_is _ _ seat.1 s.4 in
    let one = joined_is _ _ _ _ i.1 i.2 moved j.2 in
    (j.0 ∙ (i.0 ∙ sym room.0), subst (λ (t : TableId). 0 < t.words) (sym room.0) room.1, adds_as _ _ c.entry_at-entry.result.now (step 0 0 0 0 (some c.entry_at-entry.result.now)) _ _ (λ n. n) (keeper_is _ _ _ _ one) refl (some_part _ _ _ _ one))

pub split_seat-requires : goal.split_seat-requires
split_seat-requires g c =
    let room = c.requires.room in
    let seat = c.requires.seat in
    let i = c.self.invariant in
    let s = c.split_seat-moved.ensures in
    let j = c.join_seat.ensures in
    let a = c.compare_exchange_with.ensures in
    let moved = moved_is _ _ seat.1 s.4 in
    let one = joined_is _ _ _ _ i.1 i.2 moved j.2 in
    let two = added_is _ _ _ _ _ c.entry_at-entry.result.now (step 0 0 0 0 (some c.entry_at-entry.result.now)) 0 one refl a.2 in
    (a.0 ∙ (j.0 ∙ (i.0 ∙ sym room.0)), subst (λ (t : TableId). 0 < t.words) (sym room.0) room.1, deals_as _ _ (keeper_is _ _ _ _ two.0) (some_part _ _ _ _ two.0))

pub invariant_of-self-2 : goal.invariant_of-self-2
invariant_of-self-2 g c =
    let seat = c.requires.seat in
    let i = c.self.invariant in
    let s = c.split_seat-moved.ensures in
    let j = c.join_seat.ensures in
    let a = c.compare_exchange_with.ensures in
    let d = c.split_seat.ensures in
    let ok = c.in_ok-reply.ensures.ok in
    let e : Entry = record { call = c.args.call; reply = c.in_ok-reply.reply; events = ok.events } in
    let moved = moved_is _ _ seat.1 s.4 in
    let one = joined_is _ _ _ _ i.1 i.2 moved j.2 in
    let two = added_is _ _ _ _ _ c.entry_at-entry.result.now (step 0 0 0 0 (some c.entry_at-entry.result.now)) 0 one refl a.2 in
    let kept = relieved_is _ _ _ _ _ two.0 d.2 in
    let same : c.entry_at-entry.result.now ≡ e = get_pushed c.self.inside.world.history c.step.new.self.history e c.entry_at-entry.result.now _ ok.history (ap length c.history-index.ensures.entries) c.entry_at-entry.ensures in (
      d.0 ∙ (a.0 ∙ (j.0 ∙ i.0)),
      keeper_is _ _ _ _ kept,
      ap (λ m. m.0.claims) kept,
      ap (λ m. m.0.parts + g.K.Mark.opened.shares) kept ∙ i.3,
      ok.history ∙ (ap (λ l. l ++ e ∷ []) i.4 ∙ (append_assoc g.K.Mark.opened.log.history c.self.inside.keeper.me.0.all (e ∷ []) ∙ (ap (λ (x : Entry). g.K.Mark.opened.log.history ++ (c.self.inside.keeper.me.0.all ++ x ∷ [])) (sym same) ∙ ap (λ m. g.K.Mark.opened.log.history ++ m.0.all) (sym kept)))),
      ok.start ∙ i.5,
      ok.limits ∙ i.6,
      ok.age ∙ i.7,
      totals-grow g.K.Mark.opened.log c.self.inside.world c.step.new.self c.self.inside.keeper.me.0.all c.args.call c.in_ok-reply.reply ok e refl i.4 i.5 i.8
          ∙ (ap (λ (x : Entry). evicted_after g.K.Mark.opened.log (c.self.inside.keeper.me.0.all ++ x ∷ [])) (sym same) ∙ ap (λ m. evicted_after g.K.Mark.opened.log m.0.all) (sym kept)),
    )

pub returns-clause-ok : goal.returns-clause-ok
returns-clause-ok g c =
    let seat = c.requires.seat in
    let i = c.self.invariant in
    let s = c.split_seat-moved.ensures in
    let j = c.join_seat.ensures in
    let a = c.compare_exchange_with.ensures in
    let d = c.split_seat.ensures in
    let ok = c.in_ok-reply.ensures.ok in
    let e : Entry = record { call = c.args.call; reply = c.in_ok-reply.reply; events = ok.events } in
    let moved = moved_is _ _ seat.1 s.4 in
    let one = joined_is _ _ _ _ i.1 i.2 moved j.2 in
    let two = added_is _ _ _ _ _ c.entry_at-entry.result.now (step 0 0 0 0 (some c.entry_at-entry.result.now)) 0 one refl a.2 in
    let dealt = dealt_is _ _ _ _ _ two.0 d.4 in
    let same : c.entry_at-entry.result.now ≡ e = get_pushed c.self.inside.world.history c.step.new.self.history e c.entry_at-entry.result.now _ ok.history (ap length c.history-index.ensures.entries) c.entry_at-entry.ensures in
    let n = length c.self.inside.keeper.me.0.all in (
      c.requires.copy,
      (
        n,
        (
          e,
          (sym c.requires.copy, refl),
          ap length c.history-index.ensures.entries ∙ (ap length i.4 ∙ length-append g.K.Mark.opened.log.history c.self.inside.keeper.me.0.all),
          dealt ∙ ap (λ (x : Entry). (slip (c.args.seat.now.me.0.claims ++ (n, x) ∷ []), [])) same,
          two.1,
        ),
      ),
    )
