use Rattle.std.proofs.lemmas.List.{append_assoc}
use mathlib.Core.Option.{none}
use Rattle.pcache_shared_world.proofs.Words.{rules, ◌≡◌, ◌<◌, List, [], ◌∷◌, ◌++◌, map, length, sym, ap, ◌∙◌, subst, arith, All, map-append, append-nil, All-push, TableId, step, Receipt, Rises, AreReceipts, evicted_after, receipt_of, joined, indices_of}
use Rattle.pcache_shared_world.proofs.Moves.{takes_in_as, settles_as}
use Rattle.pcache_shared_world.proofs.Calls.{keeper_is, followed_on}
use Rattle.pcache_shared_world.proofs.Closing.{none_left, joined_snoc, rises_of, closes}
use Rattle.pcache_shared_world.proofs.shared_world.SharedWorld.close.Goals as goal

pub join_seat-requires : goal.join_seat-requires
join_seat-requires g c =
    let room = c.args.self.room_is in
    let i = c.loop-share.invariant in
    let s = c.share.invariant in
    (i.0 ∙ sym room, s.0 ∙ sym room, ap (λ m. m.1) s.1, subst (λ (t : TableId). 0 < t.words) (sym room) c.args.self.word, takes_in_as _ _ _ _ i.1 s.1)

pub loop-share-preserved : goal.loop-share-preserved
loop-share-preserved g c =
    let i = c.loop-share.invariant in
    let s = c.share.invariant in
    let j = c.join_seat.ensures in
    let p = c.push_reserved.ensures in
    let n = length g.K.Mark.opened.log.history in
    let on = followed_on _ _ _ _ i.1 s.1 j.2 in
    let steps = ap length c.in-Some.ensures.steps.0 in
    let parts = ap (λ m. m.0.parts) on in
    let R : List Receipt → Type 0 = λ rs. Rises (indices_of rs) in (
      j.0 ∙ i.0,
      keeper_is _ _ _ _ on,
      omega (arith, parts, steps, i.2),
      ap (λ m. m.0.all) on ∙ i.3,
      omega (arith, steps, i.4, p.len, p.capacity),
      ap (λ l. joined (map (λ v. v.items) l)) p.items
          ∙ (joined_snoc (λ v. v.items) c.loop-share.all.items c.share.inside.receipts
          ∙ (ap (λ l. l ++ c.share.inside.receipts.items) i.5
          ∙ (ap (λ l. map (receipt_of n) c.loop-share.keeper.me.0.claims ++ l) s.2
          ∙ (sym (map-append (receipt_of n) c.loop-share.keeper.me.0.claims c.share.inside.seat.me.0.claims) ∙ sym (ap (λ m. map (receipt_of n) m.0.claims) on))))),
      subst (All R) (sym (ap (map (λ v. v.items)) p.items ∙ map-append (λ v. v.items) c.loop-share.all.items (c.share.inside.receipts ∷ [])))
          (All-push R (map (λ v. v.items) c.loop-share.all.items) c.share.inside.receipts.items i.6 (subst R (sym s.2) (rises_of n c.share.inside.seat.me.0.claims s.3))),
      ap (λ l. l ++ c.next.new.self.rest.items) (ap (map (λ v. v.items)) p.items ∙ map-append (λ v. v.items) c.loop-share.all.items (c.share.inside.receipts ∷ []))
          ∙ (append_assoc (map (λ v. v.items) c.loop-share.all.items) (c.share.inside.receipts.items ∷ []) c.next.new.self.rest.items
          ∙ (ap (λ (x : List Receipt). map (λ v. v.items) c.loop-share.all.items ++ x ∷ c.next.new.self.rest.items) c.share.view_is
          ∙ (ap (λ l. map (λ v. v.items) c.loop-share.all.items ++ l) (sym c.in-Some.ensures.steps.0) ∙ i.7))),
    )

pub load-requires : goal.load-requires
load-requires g c =
    let room = c.args.self.room_is in
    let i = c.loop-share.invariant in
    (i.0 ∙ sym room, subst (λ (t : TableId). 0 < t.words) (sym room) c.args.self.word, settles_as _ _ (step 0 0 0 0 none) _ _ (λ n. n) i.1)

pub returns-clause-lists : goal.returns-clause-lists
returns-clause-lists g c =
    let i = c.loop-share.invariant in
    let rest : length c.loop-share.share-iterator.rest.items ≡ 0 = search rules in
    let none = none_left c.loop-share.share-iterator.rest.items rest in
    sym (append-nil (map (λ v. v.items) c.loop-share.all.items)) ∙ (ap (λ l. map (λ v. v.items) c.loop-share.all.items ++ l) (sym none) ∙ i.7)

pub returns-clause-receipts : goal.returns-clause-receipts
returns-clause-receipts g c =
    let i = c.loop-share.invariant in
    let w = c.world.invariant in
    let rest : length c.loop-share.share-iterator.rest.items ≡ 0 = search rules in
    let none = none_left c.loop-share.share-iterator.rest.items rest in
    let same = sym (append-nil (map (λ v. v.items) c.loop-share.all.items)) ∙ (ap (λ l. map (λ v. v.items) c.loop-share.all.items ++ l) (sym none) ∙ i.7) in
    let settled = c.load.ensures.2.1 (omega (arith, rest, i.2)) in
    subst (AreReceipts g.K.Mark.opened.log.history c.world.inside.world.history) same
    (closes g.K.Mark.opened.log.history c.loop-share.keeper.me.0.all c.loop-share.keeper.me.0.claims c.world.inside.world.history (map (λ v. v.items) c.loop-share.all.items)
    (w.4 ∙ ap (λ l. g.K.Mark.opened.log.history ++ l) (sym i.3)) settled.0 settled.1 i.5 i.6)

pub returns-clause-grown : goal.returns-clause-grown
returns-clause-grown g c =
    let i = c.loop-share.invariant in
    let w = c.world.invariant in
    record { more = c.loop-share.keeper.me.0.all; history = w.4 ∙ ap (λ l. g.K.Mark.opened.log.history ++ l) (sym i.3); start = w.5; limits = w.6; age = w.7; evicted = w.8 ∙ ap (λ l. evicted_after g.K.Mark.opened.log l) (sym i.3) }
