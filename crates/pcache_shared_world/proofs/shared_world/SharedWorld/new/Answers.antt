use Rattle.pcache_shared_world.specs.Opened.{Opened}
use Rattle.pcache_shared_world.proofs.Words.{◌≡◌, ◌<◌, [], length, ◌+◌, ◌-◌, List, ◌∷◌, sym, ap, ◌∙◌, subst, arith, length-append, All, All-push, Receipt, Entry, keeper}
use Rattle.pcache_shared_world.proofs.Moves.{deals_as}
use Rattle.pcache_shared_world.proofs.Calls.{keeper_is, relieved_is}
use Rattle.pcache_shared_world.proofs.shared_world.SharedWorld.new.Goals as goal

pub split_seat-seat-requires : goal.split_seat-seat-requires
split_seat-seat-requires g c =
    let i = c.loop-made.invariant in
    let some_part : 0 < c.loop-made.keeper.me.0.parts = omega (arith, i.3, c.loop-made.auto.made-fits) in
    (i.1 ∙ sym (ap (λ (o : Opened). o.table) (c.opening.view_is ∙ c.requires)), c.opening.invariant.1, deals_as _ _ (keeper_is _ _ _ _ i.2) some_part)

pub loop-made-preserved : goal.loop-made-preserved
loop-made-preserved g c =
    let i = c.loop-made.invariant in
    let s = c.split_seat-seat.ensures in
    let p = c.push_reserved.ensures in
    let q = c.loop-made.keeper.me.0.parts - 1 in
    let one : c.loop-made.keeper.me.0.parts ≡ q + 1 = omega (arith, i.3, c.loop-made.auto.made-fits) in
    let was = i.2 ∙ ap (λ k. (keeper {E = Entry} k [] [], [])) one in
    let now = relieved_is _ _ q [] [] was s.2 in
    let parts = ap (λ m. m.0.parts) now in (
      omega (arith, c.loop-made-test.true),
      s.0 ∙ i.1,
      now ∙ ap (λ k. (keeper {E = Entry} k [] [], [])) (sym parts),
      omega (arith, parts, one, i.3),
      omega (arith, p.len, i.4),
      omega (arith, ap length p.items, length-append c.loop-made.shares.items (c.of_seat.result ∷ []), i.5),
      p.capacity ∙ i.6,
      subst (All (λ (s : List Receipt). s ≡ [])) (sym p.items) (All-push (λ (s : List Receipt). s ≡ []) c.loop-made.shares.items c.of_seat.result i.7 c.of_seat.ensures),
    )
