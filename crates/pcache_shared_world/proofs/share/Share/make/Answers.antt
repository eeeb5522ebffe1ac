use Rattle.pcache_shared_world.proofs.Words.{ℕ, List, [], ◌∷◌, ◌++◌, map, length, sym, ap, ◌∙◌, subst, Entry, receipt_of, Rises, places}
use Rattle.pcache_shared_world.proofs.Calls.{slip_is, rises_snoc, receipts_snoc}
use Rattle.pcache_shared_world.proofs.share.Share.make.Goals as goal

pub invariant_of-self-2 : goal.invariant_of-self-2
invariant_of-self-2 g c =
    let i = c.self.invariant in
    let m = c.in-Ok-made.ensures in
    let r = c.in-Ok-made.receipt in
    let s = length g.K.Mark.opened.log.history in
    let old = c.self.inside.seat.me.0.claims in
    let n = m.ok.1.0 in
    let e = m.ok.1.1.0 in
    let new = ap (λ me. me.0.claims) m.ok.1.1.3 in
    let items = c.push_reserved.ensures.items ∙ ap (λ l. l ++ r ∷ []) c.reserve.ensures.items in (
      m.kept,
      slip_is _ _ m.ok.1.1.3,
      items ∙ (receipts_snoc s n r e old c.self.inside.receipts.items i.2 m.ok.1.1.2 m.ok.1.1.1 ∙ sym (ap (map (receipt_of s)) new)),
      subst (λ (l : List (ℕ × Entry)). Rises (places l)) (sym new) (rises_snoc old n e i.3 m.ok.1.1.4),
    )
