use Rattle.cache_simulation.proofs.Words.{◌≡◌, refl, ap, [], ◌∷◌, length, arith, on_ok_weaker}
use Rattle.cache_simulation.proofs.Visits.{node-more, made-back, within-kept}
use Rattle.cache_simulation.proofs.tiers.Tiers.ask_node.Goals as goal

pub invariant_of-self : goal.invariant_of-self
invariant_of-self c =
    let slice = c.as_mut_slice.ensures.len in
    let kept = c.answers_at.auto.nodes in
    let own = ap length c.as_mut_slice.ensures.value in
    let long : length c.answers_at.new.nodes ≡ c.args.self.now.nodes.len = omega arith in
    let same : length c.answers_at.new.nodes ≡ length c.args.self.now.nodes.items = omega arith in
    record { within = within-kept c.args.self.now.there.items c.args.self.now.nodes.items c.answers_at.new.nodes _ c.args.self.now.nodes.len long same c.args.self.now.within }

pub returns-clause-served : goal.returns-clause-served
returns-clause-served c =
    let slice = c.as_mut_slice.ensures.len in
    let kept = c.answers_at.auto.nodes in
    let long : length c.answers_at.new.nodes ≡ c.args.self.now.nodes.len = omega arith in
    on_ok_weaker c.answers_at.result (λ made. λ own behind had.
    node-more c.args.number (c.args.asked.now ∷ []) own behind c.args.self.now _ refl refl refl refl
    (made-back c.args.number c.from_ref.result.now (c.args.asked.now ∷ []) c.as_mut_slice.result.now c.args.self.now.nodes.items c.answers_at.new.nodes _ c.args.self.now.nodes.len
    c.from_ref.ensures.value c.as_mut_slice.ensures.value long made) had) c.answers_at.ensures.made
