use Rattle.cache_simulation.proofs.Words.{refl, [], ◌∷◌, on_ok_weaker}
use Rattle.cache_simulation.proofs.Visits.{shield-more, made-of}
use Rattle.cache_simulation.proofs.tiers.Tiers.ask_shield.Goals as goal

pub returns-in-Some-clause-served : goal.returns-in-Some-clause-served
returns-in-Some-clause-served c = on_ok_weaker c.play.result (λ serves. λ own behind had.
    shield-more (c.args.asked.now ∷ []) own behind c.args.self.now _ c.in-Some.shield c.play.new.self refl refl refl refl c.in-Some.is refl
    (made-of c.from_ref.result.now (c.args.asked.now ∷ []) c.in-Some.shield c.play.new.self c.from_ref.ensures.value serves c.play.ensures.shape) had) c.play.ensures.served
