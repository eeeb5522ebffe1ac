use Rattle.cache_simulation.proofs.Words.{◌∙◌, ◌++◌, List, ap, sym, subst, Request, HasPlayed}
use Rattle.cache_simulation.proofs.player.Player.play.Goals as goal

pub returns-clause-asked : goal.returns-clause-asked
returns-clause-asked g c = λ before asked (made, played, is).
    subst (λ (r : List Request). HasPlayed before r c.play.new.self) (ap (λ b. made ++ b) c.as_slice.ensures.value ∙ sym is) (c.in_ok-play.ensures.served before made played)
