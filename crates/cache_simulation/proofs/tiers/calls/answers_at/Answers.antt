use Rattle.cache_simulation.proofs.Words.{◌≡◌, ◌∙◌, Bool, nat_lt, ap, sym, get_or, IfOk-weaker, Cache, hits_in}
use Rattle.cache_simulation.proofs.Visits.{hits-changed}
use Rattle.cache_simulation.proofs.tiers.calls.answers_at.Goals as goal

pub returns-clause-hit : goal.returns-clause-hit
returns-clause-hit c =
    let nodes = c.args.nodes.now in
    let n = c.args.number in
    let old = c.index-nodes-number.result in
    let new = c.answers.new.cache in
    IfOk-weaker c.answers.result (λ (is : Bool). is ≡ nat_lt (hits_in (get_or nodes n old)) (hits_in new)) _
    (λ is told. hits-changed nodes n old new is c.requires c.index-nodes-number.is (told ∙ ap (λ (x : Cache). nat_lt (hits_in x) (hits_in new)) (sym c.index-nodes-number.is))) c.answers.ensures.hit
