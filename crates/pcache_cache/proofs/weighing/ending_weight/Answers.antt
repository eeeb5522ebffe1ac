use Rattle.pcache_cache.proofs.Words.{ap, option_map, sym, ◌∙◌, ending_weight, weight_of}
use Rattle.pcache_cache.proofs.weighing.ending_weight.Goals as goal

pub returns-in-Some : goal.returns-in-Some
returns-in-Some c =
    c.weight_of.ensures ∙ ap (weight_of c.args.weighing) c.lengths.ensures
    ∙ ap (λ o. ending_weight c.args.weighing c.args.store.now.state (option_map (λ w. w.now.number) o)) (sym c.in-Some.is)
