use Rattle.std.proofs.Common.{rules}
use Rattle.std.proofs.lemmas.Fn.{filter_same}
use Rattle.cache_simulation.proofs.Words.{◌==◌, not}
use Rattle.cache_simulation.proofs.tiers.Tiers.take_away.Goals as goal

pub returns-clause-there : goal.returns-clause-there
returns-clause-there c = filter_same _ (λ n. not (n == c.args.node)) _ (λ n b f' k. search rules) _ _ c.retain.ensures.filtered
