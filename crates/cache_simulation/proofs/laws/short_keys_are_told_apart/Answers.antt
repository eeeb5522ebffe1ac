use Rattle.cache_simulation.proofs.ToldApart.{told-apart}
use Rattle.cache_simulation.proofs.laws.short_keys_are_told_apart.Goals as goal

pub returns : goal.returns
returns c = told-apart
