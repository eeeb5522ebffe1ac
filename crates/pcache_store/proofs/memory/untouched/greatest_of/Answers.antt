use Rattle.pcache_store.proofs.Greatest.{greatest_empty, greatest_upper}
use Rattle.pcache_store.proofs.memory.untouched.greatest_of.Goals as goal

pub returns-in-Some : goal.returns-in-Some
returns-in-Some c = greatest_upper c.args.numbers.now.entries c.in-Some.number.now tt c.in-Some.ensures.value c.in-Some.ensures.greatest

pub returns-in-None : goal.returns-in-None
returns-in-None c = greatest_empty c.args.numbers.now.entries c.in-None.ensures.variant.1
