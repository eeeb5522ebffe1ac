use Rattle.pcache_table.specs.Numbers.{first_key}
use Rattle.pcache_store.proofs.Words.{sym, ◌∙◌, ap, entries_of}
use Rattle.pcache_store.proofs.memory.untouched.least_of.Goals as goal

pub returns-in-Some : goal.returns-in-Some
returns-in-Some c = ap first_key (sym c.in-Some.ensures.steps ∙ c.iter.ensures.rest ∙ sym (entries_of c.args.numbers.now.entries c.iter.ensures.ordered))

pub returns-in-None : goal.returns-in-None
returns-in-None c = ap first_key (sym c.in-None.ensures.steps.0 ∙ c.iter.ensures.rest ∙ sym (entries_of c.args.numbers.now.entries c.iter.ensures.ordered))
