use Rattle.std.proofs.lemmas.List.{take_rest}
use Rattle.pcache_control.proofs.Lists.{items_at, items_whole}
use Rattle.pcache_http.proofs.Words.{sym, ◌∙◌}
use Rattle.pcache_http.proofs.lists.split_at_comma.Goals as goal

pub returns-in-Some : goal.returns-in-Some
returns-in-Some c = items_at c.args.bytes.now c.in-Some.at (sym c.in-Some.ensures.place) ∙ simp take_rest

pub returns-in-None : goal.returns-in-None
returns-in-None c = items_whole c.args.bytes.now (sym c.in-None.ensures.place)
