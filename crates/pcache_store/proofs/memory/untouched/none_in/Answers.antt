use Rattle.pcache_store.proofs.Words.{sym, ◌∙◌, ap, length, ◌==◌, entries_of, numbers_in}
use Rattle.std.specs.FinMap as map
use Rattle.pcache_store.proofs.memory.untouched.none_in.Goals as goal

pub returns : goal.returns
returns c =
    let es = c.args.numbers.now.entries in
    ap (λ n. n == 0) (c.len.ensures.len ∙ ap length (sym (entries_of es c.len.ensures.ordered)) ∙ sym (map.len-entries (numbers_in es)))
