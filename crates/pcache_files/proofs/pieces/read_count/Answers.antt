use Rattle.pcache_files.proofs.Words.{◌∙◌, ap, sym, array_at}
use Rattle.pcache_files.proofs.InPieces.{count_refused}
use Rattle.pcache_files.proofs.pieces.read_count.Goals as goal

pub returns-in_err-count-clause-refused : goal.returns-in_err-count-clause-refused
returns-in_err-count-clause-refused g c = λ refused rest known n later.
    let none = ap array_at (sym c.as_slice.ensures) ∙ c.in_err-count.ensures.refused in
    count_refused c.args.ahead.now c.fill.new.ahead (g.D.CountedRead.remaining c.args.from.now) (g.D.CountedRead.remaining c.fill.new.from) c.in_ok-fill.ensures.more c.in_ok-fill.ensures.enough none rest known n later
