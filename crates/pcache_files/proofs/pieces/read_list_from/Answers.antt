use Rattle.pcache_files.proofs.Words.{ℕ, List, ◌++◌, arith, sym, subst, length, err_from_is_err_and, ArrayThen}
use Rattle.pcache_files.proofs.InPieces.{list_refused_behind, list_found}
use Rattle.pcache_files.proofs.Written.{passed_on}
use Rattle.pcache_files.proofs.pieces.read_list_from.Goals as goal

pub returns-in_err-count-clause-refused : goal.returns-in_err-count-clause-refused
returns-in_err-count-clause-refused g c = λ refused rest known l s.
    let p = err_from_is_err_and c.from_residual.result c.from_residual.ensures.1 in
    let here = passed_on c.from_residual.result c.in_err-count.field-0.0 p.0 p.1 p.2 refused in
    c.in_err-count.ensures.refused here rest known (length l) s.items (subst (λ (a : List ℕ). ArrayThen (a ++ rest) (length l) s.items) (sym c.new-ahead.ensures) s.head)

pub returns-then-len-ne0-clause-refused : goal.returns-then-len-ne0-clause-refused
returns-then-len-ne0-clause-refused g c = λ refused rest known l s.
    list_refused_behind c.new-ahead.result c.read_count.new.ahead c.read_nodes.new.ahead c.fill.new.ahead c.in_ok-count.count c.in_ok-nodes.nodes.items
    (g.D.CountedRead.remaining c.args.from.now) (g.D.CountedRead.remaining c.read_count.new.from) (g.D.CountedRead.remaining c.read_nodes.new.from) (g.D.CountedRead.remaining c.fill.new.from)
    c.in_ok-count.ensures.found c.new-ahead.ensures c.in_ok-nodes.ensures.found c.in_ok-nodes.ensures.many c.in_ok-fill.ensures.more (omega (arith, c.len.ensures, c.if-len-ne0.true)) rest known l s

pub returns-clause-found : goal.returns-clause-found
returns-clause-found g c =
    list_found c.new-ahead.result c.read_count.new.ahead c.read_nodes.new.ahead c.fill.new.ahead c.in_ok-count.count c.in_ok-nodes.nodes.items
    (g.D.CountedRead.remaining c.args.from.now) (g.D.CountedRead.remaining c.read_count.new.from) (g.D.CountedRead.remaining c.read_nodes.new.from) (g.D.CountedRead.remaining c.fill.new.from)
    c.in_ok-count.ensures.found c.new-ahead.ensures c.in_ok-nodes.ensures.found c.in_ok-nodes.ensures.many c.in_ok-fill.ensures.more c.in_ok-fill.ensures.enough (omega (arith, c.len.ensures, c.if-len-ne0.false))
