use Rattle.pcache_files.specs.FileReading.{node_at, tag_len_at}
use Rattle.pcache_files.proofs.Words.{ℕ, List, ◌-◌, ◌∙◌, ap, sym, subst, length, drop, err_from_is_err_and, NodeThen}
use Rattle.pcache_files.proofs.InPieces.{fails_none, tag_refused, node_refused, node_found}
use Rattle.pcache_files.proofs.Written.{passed_on}
use Rattle.pcache_files.proofs.pieces.read_next.Goals as goal

pub returns-in_err-tag-clause-refused : goal.returns-in_err-tag-clause-refused
returns-in_err-tag-clause-refused g c = λ refused rest known node later.
    let none = ap tag_len_at (sym c.as_slice.ensures) ∙ fails_none c.in_err-tag.field-0.0 (tag_len_at c.as_slice.result.now) c.in_err-tag.ensures in
    tag_refused c.args.ahead.now c.fill.new.ahead (g.D.CountedRead.remaining c.args.from.now) (g.D.CountedRead.remaining c.fill.new.from) c.in_ok-fill.ensures.more c.in_ok-fill.ensures.enough none rest known node later

pub returns-in_err-node-clause-refused : goal.returns-in_err-node-clause-refused
returns-in_err-node-clause-refused g c = λ refused rest known node later.
    let p = err_from_is_err_and c.from_residual-in_err-node.result c.from_residual-in_err-node.ensures.1 in
    let here = passed_on c.from_residual-in_err-node.result c.in_err-node.field-0.0 p.0 p.1 p.2 refused in
    let none = ap node_at (sym c.as_slice-2.ensures) ∙ c.in_err-node.ensures.refused here in
    let tag = ap tag_len_at (sym c.as_slice.ensures) ∙ c.in_ok-tag.ensures in
    node_refused c.args.ahead.now c.fill.new.ahead c.fill-2.new.ahead (g.D.CountedRead.remaining c.args.from.now) (g.D.CountedRead.remaining c.fill.new.from) (g.D.CountedRead.remaining c.fill-2.new.from) c.in_ok-tag.tag c.saturating_add.result
    c.in_ok-fill.ensures.more c.in_ok-fill.ensures.enough tag c.in_ok-fill-2.ensures.more c.in_ok-fill-2.ensures.enough c.saturating_add.ensures none rest known node later

pub returns-clause-found : goal.returns-clause-found
returns-clause-found g c =
    let whole = subst (λ (b : List ℕ). NodeThen b c.in_ok-node.node (drop (length b - c.in_ok-node.left) b)) c.as_slice-2.ensures c.in_ok-node.ensures.found in
    let there = subst (λ (r : List ℕ). NodeThen c.fill-2.new.ahead c.in_ok-node.node r) (sym c.keep_last.ensures) whole in
    node_found c.args.ahead.now c.fill.new.ahead c.fill-2.new.ahead c.keep_last.new.self (g.D.CountedRead.remaining c.args.from.now) (g.D.CountedRead.remaining c.fill.new.from) (g.D.CountedRead.remaining c.fill-2.new.from) c.in_ok-node.node
    c.in_ok-fill.ensures.more c.in_ok-fill-2.ensures.more there
