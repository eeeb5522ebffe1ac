use Rattle.std.proofs.Common.{length-append}
use Rattle.pcache_files.proofs.Words.{[], ◌∷◌, ◌∙◌, ap, arith, sym, subst, length, err_from_is_err_and, Recency}
use Rattle.pcache_files.proofs.InPieces.{Reading, reading_more, nodes_refused}
use Rattle.pcache_files.proofs.Written.{passed_on}
use Rattle.pcache_files.proofs.pieces.read_nodes.Goals as goal

pub returns-in_err-node-clause-refused : goal.returns-in_err-node-clause-refused
returns-in_err-node-clause-refused g c = λ refused rest known l later many.
    let p = err_from_is_err_and c.from_residual.result c.from_residual.ensures.1 in
    let here = passed_on c.from_residual.result c.in_err-node.field-0.0 p.0 p.1 p.2 refused in
    nodes_refused (g.D.CountedRead.remaining c.args.from.now) (g.D.CountedRead.remaining c.each.from) c.args.ahead.now c.each.ahead c.each.nodes.items c.args.count c.each.invariant.so_far
    (omega (arith, c.each.invariant.many, c.each-test.true)) (c.in_err-node.ensures.refused here) rest known l later many

pub each-preserved : goal.each-preserved
each-preserved g c =
    let size = length-append c.each.nodes.items (c.in_ok-node.node ∷ []) in
    let same = ap (λ (l : Recency). length l) c.in_ok-push.ensures.items in
    record {
      so_far = subst (λ (l : Recency). Reading (g.D.CountedRead.remaining c.args.from.now) (g.D.CountedRead.remaining c.read_next.new.from) c.args.ahead.now c.read_next.new.ahead l) (sym c.in_ok-push.ensures.items)
          (reading_more (g.D.CountedRead.remaining c.args.from.now) (g.D.CountedRead.remaining c.each.from) (g.D.CountedRead.remaining c.read_next.new.from) c.args.ahead.now c.each.ahead c.read_next.new.ahead c.each.nodes.items c.in_ok-node.node c.each.invariant.so_far c.in_ok-node.ensures.found);
      end = c.in_ok-node.ensures.end;
      many = omega (arith, size, same, c.each.invariant.many);
      same = c.in_ok-node.ensures.same ∙ c.each.invariant.same;
      count = c.in_ok-node.ensures.counted ∙ c.each.invariant.count;
    }
