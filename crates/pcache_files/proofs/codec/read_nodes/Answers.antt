use Rattle.pcache_files.specs.FileReading.{nodes_at}
use Rattle.pcache_files.proofs.Words.{◌+◌, ◌-◌, ◌∙◌, ap, err_from_is_err_and}
use Rattle.pcache_files.proofs.NodeLoop.{with_front, goes_on, ends, is_done}
use Rattle.pcache_files.proofs.codec.read_nodes.Goals as goal

pub returns-in_err-node : goal.returns-in_err-node
returns-in_err-node c =
    let p = err_from_is_err_and c.from_residual-in_err-node.result c.from_residual-in_err-node.ensures.1 in
    rw (p.1, p.2) (ends c.in_err-node.field-0.0 c.each.nodes.items c.args.count c.each.i c.each.reader (nodes_at c.args.count c.args.reader.now) c.each-test.true
    c.in_err-node.ensures c.each.invariant)

pub each-preserved : goal.each-preserved
each-preserved c =
    ap (λ l. with_front l (nodes_at (c.args.count - (c.each.i + 1)) c.read_node.new.reader)) c.in_ok-push.ensures.items
    ∙ goes_on c.each.nodes.items c.args.count c.each.i c.each.reader c.in_ok-node.node c.read_node.new.reader (nodes_at c.args.count c.args.reader.now) c.each-test.true c.in_ok-node.ensures c.each.invariant

pub returns : goal.returns
returns c = is_done c.each.nodes.items c.args.count c.each.i c.each.reader (nodes_at c.args.count c.args.reader.now) c.each-test.false c.each.invariant
