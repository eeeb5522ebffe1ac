use Rattle.pcache_files.proofs.Words.{ℕ, ◌<◌, ◌^◌, subst, err_from_is_err_and}
use Rattle.pcache_files.proofs.Written.{few, passed_on, too_long, writes-more, writes-all, writes-spelled}
use Rattle.pcache_files.proofs.codec.write_file.Goals as goal

pub nodes-preserved : goal.nodes-preserved
nodes-preserved c =
    writes-more c.args.entries c.nodes.entry-iterator c.next.new.self c.nodes.out.items c.put_node.new.out.items (c.in-Some.entry.now, c.in-Some.weight.now) c.nodes.invariant c.in-Some.ensures.steps c.in_ok-put_node.ensures.written c.in_ok-put_node.ensures.range

pub returns-in_err-put_node-clause-too_long : goal.returns-in_err-put_node-clause-too_long
returns-in_err-put_node-clause-too_long c = λ refused.
    let p = err_from_is_err_and c.from_residual-in_err-put_node.result c.from_residual-in_err-put_node.ensures.1 in
    too_long c.args.entries c.nodes.entry-iterator c.next.new.self (c.in-Some.entry.now, c.in-Some.weight.now) c.nodes.out.items c.nodes.invariant c.in-Some.ensures.steps
    (c.in_err-put_node.ensures.too_long (passed_on c.from_residual-in_err-put_node.result c.in_err-put_node.field-0.0 p.0 p.1 p.2 refused))

pub returns-clause-written : goal.returns-clause-written
returns-clause-written c = writes-all c.args.entries c.nodes.out.items c.nodes.entry-iterator c.nodes.invariant c.in-None.ensures.steps.0

pub returns-clause-spelled : goal.returns-clause-spelled
returns-clause-spelled c =
    writes-spelled c.args.entries c.nodes.out.items c.nodes.entry-iterator c.nodes.invariant c.in-None.ensures.steps.0
    (subst (λ (n : ℕ). n < 2 ^ 32) c.requires (few c.in_ok-put_array.field-0 c.args.count c.in_ok-put_array.ensures.too_long))
