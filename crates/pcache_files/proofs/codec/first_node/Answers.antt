use Rattle.pcache_files.specs.FileReading.{node_at}
use Rattle.pcache_files.proofs.Words.{arith, ◌-◌, ◌∙◌, ap, sym, length, drop, ℕ}
use Rattle.pcache_files.proofs.FileExact.{node_takes}
use Rattle.pcache_files.proofs.Whole.{node_behind, dropped, not_longer}
use Rattle.pcache_files.proofs.codec.first_node.Goals as goal

pub returns-clause-found : goal.returns-clause-found
returns-clause-found c =
    let read = ap node_at (sym c.new-reader.ensures) ∙ c.in_ok-node.ensures in
    let there = node_takes c.args.bytes.now c.in_ok-node.node c.read_node.new.reader (λ i. omega (arith, c.type_inv.bytes i)) read in
    let rest = ap (λ (n : ℕ). drop (length c.args.bytes.now - n) c.args.bytes.now) c.remaining.ensures ∙ dropped c.args.bytes.now c.read_node.new.reader (node_behind c.args.bytes.now c.in_ok-node.node c.read_node.new.reader there) in
    rw rest there

pub returns-clause-within : goal.returns-clause-within
returns-clause-within c =
    let read = ap node_at (sym c.new-reader.ensures) ∙ c.in_ok-node.ensures in
    let there = node_takes c.args.bytes.now c.in_ok-node.node c.read_node.new.reader (λ i. omega (arith, c.type_inv.bytes i)) read in
    rw c.remaining.ensures (not_longer c.args.bytes.now c.read_node.new.reader (node_behind c.args.bytes.now c.in_ok-node.node c.read_node.new.reader there))
