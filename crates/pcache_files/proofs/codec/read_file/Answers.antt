use Rattle.pcache_files.proofs.Words.{arith}
use Rattle.pcache_files.proofs.FileExact.{read_found, read_same, read_refused, read_kinds}
use Rattle.pcache_files.proofs.codec.read_file.Goals as goal

pub returns-clause-found : goal.returns-clause-found
returns-clause-found c = read_found (λ v. v.items) c.args.bytes.now c.read_list.result (λ i. omega (arith, c.type_inv.bytes i)) c.read_list.ensures

pub returns-clause-same : goal.returns-clause-same
returns-clause-same c = λ l spelled. read_same (λ v. v.items) c.args.bytes.now c.read_list.result l c.read_list.ensures spelled

pub returns-clause-refused : goal.returns-clause-refused
returns-clause-refused c = λ refused l spelled. read_refused (λ v. v.items) c.args.bytes.now c.read_list.result l c.read_list.ensures refused spelled

pub returns-clause-kinds : goal.returns-clause-kinds
returns-clause-kinds c = read_kinds (λ v. v.items) c.args.bytes.now c.read_list.result c.read_list.ensures
