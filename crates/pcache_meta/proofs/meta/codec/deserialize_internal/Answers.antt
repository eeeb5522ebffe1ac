use Rattle.pcache_meta.proofs.Words.{arith}
use Rattle.pcache_meta.proofs.MetaExact.{read_found, read_same, read_refused, read_kind}
use Rattle.pcache_meta.proofs.meta.codec.deserialize_internal.Goals as goal

pub returns-clause-found : goal.returns-clause-found
returns-clause-found c = read_found c.args.bytes.now c.read_internal.result (λ i. omega (arith, c.type_inv.bytes i)) c.read_internal.ensures

pub returns-clause-same : goal.returns-clause-same
returns-clause-same c = λ m spelled. read_same c.args.bytes.now c.read_internal.result m c.read_internal.ensures spelled

pub returns-clause-refused : goal.returns-clause-refused
returns-clause-refused c = read_refused c.args.bytes.now c.read_internal.result c.read_internal.ensures

pub returns-clause-kind : goal.returns-clause-kind
returns-clause-kind c = read_kind c.args.bytes.now c.read_internal.result c.read_internal.ensures
