use Rattle.pcache_meta.proofs.Words.{length}
use Rattle.pcache_meta.proofs.HeaderScan.{stays}
use Rattle.pcache_meta.proofs.header_text.reader.before_return.Goals as goal

pub returns-in-Some-clause-stays : goal.returns-in-Some-clause-stays
returns-in-Some-clause-stays c = λ front. stays front c.args.bytes.now c.in-Some.end c.in-Some.ensures.0.before

pub returns-in-None-clause-stays : goal.returns-in-None-clause-stays
returns-in-None-clause-stays c = λ front. stays front c.args.bytes.now (length c.args.bytes.now) c.in-None.ensures
