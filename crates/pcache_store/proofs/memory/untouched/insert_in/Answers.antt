use Rattle.pcache_table.proofs.TableMaps.{inserted}
use Rattle.pcache_store.proofs.memory.untouched.insert_in.Goals as goal

pub returns-clause-ok : goal.returns-clause-ok
returns-clause-ok c = inserted c.args.numbers.now.entries c.insert.new.self.entries c.args.number tt c.in_ok-insert.ensures.updates.0
