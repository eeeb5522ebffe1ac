use Rattle.pcache_control.proofs.Found.{given_by_name}
use Rattle.pcache_control.proofs.cache_control.CacheControl.has_directive.Goals as goal

pub returns-clause-by_name : goal.returns-clause-by_name
returns-clause-by_name c named key = given_by_name c.args.self.now c.args.key.now key.known named
