use Rattle.pcache_http.proofs.Forbidden.{not_stale}
use Rattle.pcache_http.proofs.laws.what_is_prohibited_is_not_served_stale.Goals as goal

pub returns : goal.returns
returns c = not_stale
