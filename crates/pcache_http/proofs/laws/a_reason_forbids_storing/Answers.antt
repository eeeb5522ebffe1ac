use Rattle.pcache_http.proofs.Forbidden.{refused}
use Rattle.pcache_http.proofs.laws.a_reason_forbids_storing.Goals as goal

pub returns : goal.returns
returns c = refused
