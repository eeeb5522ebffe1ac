use Rattle.pcache_http.proofs.Forbidden.{validated}
use Rattle.pcache_http.proofs.laws.no_cache_is_validated.Goals as goal

pub returns : goal.returns
returns c = validated
