use Rattle.pcache_http.proofs.Words.{◌≡◌, length, skip_ows}
use Rattle.pcache_http.proofs.lists.trim_start.Given as goal

abbrev pub invariant-front : goal.invariant-front
invariant-front l = skip_ows l.bytes ≡ skip_ows l.fn.bytes

abbrev pub decreases-front : goal.decreases-front
decreases-front l = length l.bytes
