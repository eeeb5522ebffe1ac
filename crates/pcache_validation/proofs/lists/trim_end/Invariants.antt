use Rattle.std.proofs.Common.{reverse}
use Rattle.pcache_validation.proofs.Words.{◌≡◌, length, skip_ows}
use Rattle.pcache_validation.proofs.lists.trim_end.Given as goal

abbrev pub invariant-back : goal.invariant-back
invariant-back l = skip_ows (reverse l.bytes) ≡ skip_ows (reverse l.fn.bytes)

abbrev pub decreases-back : goal.decreases-back
decreases-back l = length l.bytes
