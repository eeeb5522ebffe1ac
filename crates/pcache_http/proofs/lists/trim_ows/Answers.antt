use Rattle.pcache_control.specs.Values.{trim_ows}
use Rattle.pcache_http.proofs.Words.{refl}
use Rattle.pcache_http.proofs.lists.trim_ows.Goals as goal

pub returns : goal.returns
unfolding trim_ows
returns c = rw (c.trim_end.ensures, c.trim_start.ensures) refl
