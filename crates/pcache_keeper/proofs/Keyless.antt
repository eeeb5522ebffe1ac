-- What a keeper and a seen log own belongs to no thread.
use base.Growing.{latest, at_least}
use base.Shift.{Keyless}
use Rattle.pcache_keeper.proofs.Words.{ℕ, List, Gv, top, had}

pub top_keyless : {E : Type 0} (code : E → Gv) (η : ℕ) (log : List E) → Keyless (top code η log)
unfolding latest
top_keyless code η log = tt

pub had_keyless : {E : Type 0} (code : E → Gv) (η : ℕ) (log : List E) → Keyless (had code η log)
unfolding at_least
had_keyless code η log = tt
