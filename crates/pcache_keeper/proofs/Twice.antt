-- What was seen can be had twice. Assumes `Logic`.
use types.Growing.{at_least_dup}
use Rattle.pcache_keeper.proofs.Words.{ℕ, List, map, Ura, ent, sep, Gv, Logic, sem, logs, had}

pub had_twice : {M : Type 1} {𝓤 : Ura M} (𝓛 : Logic 𝓤) {E : Type 0} (code : E → Gv) (η : ℕ) (log : List E)
    → ent 𝓤 (sem 𝓛 (had code η log)) (sep 𝓤 (sem 𝓛 (had code η log)) (sem 𝓛 (had code η log)))
had_twice 𝓛 code η log = at_least_dup logs 𝓛 η (map code log)
