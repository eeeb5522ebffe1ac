-- A table that knows its past as a value that proofs can tell from others (own).
use Rattle.std.specs.Prelude.{refl}
use Rattle.std.specs.Coded.{Coded, code_by, coded×}
use Rattle.pcache_lock.specs.contracts.lock.past.Past as past_row
use Rattle.pcache_lock.specs.Locks.{Locks}
use Rattle.pcache_lock.specs.LocksCode.{locks_code}
use Rattle.pcache_lock.specs.Past.{Known}

abbrev pub known_code : Coded Known
known_code =
    code_by (Locks × past_row.the_row.Denot) (coded× locks_code past_row.the_row.coded)
    (λ k. (k.table, record { deeds = k.past })) (λ p. record { table = p.0; past = p.1.deeds }) (λ _. refl)
