-- A table of locks as a value that proofs can tell from others (own).
use Rattle.std.specs.Prelude.{ℕ, refl}
use Rattle.std.specs.Coded.{Coded, code_by, coded×, coded_ℕ}
use Rattle.std.specs.Ordering.{nat_cmp}
use Rattle.std.specs.FinMap.{FinMap, code}
use Rattle.pcache_lock.specs.contracts.lock.lock_core.LockCore as core_row
use Rattle.pcache_lock.specs.Permits.{Core}
use Rattle.pcache_lock.specs.Locks.{Locks}

abbrev pub locks_code : Coded Locks
locks_code =
    code_by (FinMap nat_cmp Core × (FinMap nat_cmp ℕ × (ℕ × ℕ)))
    (coded× (code coded_ℕ core_row.the_row.coded) (coded× (code coded_ℕ coded_ℕ) (coded× coded_ℕ coded_ℕ)))
    (λ t. (t.cores, (t.current, (t.next, t.age_timeout))))
    (λ p. record { cores = p.0; current = p.1.0; next = p.1.1.0; age_timeout = p.1.1.1 })
    (λ _. refl)
