-- A store that knows its past as a value that proofs can tell from others (own).
use Rattle.std.specs.Prelude.{refl}
use Rattle.std.specs.Coded.{Coded, code_by, coded×}
use Rattle.pcache_store.specs.contracts.memory.past.Past as past_row
use Rattle.pcache_store.specs.Store.{Store}
use Rattle.pcache_store.specs.StoreCode.{store_code}
use Rattle.pcache_store.specs.Notes.{Known}

abbrev pub known_code : Coded Known
known_code =
    code_by (Store × past_row.the_row.Denot) (coded× store_code past_row.the_row.coded)
    (λ k. (k.state, record { notes = k.past })) (λ p. record { state = p.0; past = p.1.notes }) (λ _. refl)
