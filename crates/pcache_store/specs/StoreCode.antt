-- Encodings of what contracts see of a store, which the value of a model needs (own).
use Rattle.std.specs.Prelude.{ℕ, List, Bool, refl, Option}
use Rattle.std.specs.Coded.{Coded, code_by, coded×, coded_ℕ, coded_bool, coded_list, coded_option}
use Rattle.std.specs.Ordering.{nat_cmp}
use Rattle.std.specs.FinMap.{FinMap, code}
use Rattle.std.specs.FinSet as set
use Rattle.pcache_meta.specs.Meta.{Meta}
use Rattle.pcache_meta.specs.contracts.meta.CacheMeta as meta_row
use Rattle.pcache_store.specs.Store.{Stored, Written, Slot, Store}

-- a complete body
abbrev pub stored_code : Coded Stored
stored_code = code_by (Meta × List ℕ) (coded× meta_row.the_row.coded (coded_list coded_ℕ)) (λ b. (b.meta, b.bytes)) (λ p. record { meta = p.0; bytes = p.1 }) (λ _. refl)

-- a write
abbrev pub written_code : Coded Written
written_code =
    code_by (ℕ × (Meta × (List ℕ × (Bool × (Bool × ℕ)))))
    (coded× coded_ℕ (coded× meta_row.the_row.coded (coded× (coded_list coded_ℕ) (coded× coded_bool (coded× coded_bool coded_ℕ)))))
    (λ w. (w.slot, (w.meta, (w.bytes, (w.told, (w.flying, w.readers))))))
    (λ p. record { slot = p.0; meta = p.1.0; bytes = p.1.1.0; told = p.1.1.1.0; flying = p.1.1.1.1.0; readers = p.1.1.1.1.1 })
    (λ _. refl)

-- a slot
abbrev pub slot_code : Coded Slot
slot_code =
    code_by (Option Stored × FinMap nat_cmp (Unit {0}))
    (coded× (coded_option stored_code) (set.code coded_ℕ))
    (λ x. (x.body, x.untouched))
    (λ p. record { body = p.0; untouched = p.1 })
    (λ _. refl)

-- the whole store
abbrev pub store_code : Coded Store
store_code =
    code_by (FinMap nat_cmp Slot × (FinMap nat_cmp Written × (ℕ × Bool)))
    (coded× (code coded_ℕ slot_code) (coded× (code coded_ℕ written_code) (coded× coded_ℕ coded_bool)))
    (λ s. (s.slots, (s.writes, (s.next, s.newest))))
    (λ p. record { slots = p.0; writes = p.1.0; next = p.1.1.0; newest = p.1.1.1 })
    (λ _. refl)
