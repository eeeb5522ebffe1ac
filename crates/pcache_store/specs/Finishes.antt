-- What the end of a write in memory returns (own): a new body of so many bytes; and the number of the body that it replaces.
use Rattle.std.specs.Prelude.{ℕ, Option}
use Rattle.std.specs.FinMap.{get}
use Rattle.pcache_store.specs.Store.{Store, complete_body, number_of_body, written_size}
use Rattle.pcache_store.specs.declared.storage.MissFinishType.{MissFinishType}
use Rattle.pcache_store.specs.declared.storage.MissFinishType.TheVariants.{Created}

abbrev pub created : Store → ℕ → MissFinishType
created s n = Created (written_size (get s.writes n))

-- the number of the write that stored the complete body of a key, if there is one
abbrev pub body_number : Store → ℕ → Option ℕ
body_number s k = number_of_body (complete_body (get s.slots k))
