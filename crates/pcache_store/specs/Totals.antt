-- The totals of complete bodies (own): their number, and the sum of their lengths.
use Rattle.std.specs.Prelude.{ℕ, ◌≡◌, ◌<◌, ◌^◌, length}
use Rattle.std.specs.Ordering.{nat_cmp}
use Rattle.std.specs.FinMap.{FinMap, get}
use Rattle.pcache_base.specs.Totals.{total, share}
use Rattle.pcache_store.specs.Store.{Slot, Stored, Store}

-- the length of a body, and one for each body
abbrev pub body_len : Stored → ℕ
body_len b = length b.bytes

abbrev pub one : Stored → ℕ
one b = 1

-- the same for a slot: the length of its complete body, and how many it has
abbrev pub body_size : Slot → ℕ
body_size x = share body_len x.body

abbrev pub body_count : Slot → ℕ
body_count x = share one x.body

-- the sum of the lengths of the complete bodies
abbrev pub stored_bytes : Store → ℕ
stored_bytes s = total body_size s.slots

-- the number of complete bodies
abbrev pub slots : Store → ℕ
slots s = total body_count s.slots

-- the running totals are those of the slots; each body is shorter than 2 ^ 63 bytes
pub record IsCounted (now : FinMap nat_cmp Slot) (bodies stored : ℕ) : Type 0 where
  pub bodies_are : bodies ≡ total body_count now
  pub stored_is : stored ≡ total body_size now
  pub small : (k : ℕ) → share body_size (get now k) < 2 ^ 63
