-- What a look-up shows a witness of the pair that a store has (own).
use Rattle.std.specs.Prelude.{◌≡◌, Option, Some, None}
use Rattle.pcache_base.specs.Key.{Key}
use Rattle.pcache_meta.specs.Meta.{Meta}
use Rattle.pcache_store.specs.Store.{Store, Reader, followed}
use Rattle.pcache_request.specs.Requests.{found_for, left_by, reader_in}

-- a pair that some store has for the key of a request
abbrev pub IsFound : Meta × Reader → Type 0
IsFound p = (s : Store) × (k : Option Key) × (found_for s k ≡ Some p)

-- the witness after it was shown the pair, if there is one
abbrev pub HasHeard : {W : Type 0} → (W → Meta × Reader → W → Type 0) → W → Option (Meta × Reader) → W → Type 0
HasHeard hears w None w' = w' ≡ w
HasHeard hears w (Some p) w' = hears w p w'

-- the store after the pair that it has was let go again
abbrev pub passed_over : Store → Option Key → Store
passed_over s k = left_by (reader_in (found_for s k)) (followed s (found_for s k))
