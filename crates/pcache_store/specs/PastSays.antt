-- What a store's past says of writes and keys (own). Notes are listed newest first. Where most notes say nothing, a function
-- says how one note changes the result so far; the definition over the list then has two clauses.
use Rattle.std.specs.Prelude.{ℕ, ◌==◌, ◌&&◌, not, Bool, true, false, if◌then◌else◌, Option, Some, None, List, [], ◌∷◌, ◌++◌}
use Rattle.std.specs.Option.{option_map, option_and_then}
use Rattle.std.specs.List.{list_any}
use Rattle.pcache_meta.specs.Meta.{Meta, expired_at, in_place_of, numbered}
use Rattle.pcache_store.specs.Store.{Stored, Written, new_write}
use Rattle.pcache_store.specs.Past.{Note, Began, Wrote, Finished, Dropped, Purged, WritePurged, MetaSet, Expired}

-- the test holds of the value, if there is one
abbrev pub option_any : {A : Type 0} → (A → Bool) → Option A → Bool
option_any p None = false
option_any p (Some x) = p x

-- the notes after the newest one that passes, and those before it
abbrev pub after : (Note → Bool) → List Note → List Note
after p [] = []
after p (e ∷ es) = if p e then [] else e ∷ after p es

abbrev pub before : (Note → Bool) → List Note → List Note
before p [] = []
before p (e ∷ es) = if p e then es else before p es

-- What one note says.

-- whether the write begins, and whether it is finished
abbrev pub begins : ℕ → Note → Bool
begins w (Began k n m) = n == w
begins w _ = false

abbrev pub finishes : ℕ → Note → Bool
finishes w (Finished n) = n == w
finishes w _ = false

-- a removal of the write w of the slot k: of all of its key, or of itself
abbrev pub removes : ℕ → ℕ → Note → Bool
removes k w (Purged q) = q == k
removes k w (WritePurged q n) = (q == k) && (n == w)
removes k w _ = false

-- a write with more bytes, a write that is no longer in flight, and one that was finished, whose end is known then
abbrev pub longer : List ℕ → Bool → Written → Written
longer bytes eof r = record r { bytes = r.bytes ++ bytes; told = eof }

abbrev pub ended : Written → Written
ended r = record r { flying = false }

abbrev pub closed_write : Written → Written
closed_write r = record r { flying = false; told = true }

-- a write after one more note
abbrev pub write_at : ℕ → Note → Option Written → Option Written
write_at w (Began k n m) sofar = if n == w then Some (new_write k (numbered n m)) else sofar
write_at w (Wrote n bytes eof) sofar = if n == w then option_map (longer bytes eof) sofar else sofar
write_at w (Finished n) sofar = if n == w then option_map closed_write sofar else sofar
write_at w (Dropped n) sofar = if n == w then option_map ended sofar else sofar
write_at w _ sofar = sofar

-- how it changes the meta of the complete body of a key: an expiry ends its freshness, a meta that is set keeps the
-- number of its write
abbrev pub alters : ℕ → Note → Meta → Meta
alters k (Expired q now) m = if q == k then expired_at now m else m
alters k (MetaSet q new) m = if q == k then in_place_of m new else m
alters k _ m = m

-- What a past says.

-- a write, if it was begun: its slot, its meta with its number, its bytes, whether its end is known, and whether it is in
-- flight, from its begin until it is finished or dropped. Readers are not counted
abbrev pub write_of : ℕ → List Note → Option Written
write_of w [] = None
write_of w (e ∷ es) = write_at w e (write_of w es)

-- whether the write is of the key
abbrev pub is_of : ℕ → ℕ → List Note → Bool
is_of k w past = option_any (λ r. r.slot == k) (write_of w past)

-- whether the write is in flight
abbrev pub in_flight : ℕ → List Note → Bool
in_flight w past = option_any (λ r. r.flying) (write_of w past)

-- the bytes of a write
abbrev pub bytes_in : Option Written → List ℕ
bytes_in None = []
bytes_in (Some r) = r.bytes

abbrev pub body_of : ℕ → List Note → List ℕ
body_of w past = bytes_in (write_of w past)

-- whether the write of the key met a removal since it began
abbrev pub is_removed : ℕ → ℕ → List Note → Bool
is_removed k w past = list_any (removes k w) (after (begins w) past)

-- a write of the key in flight that met no removal since it began
abbrev pub is_open : ℕ → ℕ → List Note → Bool
is_open k w past = is_of k w past && (in_flight w past && not (is_removed k w past))

-- the write of the key that was finished last
abbrev pub finished_at : ℕ → Note → List Note → Option ℕ → Option ℕ
finished_at k (Finished n) es sofar = if is_of k n es then Some n else sofar
finished_at k _ es sofar = sofar

abbrev pub last_finished : ℕ → List Note → Option ℕ
last_finished k [] = None
last_finished k (e ∷ es) = finished_at k e es (last_finished k es)

-- the meta of a key's body after these notes
abbrev pub altered_by : ℕ → List Note → Meta → Meta
altered_by k [] m = m
altered_by k (e ∷ es) m = alters k e (altered_by k es m)

-- a finished write as it was when it was finished
abbrev pub write_finished : ℕ → List Note → Option Written
write_finished w past = write_of w (before (finishes w) past)

-- the body of a finished write: its bytes, and its meta with what changed it since the finish
abbrev pub body_stored : ℕ → ℕ → List Note → Option Stored
body_stored k w past = option_map (λ r. record { meta = altered_by k (after (finishes w) past) r.meta; bytes = r.bytes }) (write_finished w past)

-- the body of the write of the key that was finished last, if that met no removal since it began
abbrev pub complete : ℕ → List Note → Option Stored
complete k past = option_and_then (λ w. if is_removed k w past then None else body_stored k w past) (last_finished k past)
