-- When a reader of a write has given the whole body, by all calls of the store since the write began (own).
use Rattle.std.specs.Prelude.{ℕ, ◌≡◌, ◌≤◌, ◌==◌, ◌&&◌, ◌↔◌, Bool, true, false, cond, List, [], ◌∷◌, ◌++◌, length, IsSome, IfSome}
use Rattle.std.specs.List.{list_any}
use Rattle.std.specs.Ordering.{nat_cmp}
use Rattle.std.specs.FinMap.{FinMap, get}
use Rattle.pcache_meta.specs.Meta.{Meta}
use Rattle.pcache_store.specs.Store.{Store, Slot, Part, begun, wrote, finished, dropped, joined, left, is_told, is_whole}

-- a call of a store: a write begins, bytes are added to one, one is finished or dropped (also by a finish that fails), a
-- reader follows one or leaves it; or the slots alone are changed, as by a removal
pub data Act : Type 0 where
  Begins : (key : ℕ) (meta : Meta) → Act
  Adds : (write : ℕ) (bytes : List ℕ) (eof : Bool) → Act
  Finishes : (write : ℕ) → Act
  Drops : (write : ℕ) → Act
  Follows : (write : ℕ) → Act
  Leaves : (write : ℕ) → Act
  Alters : (slots : FinMap nat_cmp Slot) → Act

-- the store after a call
abbrev pub after_act : Act → Store → Store
after_act (Begins k m) s = begun s k m
after_act (Adds w bytes eof) s = wrote s w bytes eof
after_act (Finishes w) s = finished s w
after_act (Drops w) s = dropped s w
after_act (Follows w) s = joined s w
after_act (Leaves w) s = left s (Part w 0)
after_act (Alters slots) s = record s { slots = slots }

-- the store after these calls, of which the first comes first
abbrev pub after_acts : List Act → Store → Store
after_acts [] s = s
after_acts (a ∷ acts) s = after_acts acts (after_act a s)

-- a call may be made: bytes are added to a write only as long as its end is not known
abbrev pub MayBe : Act → Store → Type 0
MayBe (Adds w bytes eof) s = is_told (get s.writes w) ≡ false
MayBe _ s = Unit {0}

-- each of these calls may be made when it is
abbrev pub MayAllBe : List Act → Store → Type 0
MayAllBe [] s = Unit {0}
MayAllBe (a ∷ acts) s = MayBe a s × MayAllBe acts (after_act a s)

-- the bytes that a call adds to the write
abbrev pub added_by : ℕ → Act → List ℕ
added_by n (Adds w bytes eof) = cond (w == n) bytes []
added_by n _ = []

-- the bytes that these calls added to the write, one piece after another
abbrev pub added_bytes : ℕ → List Act → List ℕ
added_bytes n [] = []
added_bytes n (a ∷ acts) = added_by n a ++ added_bytes n acts

-- a call ends the write well: it announces its end, or finishes it
abbrev pub ends_well : ℕ → Act → Bool
ends_well n (Adds w bytes eof) = (w == n) && eof
ends_well n (Finishes w) = w == n
ends_well n _ = false

-- the end of the write was announced, or it was finished
abbrev pub has_ended_well : ℕ → List Act → Bool
has_ended_well n acts = list_any (ends_well n) acts

-- after a write began and these calls were made, a reader gives of its bytes those that were added
abbrev pub GivesWhatWasAdded : Type 0
GivesWhatWasAdded =
    (s : Store) (k : ℕ) (m : Meta) (acts : List Act) → MayAllBe acts (begun s k m)
    → IfSome (get (after_acts acts (begun s k m)).writes s.next) (λ w. w.bytes ≡ added_bytes s.next acts)

-- and a reader of it, which its record outlives, has given the whole body exactly if it gave as many bytes as were added, and
-- the end of the write was announced, or it was finished
abbrev pub IsWholeExactly : Type 0
IsWholeExactly =
    (s : Store) (k : ℕ) (m : Meta) (acts : List Act) (place : ℕ) → MayAllBe acts (begun s k m)
    → IsSome (get (after_acts acts (begun s k m)).writes s.next)
    → (is_whole (after_acts acts (begun s k m)) (Part s.next place) ≡ true) ↔ ((length (added_bytes s.next acts) ≤ place) × (has_ended_well s.next acts ≡ true))
