-- Laws of every store that is what its past says (own).
use Rattle.std.specs.Prelude.{ℕ, ◌≡◌, ◌≢◌, ◌<◌, ◌≤◌, ◌⊎◌, ◌↔◌, ◌++◌, ◌∷◌, Bool, true, false, ◌&&◌, not, Some, None, is_some, List, length, take}
use Rattle.std.specs.FinMap.{get}
use Rattle.std.specs.Option.{option_map}
use Rattle.std.specs.List.{list_any}
use Rattle.pcache_base.specs.declared.poll.Poll.TheVariants.{Ready}
use Rattle.pcache_meta.specs.Meta.{Meta}
use Rattle.pcache_store.specs.Store.{Store, Stored, Reader, Whole, Part, find, is_untouched, complete_body, write_read, read_of}
use Rattle.pcache_store.specs.Past.{Note, Finished, Purged}
use Rattle.pcache_store.specs.PastSays.{option_any, write_of, is_of, in_flight, body_of, is_removed, is_open, last_finished, finishes, write_finished, complete}

-- a write of the key, in flight or the one that was finished last, met no removal since it began
abbrev pub HasUntouched : ℕ → List Note → Type 0
HasUntouched k past = (w : ℕ) × (is_of k w past ≡ true) × ((in_flight w past ≡ true) ⊎ (last_finished k past ≡ Some w)) × (is_removed k w past ≡ false)

-- a look-up finds a key exactly when it has such a write
abbrev pub Finds : Store → List Note → Type 0
Finds s past = (k : ℕ) → (is_some (find s k) ≡ true) ↔ HasUntouched k past

-- a finish of a write in flight succeeds, unless the write is superseded, exactly when it met no removal since it began
abbrev pub Finishes : Store → List Note → Type 0
Finishes s past = (k w : ℕ) → is_of k w past ≡ true → in_flight w past ≡ true → (is_untouched s w ≡ true) ↔ (is_removed k w past ≡ false)

-- nothing whose write began before a purge of its key is found under the key after the purge, or can be finished, or was
-- finished since
abbrev pub PurgedIsGone : Store → List Note → Type 0
PurgedIsGone s past =
    (k w : ℕ) (later earlier : List Note) → past ≡ later ++ Purged k ∷ earlier → is_of k w earlier ≡ true
    → ((m : Meta) (r : Reader) → find s k ≡ Some (m, r) → write_read r ≢ Some w) × (is_untouched s w ≡ false) × (list_any (finishes w) later ≡ false)

-- a complete body is that of the write of the key that was finished last: the bytes of that write when it was finished, and its
-- meta, with each expiry and each meta set since
abbrev pub BodiesAreLast : Store → List Note → Type 0
BodiesAreLast s past = (k : ℕ) → complete_body (get s.slots k) ≡ complete k past

-- a body that was finished is there, and its key is found, until a removal of its key or entry, or the finish of a later write
-- of its key
abbrev pub NothingIsLost : Store → List Note → Type 0
NothingIsLost s past =
    (k w : ℕ) → last_finished k past ≡ Some w → is_removed k w past ≡ false
    → (b : Stored) × (complete_body (get s.slots k) ≡ Some b) × (b.meta.entry_id ≡ Some w) × (Some b.bytes ≡ option_map (λ r. r.bytes) (write_finished w past)) × (is_some (find s k) ≡ true)

-- what is found is a reader of a write of the key in flight, from its beginning, with the meta of the write; or of the whole body
-- of the write that was finished last. Either meta has the number of its write
abbrev pub IsOfItsWrite : ℕ → List Note → Meta → Reader → Type 0
IsOfItsWrite k past m (Part w place) = (place ≡ 0) × (is_open k w past ≡ true) × (option_map (λ r. r.meta) (write_of w past) ≡ Some m) × (m.entry_id ≡ Some w)
IsOfItsWrite k past m (Whole id body start stop done) =
    (w : ℕ) × (last_finished k past ≡ Some w) × (id ≡ Some w) × (m.entry_id ≡ Some w) × (complete k past ≡ Some (record { meta = m; bytes = body })) × ((start ≡ 0) × (stop ≡ length body))

abbrev pub FoundIsOfItsWrite : Store → List Note → Type 0
FoundIsOfItsWrite s past = (k : ℕ) (m : Meta) (r : Reader) → find s k ≡ Some (m, r) → IsOfItsWrite k past m r

-- a write of the key that can be found: in flight or the one that was finished last, and it met no removal since it began
abbrev pub CanBeFound : ℕ → ℕ → List Note → Type 0
CanBeFound k w past = (is_open k w past ≡ true) ⊎ ((last_finished k past ≡ Some w) × (is_removed k w past ≡ false))

-- where the newest response is preferred: what is found is of the newest write of the key that can be found
abbrev pub NewestStands : Store → List Note → Type 0
NewestStands s past =
    (k w v : ℕ) (m : Meta) (r : Reader) → find s k ≡ Some (m, r) → write_read r ≡ Some w → CanBeFound k v past → v ≤ w

-- where the newest response is preferred: a write that was finished replaced no complete body of a newer one
abbrev pub BodiesGetNewer : List Note → Type 0
BodiesGetNewer past =
    (k v w : ℕ) (b : Stored) (later earlier : List Note) → past ≡ later ++ Finished w ∷ earlier → is_of k w earlier ≡ true
    → complete k earlier ≡ Some b → b.meta.entry_id ≡ Some v → v < w

-- whether more bytes of a write can come: it is in flight, and its end was not announced
abbrev pub may_grow : ℕ → List Note → Bool
may_grow w past = option_any (λ r. r.flying && not r.told) (write_of w past)

-- a read of a write that is kept gives all that was written and not yet read, in order; it ends only when all is read and no
-- more can come
abbrev pub ReadsInOrder : Store → List Note → Type 0
ReadsInOrder s past =
    (w place : ℕ) → is_some (get s.writes w) ≡ true
    → ((piece : List ℕ) → read_of s (Part w place) ≡ Ready (Some piece) → take place (body_of w past) ++ piece ≡ body_of w past)
    × (read_of s (Part w place) ≡ Ready None → (length (body_of w past) ≤ place) × (may_grow w past ≡ false))

-- what was written of a write stays as it is, and more bytes come after it
abbrev pub BodiesGrow : Store → List Note → Type 0
BodiesGrow s past =
    (w : ℕ) (later earlier : List Note) → past ≡ later ++ earlier → is_some (write_of w earlier) ≡ true
    → (more : List ℕ) × (body_of w past ≡ body_of w earlier ++ more)
