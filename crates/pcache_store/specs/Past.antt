-- What happened to a store, and where it leads (own). Notes are listed newest first.
use Rattle.std.specs.Prelude.{ℕ, ◌≡◌, Bool, true, false, Some, List, [], ◌∷◌}
use Rattle.std.specs.FinMap.{empty}
use Rattle.pcache_meta.specs.Meta.{Meta}
use Rattle.pcache_store.specs.Store.{Store, Part, begun, wrote, finished, is_superseded, is_untouched, dropped, purged, write_purged, meta_set, joined, left}
use Rattle.pcache_store.specs.Purge.{expired_at}

-- a call that did something to a store
pub data Note : Type 0 where
  -- a write of a key's slot began, with this number and the meta that it was given
  Began : (k n : ℕ) (m : Meta) → Note
  -- bytes were added to a write, and its end was announced or not
  Wrote : (n : ℕ) (bytes : List ℕ) (eof : Bool) → Note
  -- a write was finished: its body was stored
  Finished : (n : ℕ) → Note
  -- a write was dropped, or its finish failed
  Dropped : (n : ℕ) → Note
  -- everything of a key was removed
  Purged : (k : ℕ) → Note
  -- one write of a key, or its body, was removed
  WritePurged : (k n : ℕ) → Note
  -- the meta of a key's complete body was set
  MetaSet : (k : ℕ) (m : Meta) → Note
  -- the freshness of a key's complete body was ended, at this moment if it ended later
  Expired : (k now : ℕ) → Note
  -- a reader of a write was given
  Joined : (n : ℕ) → Note
  -- a reader of a write was let go
  Left : (n : ℕ) → Note

-- what a call makes of a store
abbrev pub Leads : Note → Store → Store → Type 0
Leads (Began k n m) s t = (n ≡ s.next) × (t ≡ begun s k m)
Leads (Wrote n bytes eof) s t = t ≡ wrote s n bytes eof
Leads (Finished n) s t = (is_untouched s n ≡ true) × (is_superseded s n ≡ false) × (t ≡ finished s n)
Leads (Dropped n) s t = t ≡ dropped s n
Leads (Purged k) s t = t ≡ purged s k
Leads (WritePurged k n) s t = t ≡ write_purged s k n
Leads (MetaSet k m) s t = t ≡ meta_set m s k
Leads (Expired k now) s t = t ≡ expired_at now s (Some k)
Leads (Joined n) s t = t ≡ joined s n
Leads (Left n) s t = t ≡ left s (Part n 0)

-- an empty store whose next write has this number, and which prefers the newest response or not
abbrev pub empty_from : ℕ → Bool → Store
empty_from start newest = record { slots = empty; writes = empty; next = start; newest = newest }

-- a past leads from one store to another
abbrev pub PastLeads : List Note → Store → Store → Type 0
PastLeads [] s t = t ≡ s
PastLeads (note ∷ before) s t = (m : Store) × (PastLeads before s m × Leads note m t)

-- a store is what its past made of an empty one
abbrev pub IsWhatPastSays : Store → List Note → Type 0
IsWhatPastSays t past = (start : ℕ) × PastLeads past (empty_from start t.newest) t
