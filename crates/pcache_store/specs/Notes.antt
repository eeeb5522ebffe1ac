-- What each call adds to a store's past (own): one note, or none if it did nothing to the store.
use Rattle.std.specs.Prelude.{ℕ, Bool, Option, None, Some, List, ◌∷◌, cond}
use Rattle.std.specs.Option.{option_map}
use Rattle.pcache_base.specs.CompactKey.{compact_slot}
use Rattle.pcache_evict.specs.Entry.{id_of}
use Rattle.pcache_meta.specs.Meta.{Meta}
use Rattle.pcache_store.specs.declared.storage.PurgeTarget.{PurgeTarget}
use Rattle.pcache_store.specs.declared.storage.PurgeTarget.TheVariants.{Active, Exact}
use Rattle.pcache_store.specs.Store.{Store, Reader, Whole, Part}
use Rattle.pcache_store.specs.Past.{Note, Purged, WritePurged, Expired, Joined, Left}
use Rattle.pcache_store.specs.Purge.{target_key}

-- a store, and all that was done to it, the newest first
pub record Known : Type 0 where
  pub state : Store
  pub past : List Note

-- a past with one more note, if there is one
abbrev pub added : Option Note → List Note → List Note
added None past = past
added (Some note) past = note ∷ past

-- the same of a storage that may keep no past: then it has none afterwards
abbrev pub noted : Option Note → Option (List Note) → Option (List Note)
noted note = option_map (added note)

-- a look-up that found this: a reader of a write was given, and for all else nothing was done
abbrev pub joined_by : Reader → Option Note
joined_by (Whole id body start stop done) = None
joined_by (Part n place) = Some (Joined n)

abbrev pub look_noted : Option (Meta × Reader) → Option Note
look_noted None = None
look_noted (Some p) = joined_by p.1

-- a reader that was let go
abbrev pub leave_noted : Reader → Option Note
leave_noted (Whole id body start stop done) = None
leave_noted (Part n place) = Some (Left n)

-- the number of the entry that a target names, if it names one
abbrev pub target_id : PurgeTarget → Option ℕ
target_id (Active k) = None
target_id (Exact e) = id_of e.now

-- a removal of everything of a slot, or of one write of it, which is none where entries have no numbers
abbrev pub removal_noted : Bool → ℕ → Option ℕ → Option Note
removal_noted numbers k None = Some (Purged k)
removal_noted numbers k (Some n) = cond numbers (Some (WritePurged k n)) None

abbrev pub purge_noted : Bool → PurgeTarget → Option Note
purge_noted numbers t = removal_noted numbers (compact_slot (target_key t)) (target_id t)

-- an expiry at a moment, if it was for the complete body of a slot
abbrev pub expiry_noted : ℕ → Option ℕ → Option Note
expiry_noted now None = None
expiry_noted now (Some k) = Some (Expired k now)
