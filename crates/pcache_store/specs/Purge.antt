-- What a removal names, and what it returns (own).
use Rattle.std.specs.Prelude.{ℕ, ◌≡◌, ◌⊎◌, ◌&&◌, Bool, Option, Some, None, is_some, cond}
use Rattle.std.specs.FinMap.{get}
use Rattle.pcache_base.specs.CompactKey.{compact_slot}
use Rattle.pcache_meta.specs.Meta as meta
use Rattle.pcache_base.specs.declared.key.CompactCacheKey.{CompactCacheKey}
use Rattle.pcache_evict.specs.Entry.{entry_with, key_of, id_of}
use Rattle.pcache_evict.specs.declared.eviction.entry_key.CacheEntryKey.{CacheEntryKey}
use Rattle.pcache_store.specs.declared.storage.PurgeTarget.{PurgeTarget}
use Rattle.pcache_store.specs.declared.storage.PurgeTarget.TheVariants.{Active, Exact}
use Rattle.pcache_store.specs.declared.storage.PurgeOutcome.{PurgeOutcome}
use Rattle.pcache_store.specs.declared.storage.PurgeOutcome.TheVariants.{NotFound, Purged, Expired}
use Rattle.pcache_store.specs.Store.{Store, Slot, Stored, Reader, complete_body, has_body_of, has_write, number_of_body, write_read, purged, write_purged, meta_changed}

-- the key that a target names
abbrev pub target_key : PurgeTarget → CompactCacheKey
target_key (Active k) = k.now
target_key (Exact e) = key_of e.now

-- the entry that a removal removed, if it returned this number
abbrev pub removed_entry : PurgeTarget → Option ℕ → CacheEntryKey
removed_entry (Active k) n = entry_with k.now n
removed_entry (Exact e) n = e.now

-- a removal of an exact target returns no number, or the target's own
abbrev pub IsNumberOf : PurgeTarget → Option ℕ → Type 0
IsNumberOf (Active k) n = Unit {0}
IsNumberOf (Exact e) n = (n ≡ None) ⊎ (n ≡ id_of e.now)

-- the number of the entry that a write with this number fills, if entries have numbers: that of the write
abbrev pub entry_given : Bool → ℕ → Option ℕ
entry_given numbers w = cond numbers (Some w) None

-- the number of the entry that a reader reads, if entries have numbers
abbrev pub entry_read : Bool → Reader → Option ℕ
entry_read numbers h = cond numbers (write_read h) None

-- the number of the entry of a complete body, if there is one and entries have numbers
abbrev pub entry_of_body : Bool → Option Stored → Option ℕ
entry_of_body numbers b = cond numbers (number_of_body b) None

-- A removal of a key removes its slot, and returns the number of the complete body.
abbrev pub purged_at : Store → Option ℕ → Store
purged_at s None = s
purged_at s (Some k) = purged s k

-- what a removal of a slot returns: the number of its complete body, if entries have numbers
abbrev pub slot_outcome : Bool → Option Slot → PurgeOutcome
slot_outcome numbers None = NotFound
slot_outcome numbers (Some x) = Purged (entry_of_body numbers x.body)

-- what a removal of a key returns
abbrev pub purge_outcome : Bool → Store → Option ℕ → PurgeOutcome
purge_outcome numbers s None = NotFound
purge_outcome numbers s (Some k) = slot_outcome numbers (get s.slots k)

-- A removal of an entry: without a number, the key's slot; with a number, the write with this number, if entries have
-- numbers.
abbrev pub entry_purged_in : Bool → Store → ℕ → Option ℕ → Store
entry_purged_in numbers s k None = purged s k
entry_purged_in numbers s k (Some n) = cond numbers (write_purged s k n) s

-- a removal of an entry, by its key and its number
abbrev pub entry_purged : Bool → Store → CacheEntryKey → Store
entry_purged numbers s e = entry_purged_in numbers s (compact_slot (key_of e)) (id_of e)

-- what a removal of an entry returns: its own number, if it has one
abbrev pub entry_answer_in : Bool → Option Slot → Option ℕ → PurgeOutcome
entry_answer_in numbers x None = cond (is_some x) (Purged None) NotFound
entry_answer_in numbers x (Some n) = cond (numbers && has_write n x) (Purged (Some n)) NotFound

-- what a removal of an entry returns, by its key and its number
abbrev pub entry_outcome : Bool → Store → CacheEntryKey → PurgeOutcome
entry_outcome numbers s e = entry_answer_in numbers (get s.slots (compact_slot (key_of e))) (id_of e)

-- what a removal of a target removes, and what it returns
abbrev pub target_purged : Bool → Store → PurgeTarget → Store
target_purged numbers s (Active k) = purged_at s (Some (compact_slot k.now))
target_purged numbers s (Exact e) = entry_purged numbers s e.now

-- what a removal of a target returns
abbrev pub target_outcome : Bool → Store → PurgeTarget → PurgeOutcome
target_outcome numbers s (Active k) = purge_outcome numbers s (Some (compact_slot k.now))
target_outcome numbers s (Exact e) = entry_outcome numbers s e.now

-- An expiry ends the freshness of the complete body, and does not change writes.
abbrev pub expired_at : ℕ → Store → Option ℕ → Store
expired_at now s None = s
expired_at now s (Some k) = meta_changed (meta.expired_at now) s k

-- what an expiry returns: whether there is a complete body
abbrev pub expire_outcome : Store → Option ℕ → PurgeOutcome
expire_outcome s None = NotFound
expire_outcome s (Some k) = cond (is_some (complete_body (get s.slots k))) Expired NotFound

-- the slot whose complete body an expiry of a target is for: that of its key, unless it names an entry by a number that is
-- not the complete body's
abbrev pub slot_if : Bool → ℕ → Option ℕ
slot_if is k = cond is (Some k) None

-- the slot that an expiry of an entry is for
abbrev pub entry_slot_expired : Bool → Store → ℕ → Option ℕ → Option ℕ
entry_slot_expired numbers s k None = Some k
entry_slot_expired numbers s k (Some n) = slot_if (numbers && has_body_of n (complete_body (get s.slots k))) k

-- the slot that an expiry of a target is for
abbrev pub slot_expired : Bool → Store → PurgeTarget → Option ℕ
slot_expired numbers s (Active k) = Some (compact_slot k.now)
slot_expired numbers s (Exact e) = entry_slot_expired numbers s (compact_slot (key_of e.now)) (id_of e.now)
