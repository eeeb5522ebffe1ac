-- Entries that are tracked beside those of the complete bodies (own): with each call that is made for the key of its slot, what is
-- tracked stays what is stored.
use Rattle.std.specs.Prelude.{ℕ, ◌≡◌, ◌⊎◌, Bool, true, false, Option, Some, None}
use Rattle.std.specs.FinMap.{get, len}
use Rattle.pcache_base.specs.CompactKey.{compact_of}
use Rattle.pcache_base.specs.Key.{Key, slot}
use Rattle.pcache_base.specs.declared.key.CompactCacheKey.{CompactCacheKey}
use Rattle.pcache_evict.specs.Tracked.{Tracked, weight}
use Rattle.pcache_evict.specs.declared.eviction.entry_key.CacheEntryKey.{CacheEntryKey}
use Rattle.pcache_evict.specs.declared.eviction.entry_key.CacheEntryKey.TheVariants.{Identified}
use Rattle.pcache_request.specs.Finishing.{entry_slot}
use Rattle.pcache_store.specs.Store.{Store, Stored, complete_body}
use Rattle.pcache_store.specs.Totals.{slots}
use Rattle.pcache_cache.specs.Parts.{Parts}
use Rattle.pcache_cache.specs.Weighing.{body_weight, stored_weight}
use Rattle.pcache_cache.specs.declared.weighing.Weighing.{Weighing}

-- the key of each slot, with its tag; and the entries that are left out of account, as those that a loaded manager brought in
pub record Account : Type 0 where
  pub key_of_slot : ℕ → CompactCacheKey
  pub is_left_out : CacheEntryKey → Bool

-- a key, if there is one, is that of its slot: it has the same hash and tag as all others that were ever used
abbrev pub IsItsKey : Account → Option Key → Type 0
IsItsKey of None = Unit {0}
IsItsKey of (Some k) = compact_of k ≡ of.key_of_slot (slot k)

-- the body that is complete under a key is of the write with this number, and weighs so much
abbrev pub IsBody : Weighing → Store → ℕ → ℕ → ℕ → Type 0
IsBody how s k w n = (b : Stored) × (complete_body (get s.slots k) ≡ Some b) × (b.meta.entry_id ≡ Some w) × (n ≡ body_weight how b)

-- an entry that is tracked with this weight is of its slot's key, with a number; and unless it is left out of account, it is that of
-- the key's complete body
pub record IsStored (of : Account) (how : Weighing) (s : Store) (e : CacheEntryKey) (n : ℕ) : Type 0 where
  pub number : ℕ
  pub named : e ≡ Identified (of.key_of_slot (entry_slot e)) number
  pub stored : (of.is_left_out e ≡ true) ⊎ IsBody how s (entry_slot e) number n

abbrev pub TracksOnly : Account → Weighing → Store → Tracked → Type 0
TracksOnly of how s m = (e : CacheEntryKey) (n : ℕ) → get m e ≡ Some n → IsStored of how s e n

-- if what was tracked was stored, so is what is tracked after a call for this key
abbrev pub LeavesNoStray : Option Key → Parts → Parts → Type 0
LeavesNoStray key a b = (of : Account) → IsItsKey of key → TracksOnly of a.weighing a.store a.tracked → TracksOnly of b.weighing b.store b.tracked

-- where nothing else is tracked, the weights of what is tracked sum to those of what is stored, and so do the numbers
abbrev pub SumsToStored : Parts → Type 0
SumsToStored p = (of : Account) → ((e : CacheEntryKey) → of.is_left_out e ≡ false) → TracksOnly of p.weighing p.store p.tracked → (weight p.tracked ≡ stored_weight p.weighing p.store) × (len p.tracked ≡ slots p.store)
