-- Invariants of every legal history (own): numbers are given in order, keys that stand are tracked exactly, and the complete
-- bodies are within the limits.
use Rattle.std.specs.Prelude.{◌≡◌, ℕ, ◌≤◌, true, false, ◌&&◌, if◌then◌else◌, Option, None, Some, is_some, IfSome, List, [], ◌∷◌}
use Rattle.std.specs.FinMap as map
use Rattle.pcache_evict.specs.declared.eviction.entry_key.CacheEntryKey.{CacheEntryKey}
use Rattle.pcache_evict.specs.Entry.{id_of}
use Rattle.pcache_evict.specs.Tracked.{Tracked, Limits}
use Rattle.pcache_history.specs.declared.entry.Event.{Event}
use Rattle.pcache_history.specs.declared.entry.Event.TheVariants.{Admit}
use Rattle.pcache_history.specs.Events as ev
use Rattle.pcache_history.specs.Events.{begun, begin_of, is_removed, has_ended, was_stored, is_told, is_of, last_finished, complete, tracked, stored, slots, names_slot, stored_size}

-- numbers are given in order, and each finished write was begun for its key
pub record IsTidy (es : List Event) : Type 0 where
  pub unbegun : (w : ℕ) → begun es ≤ w → begin_of w es ≡ None
  pub not_ended : (w : ℕ) → begun es ≤ w → has_ended w es ≡ false
  pub no_body : (w : ℕ) → begun es ≤ w → ev.body_of w es ≡ []
  pub not_told : (w : ℕ) → begun es ≤ w → is_told w es ≡ false
  pub not_stored : (w : ℕ) → begun es ≤ w → was_stored w es ≡ false
  pub finished : (k w : ℕ) → last_finished k es ≡ Some w → (has_ended w es ≡ true) × (is_of k w es ≡ true) × (was_stored w es ≡ true)

-- the entry with a number that was admitted last for a key
abbrev pub admits : ℕ → Event → Option CacheEntryKey → Option CacheEntryKey
admits k (Admit e n out) before = if names_slot k e && is_some (id_of e) then Some e else before
admits k _ before = before

abbrev pub standing_entry : ℕ → List Event → Option CacheEntryKey
standing_entry k [] = None
standing_entry k (e ∷ es) = admits k e (standing_entry k es)

-- of each key that stands, the entry that was admitted last for it has the number of its last finished write, and is tracked
-- with exactly the length of its body
abbrev pub IsExact : Tracked → List Event → Type 0
IsExact start es = (k : ℕ) (b : _) → complete k es ≡ Some b
    → (e : CacheEntryKey) × (standing_entry k es ≡ Some e) × (map.get (tracked start es) e ≡ Some (stored_size b)) × (id_of e ≡ last_finished k es)

-- the complete bodies are within the limits
pub record IsBounded (limits : Limits) (es : List Event) : Type 0 where
  pub bytes : stored es ≤ limits.weight
  pub count : IfSome limits.watermark (λ most. slots es ≤ most)
