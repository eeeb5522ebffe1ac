-- Queues of entries, the newest first, with what a policy knows of each (own).
use Rattle.std.specs.Prelude.{◌≡◌, ℕ, ◌+◌, ◌-◌, ◌^◌, ◌<◌, ◌≤◌, not, Option, List, map, length, min, All, if◌then◌else◌}
use Rattle.std.specs.List.{IsDistinct, filter}
use Rattle.std.specs.Map.{lookup, keys_of}
use Rattle.lru.specs.LruCache.{LruCache}
use Rattle.pcache_evict.specs.declared.eviction.entry_key.CacheEntryKey.{CacheEntryKey}
use Rattle.pcache_evict.specs.Entry.{entry_eq}
use Rattle.pcache_evict.specs.Recency.{Recency, weight}
use Rattle.pcache_policies.specs.declared.queue.Seen.{Seen}

-- entries, each with what a policy knows of it
abbrev pub Queue : Type 0
Queue = List (CacheEntryKey × Seen)

-- the entries with their weights alone
abbrev pub plain : Queue → Recency
plain q = map (λ (e : CacheEntryKey × Seen). (e.0, e.1.weight)) q

-- the entries as a manager shows them: each with its weight and how often it was used, as far as the policy counts
abbrev pub queue_shown : Queue → List (CacheEntryKey × ℕ × ℕ)
queue_shown q = map (λ (e : CacheEntryKey × Seen). (e.0, e.1.weight, e.1.uses)) q

-- no entry occurs twice
abbrev pub IsOnce : Queue → Type 0
IsOnce q = IsDistinct entry_eq (keys_of q)

-- what is known of an entry
abbrev pub seen_of : CacheEntryKey → Queue → Option Seen
seen_of k q = lookup (entry_eq k) q

-- the queue without an entry
abbrev pub rest_of : CacheEntryKey → Queue → Queue
rest_of k q = filter (λ e. not (entry_eq k e.0)) q

-- the queue with this record of an entry, wherever the entry is
abbrev pub reseen : CacheEntryKey → Seen → Queue → Queue
reseen k v q = map (λ (e : CacheEntryKey × Seen). if entry_eq k e.0 then (e.0, v) else e) q

-- the record of an entry of this weight: not used, its bit clear; and used, its bit set
abbrev pub unused : ℕ → Seen
unused n = record { weight = n; uses = 0 }

abbrev pub used : ℕ → Seen
used n = record { weight = n; uses = 1 }

-- the record of an entry after one more use, counted up to 3, and of one that went round the main queue once
abbrev pub reused : Seen → Seen
reused v = record v { uses = min (v.uses + 1) 3 }

abbrev pub spent : Seen → Seen
spent v = record v { uses = v.uses - 1 }

-- the invariant of the code's queue
pub record IsKept (cache : LruCache CacheEntryKey Seen) (total : ℕ) : Type 0 where
  pub summed : total ≡ weight (plain cache.entries)
  pub room : cache.cap ≡ 2 ^ 64 - 1
  pub few : length cache.entries < 2 ^ 63
  pub small : All (λ e. e.1.weight ≤ 2 ^ 64 - 1) cache.entries
  pub once : IsOnce cache.entries
