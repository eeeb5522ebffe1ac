-- Which bodies are fresh (own; as a stored response is: up to and including the moment at which its freshness ends).
use Rattle.std.specs.Prelude.{ℕ, ◌+◌, Bool, true, false, nat_le, Option, None, Some, List}
use Rattle.std.specs.FinMap.{get, insert, empty}
use Rattle.pcache_evict.specs.declared.eviction.entry_key.CacheEntryKey.{CacheEntryKey}
use Rattle.pcache_evict.specs.Tracked.{Tracked, without}

-- for how long bodies are fresh, and when each was added, in nanoseconds
pub record Fresh : Type 0 where
  pub time : ℕ
  pub came : Tracked

abbrev pub none_fresh : ℕ → Fresh
none_fresh time = record { time = time; came = empty }

-- a body whose freshness ends at one moment is fresh at another
abbrev pub is_fresh_at : ℕ → ℕ → Bool
is_fresh_at ends now = nat_le now ends

-- a body that was added then is fresh now; one that was never added is not
abbrev pub is_fresh_since : Option ℕ → ℕ → ℕ → Bool
is_fresh_since None time now = false
is_fresh_since (Some came) time now = is_fresh_at (came + time) now

-- a body is fresh; without a time it always is
abbrev pub is_fresh : Option Fresh → CacheEntryKey → ℕ → Bool
is_fresh None k now = true
is_fresh (Some f) k now = is_fresh_since (get f.came k) f.time now

-- what is recorded after a body was added and these were evicted
abbrev pub noted : CacheEntryKey → ℕ → List CacheEntryKey → Option Fresh → Option Fresh
noted k now out None = None
noted k now out (Some f) = Some (record f { came = without out (insert f.came k now) })
