-- The events of a trace's requests, one after the other (own).
use Rattle.std.specs.Prelude.{◌≡◌, ℕ, ◌+◌, Bool, true, false, ◌&&◌, ◌<◌, ◌≤◌, Option, List, [], ◌∷◌, length}
use Rattle.std.specs.FinMap.{contains_key}
use Rattle.pcache_evict.specs.declared.eviction.entry_key.CacheEntryKey.{CacheEntryKey}
use Rattle.pcache_evict.specs.Tracked.{Tracked, Limits}
use Rattle.cache_simulation.specs.declared.run.Request.{Request}
use Rattle.cache_simulation.specs.declared.counts.Counts.{Counts}
use Rattle.cache_simulation.specs.Fresh.{Fresh, is_fresh, noted}
use Rattle.cache_simulation.specs.Events.{Event, Hit, Came, Renewed, Passed, comes, Leads, hits_of, hit_bytes_of, bytes_of}

-- the rules of a cache: its limits, the size of the largest body that is stored, and whether a body past its time is removed and
-- added anew (if not, that is a use of its entry)
pub record Rules : Type 0 where
  pub limits : Limits
  pub most : ℕ
  pub replaces : Bool

abbrev pub rules_of : Limits → ℕ → Bool → Rules
rules_of limits most replaces = record { limits = limits; most = most; replaces = replaces }

-- what is tracked, and what is recorded of freshness
pub record State : Type 0 where
  pub tracked : Tracked
  pub fresh : Option Fresh

abbrev pub state : Tracked → Option Fresh → State
state m f = record { tracked = m; fresh = f }

-- the event of a request: a hit, if its body is stored and fresh; otherwise it is not stored if its body is too large, and else
-- its body is added, anew or not
pub record IsEvent (is_there anew : Bool) (most : ℕ) (k : CacheEntryKey) (n : ℕ) (e : Event) : Type 0 where
  pub hit : is_there ≡ true → e ≡ Hit k n
  pub passed : is_there ≡ false → most < n → e ≡ Passed k n
  pub came : is_there ≡ false → n ≤ most → (out : List CacheEntryKey) × (e ≡ comes anew k n out)

-- what is recorded of freshness after an event at a moment
abbrev pub fresh_after : Event → ℕ → Option Fresh → Option Fresh
fresh_after (Hit k n) now f = f
fresh_after (Came k n out) now f = noted k now out f
fresh_after (Renewed k n out) now f = noted k now out f
fresh_after (Passed k n) now f = f

-- a request has this event, which leads from one state to the other
pub record Becomes (rules : Rules) (s : State) (asked : Request) (e : Event) (t : State) : Type 0 where
  pub event : IsEvent (contains_key s.tracked asked.item && is_fresh s.fresh asked.item asked.time) (rules.replaces && contains_key s.tracked asked.item) rules.most asked.item asked.size e
  pub leads : Leads rules.limits s.tracked e t.tracked
  pub fresh : t.fresh ≡ fresh_after e asked.time s.fresh

-- these requests have these events, one each and in their order
abbrev pub Plays : Rules → State → List Request → List Event → State → Type 0
Plays rules s [] [] t = t ≡ s
Plays rules s [] (e ∷ es) t = ⊥
Plays rules s (a ∷ requests) [] t = ⊥
Plays rules s (a ∷ requests) (e ∷ es) t = (between : State) × Becomes rules s a e between × Plays rules between requests es t

-- events are counted: each as a request for its bytes, and the hits as hits
pub record IsCounted (old : Counts) (es : List Event) (new : Counts) : Type 0 where
  pub requests : new.requests ≡ old.requests + length es
  pub bytes : new.bytes ≡ old.bytes + bytes_of es
  pub hits : new.hits ≡ old.hits + hits_of es
  pub hit_bytes : new.hit_bytes ≡ old.hit_bytes + hit_bytes_of es
