-- How requests of a cache are opened and ended (own).
use Rattle.std.specs.Prelude.{◌≡◌, ◌⊎◌, ℕ, [], Option, None, Some, true, false}
use Rattle.std.specs.FinMap.{empty}
use Rattle.pcache_base.specs.Key.{Key}
use Rattle.pcache_cache.specs.Ending as ending
use Rattle.pcache_cache.specs.Fetching.{no_purges}
use Rattle.pcache_cache.specs.Parts.{Parts}
use Rattle.pcache_cache.specs.declared.weighing.Weighing.{Weighing}
use Rattle.pcache_evict.specs.Tracked.{Evicted, Limits, Tracked}
use Rattle.pcache_lock.specs.Locks.{no_locks}
use Rattle.pcache_request.specs.Requests.{enabled_with, new_request, with_key}
use Rattle.pcache_request.specs.declared.cache.report.LockName.{LockName}
use Rattle.pcache_c.specs.Codes.{bad_handle, no_memory, ok}
use Rattle.pcache_c.specs.Handles.{Turns}
use Rattle.pcache_c.specs.Objects.{as_cache}
use Rattle.pcache_c.specs.Requests.{LetsGoFound, pair_found}
use Rattle.pcache_c.specs.Seats.{AreSame, IsGone, IsInRound, IsSet, request_at}
use Rattle.pcache_c.specs.declared.object.Object.{Object}
use Rattle.pcache_c.specs.declared.served.Open.{Open}
use Rattle.pcache_c.specs.declared.served.Served.{Served}

-- a cache over a manager that tracks this, with these limits and totals, with nothing stored, whose entries weigh so, and whose
-- permits age out after so many nanoseconds
abbrev pub new_cache : Weighing → Tracked → Limits → Evicted → ℕ → Parts
new_cache how tracked limits evicted age = record {
  store = record { slots = empty; writes = empty; next = 0; newest = true };
  past = [];
  weighing = how;
  tracked = tracked;
  limits = limits;
  evicted = evicted;
  locks = no_locks age;
  deeds = [];
  purges = no_purges;
}

-- a request of a key before its look-up
pub record IsNew (key : Key) (o : Open) : Type 0 where
  pub request : o.request.cache ≡ with_key key (enabled_with (record { eviction = true; predictor = false; lock = true }) new_request)
  pub fetch : o.request.fetch ≡ None
  pub found : o.found ≡ None
  pub piece : o.piece ≡ []

-- a request of a key is open, under the number of its place in the round that this place is in, which no open request had; or
-- there was no memory for it
pub record OpensRequest (key : Key) (s t : Served) (number code : ℕ) : Type 0 where
  pub cache : t.cache ≡ s.cache
  pub counts : t.counts ≡ s.counts
  pub how : ((code ≡ ok) × (request_at s.seats number ≡ None) × IsInRound number s.seats × (o : Open) × IsNew key o × IsSet number o s.seats t.seats)
      ⊎ ((code ≡ no_memory) × AreSame s.seats t.seats)

abbrev pub Opens : Key → Object → Object → ℕ → ℕ → Type 0
Opens key old new number code = Turns as_cache old new code (λ s t. OpensRequest key s t number code)

-- a request gives back what it holds: what a look-up found, its write, its reader and its lock
pub record EndsRequest (c d : Parts) (o : Open) : Type 0 where
  pub between : Parts
  pub lets_go : LetsGoFound (pair_found o) c between
  pub let_go : Option LockName
  pub takes : ending.EndsRequest let_go o.request.cache between d

-- the request of a number is ended, if there is one
abbrev pub EndsOpen : Option Open → Parts → Parts → ℕ → Type 0
EndsOpen None c d code = (code ≡ bad_handle) × (d ≡ c)
EndsOpen (Some o) c d code = (code ≡ ok) × EndsRequest c d o

-- the request of a number is ended, and its place is one round further
pub record EndsNumber (number : ℕ) (s t : Served) (code : ℕ) : Type 0 where
  pub cache : EndsOpen (request_at s.seats number) s.cache t.cache code
  pub counts : t.counts ≡ s.counts
  pub gone : IsGone number s.seats t.seats

abbrev pub Ends : ℕ → Object → Object → ℕ → Type 0
Ends number old new code = Turns as_cache old new code (λ s t. EndsNumber number s t code)
