-- An open put, and the request that a world keeps for it (own). Its parser and its counter are those of the bytes of the
-- history's pieces.
use Rattle.std.specs.Prelude.{ℕ, Option, Some, [], true, false}
use Rattle.std.specs.Option.{option_map}
use Rattle.pcache_base.specs.Key.{Key}
use Rattle.pcache_response.specs.Progress.{Parsed, AtHead}
use Rattle.pcache_response.specs.Counted.{Counted}
use Rattle.pcache_put.specs.State.{Put, Stage, InHead}
use Rattle.pcache_request.specs.Requests.{Request, enabled_request}
use Rattle.pcache_request.specs.declared.phase.CachePhase.TheVariants as phase
use Rattle.pcache_request.specs.declared.phase.InUse.{InUse}

pub record Taking : Type 0 where
  pub key : Key
  -- the count of the body's bytes, if their number is limited
  pub size : Option Counted
  pub parser : Parsed
  pub stage : Stage

-- a count of zero under a limit
abbrev pub counted_none : ℕ → Counted
counted_none limit = record { bytes = 0; limit = limit }

-- a put of a key, perhaps with a limit on the number of the body's bytes
abbrev pub new_put : Key → Option ℕ → Taking
new_put k limit = record { key = k; size = option_map counted_none limit; parser = AtHead []; stage = InHead }

-- a put uses the manager, and no lock
abbrev pub put_use : InUse
put_use = record { eviction = true; predictor = false; lock = false }

-- a request that fills this key with this write, if there is one, for the entry with this number, and does nothing
-- else
abbrev pub filling : Key → Option ℕ → Option ℕ → Request
filling k w id = let made : Request = enabled_request put_use in record made { phase = phase.Miss; key = Some k; write = w; entry = id }

-- a put as its contracts see it, without its policy
abbrev pub taking : {C : Type 0} → Put C → Taking
taking p = record { key = p.key; size = p.size; parser = p.parser; stage = p.stage }
