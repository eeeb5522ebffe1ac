-- What a cache counts (own).
use Rattle.std.specs.Prelude.{◌+◌, ◌-◌, ◌==◌, ◌^◌, ℕ, cond, min}
use Rattle.pcache_request.specs.declared.phase.HitStatus.{HitStatus}
use Rattle.pcache_request.specs.declared.phase.HitStatus.TheVariants as status
use Rattle.pcache_c.specs.Codes.{ok}
use Rattle.pcache_c.specs.declared.counts.PcacheCounted.{PcacheCounted}

-- nothing was counted yet
abbrev pub nothing_counted : PcacheCounted
nothing_counted = record { hits = 0; stale_hits = 0; misses = 0; waits = 0; fills = 0 }

-- what a call makes of the counts
abbrev pub Counting : Type 0
Counting = PcacheCounted → PcacheCounted

-- one more, up to the largest number
abbrev pub one_more : ℕ → ℕ
one_more n = min (n + 1) (2 ^ 64 - 1)

-- only a call that is done counts
abbrev pub when_done : ℕ → Counting → Counting
when_done code counting k = cond (code == ok) (counting k) k

-- what was found is taken: as fresh it is a hit, and as expired a stale one; what is let go is none
abbrev pub taken_as : HitStatus → Counting
taken_as status.Fresh k = record k { hits = one_more k.hits }
taken_as status.ForceFresh k = record k { hits = one_more k.hits }
taken_as status.Expired k = record k { stale_hits = one_more k.stale_hits }
taken_as status.ForceExpired k = record k { stale_hits = one_more k.stale_hits }
taken_as status.ForceExpiredServeStale k = record k { stale_hits = one_more k.stale_hits }
taken_as status.ForceMiss k = k
taken_as status.FailedHitFilter k = k

-- a request goes on as a miss
abbrev pub missed : Counting
missed k = record k { misses = one_more k.misses }

-- a wait ended; 0 says that it goes on
abbrev pub waited : ℕ → Counting
waited outcome k = cond (outcome == 0) k (record k { waits = one_more k.waits })

-- a body was stored
abbrev pub filled : Counting
filled k = record k { fills = one_more k.fills }

-- the call counts nothing
abbrev pub counts_nothing : Counting
counts_nothing k = k
