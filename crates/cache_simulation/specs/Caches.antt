-- The caches of a simulation, and what their rows say (own).
use Rattle.std.specs.Prelude.{◌≡◌, ℕ, ◌*◌, ◌-◌, ◌^◌, min, Option, List, ◌++◌, option_map, if◌then◌else◌}
use Rattle.std.specs.List.{All}
use Rattle.pcache_evict.specs.declared.eviction.policy.EvictionPolicy.{EvictionPolicy}
use Rattle.pcache_evict.specs.declared.eviction.policy.EvictionPolicy.TheVariants as eviction
use Rattle.pcache_evict.specs.Tracked.{limits_of, weight}
use Rattle.pcache_evict.specs.Listed.{map_of}
use Rattle.pcache_evict.specs.Policy.{Policy, lru, sharded}
use Rattle.pcache_policies.specs.Sieve.{sieve_policy}
use Rattle.pcache_policies.specs.S3Fifo.{s3_fifo_policy}
use Rattle.pcache_policies.specs.OneQueue.{fifo, clock}
use Rattle.pcache_policies.specs.TwoQueues.{two_queues_policy}
use Rattle.cache_simulation.specs.declared.cache.AnyRun.{AnyRun}
use Rattle.cache_simulation.specs.declared.cache.AnyRun.TheVariants as run
use Rattle.cache_simulation.specs.declared.cache.Cache.{Cache}
use Rattle.cache_simulation.specs.declared.cache.Span.{Span}
use Rattle.cache_simulation.specs.declared.cache.Told.{Told}
use Rattle.cache_simulation.specs.declared.counts.Counts.{Counts}
use Rattle.cache_simulation.specs.declared.options.Policy.{Policy as Named}
use Rattle.cache_simulation.specs.declared.options.Policy.TheVariants as named
use Rattle.cache_simulation.specs.declared.options.Setting.{Setting}
use Rattle.cache_simulation.specs.declared.report.Row.{Row}
use Rattle.cache_simulation.specs.declared.run.Request.{Request}
use Rattle.cache_simulation.specs.declared.runs.Runs.{Runs}
use Rattle.cache_simulation.specs.Events.{Event}
use Rattle.cache_simulation.specs.Fresh.{Fresh, none_fresh}
use Rattle.cache_simulation.specs.Plays.{Rules, rules_of}
use Rattle.cache_simulation.specs.Replays.{Place, Replays, Served, gone_of, place}
use Rattle.cache_simulation.specs.Sampled.{expected, expected_bytes}

-- the largest number
abbrev pub largest : ℕ
largest = 2 ^ 64 - 1

-- what is told of requests after others is what the plain run of a policy gives: it begins empty, the requests before lead it to a
-- place, and the counts are those of the events from there on; and the bytes are those of its entries in the end
pub record RanAs {O : Type 0} (p : Policy O) (before asked : List Request) (rules : Rules) (start : Option Fresh) (told : Told) : Type 0 where
  pub past : List Event
  pub mark : Place O
  pub led : Replays p rules (place p.none start) before past mark
  pub gone : ℕ
  pub now : Place O
  pub served : Served p rules mark asked told.counts (min (gone_of past) largest) gone now
  pub evicted : told.evicted ≡ gone - min (gone_of past) largest
  pub bytes : told.tracked ≡ min (weight (map_of (p.entries now.order))) largest

-- the same of the policy that is named
abbrev pub RanBy : Named → List Request → List Request → Rules → Option Fresh → Told → Type 0
RanBy named.Lru = RanAs lru
RanBy named.Sharded = RanAs (sharded 16)
RanBy named.Sieve = RanAs sieve_policy
RanBy named.S3Fifo = RanAs s3_fifo_policy
RanBy named.Fifo = RanAs fifo
RanBy named.Clock = RanAs clock
RanBy named.TwoQueues = RanAs two_queues_policy

abbrev pub Ran : List Request → List Request → Rules → Option Fresh → Told → Type 0
Ran before asked rules start told = RanBy told.policy before asked rules start told

-- a run of a policy has served these requests by these rules, after those before the mark, at which so many entries had gone
pub record StandsAs {O : Type 0} (p : Policy O) (before asked : List Request) (rules : Rules) (start : Option Fresh) (base : ℕ) (kept : Rules) (counts : Counts) (gone : ℕ) (now : Place O) : Type 0 where
  pub by : kept ≡ rules
  pub past : List Event
  pub mark : Place O
  pub led : Replays p rules (place p.none start) before past mark
  pub first : base ≡ min (gone_of past) largest
  pub served : Served p rules mark asked counts base gone now

abbrev pub Stands : List Request → List Request → Rules → Option Fresh → ℕ → AnyRun → Type 0
Stands before asked rules start base (run.Lru r) = StandsAs lru before asked rules start base (rules_of r.manager.limits r.most r.replaces) r.counts r.manager.evicted.count (place r.manager.entries r.freshness)
Stands before asked rules start base (run.Sharded r) = StandsAs (sharded 16) before asked rules start base (rules_of r.manager.limits r.most r.replaces) r.counts r.manager.evicted.count (place r.manager.shards r.freshness)
Stands before asked rules start base (run.Sieve r) = StandsAs sieve_policy before asked rules start base (rules_of r.manager.limits r.most r.replaces) r.counts r.manager.evicted.count (place r.manager.order r.freshness)
Stands before asked rules start base (run.S3Fifo r) = StandsAs s3_fifo_policy before asked rules start base (rules_of r.manager.limits r.most r.replaces) r.counts r.manager.evicted.count (place r.manager.order r.freshness)
Stands before asked rules start base (run.Fifo r) = StandsAs fifo before asked rules start base (rules_of r.manager.limits r.most r.replaces) r.counts r.manager.evicted.count (place r.manager.order r.freshness)
Stands before asked rules start base (run.Clock r) = StandsAs clock before asked rules start base (rules_of r.manager.limits r.most r.replaces) r.counts r.manager.evicted.count (place r.manager.order r.freshness)
Stands before asked rules start base (run.TwoQueues r) = StandsAs two_queues_policy before asked rules start base (rules_of r.manager.limits r.most r.replaces) r.counts r.manager.evicted.count (place r.manager.order r.freshness)

abbrev pub policy_of : AnyRun → Named
policy_of (run.Lru r) = named.Lru
policy_of (run.Sharded r) = named.Sharded
policy_of (run.Sieve r) = named.Sieve
policy_of (run.S3Fifo r) = named.S3Fifo
policy_of (run.Fifo r) = named.Fifo
policy_of (run.Clock r) = named.Clock
policy_of (run.TwoQueues r) = named.TwoQueues

-- the policy of a manager, by the simulator's name for it
abbrev pub goes_by : Named → EvictionPolicy
goes_by named.Lru = eviction.Lru
goes_by named.Sharded = eviction.ShardedLru
goes_by named.Sieve = eviction.Sieve
goes_by named.S3Fifo = eviction.S3Fifo
goes_by named.Fifo = eviction.Fifo
goes_by named.Clock = eviction.Clock
goes_by named.TwoQueues = eviction.TwoQueues

-- what a run has counted
abbrev pub counts_of : AnyRun → Counts
counts_of (run.Lru r) = r.counts
counts_of (run.Sharded r) = r.counts
counts_of (run.Sieve r) = r.counts
counts_of (run.S3Fifo r) = r.counts
counts_of (run.Fifo r) = r.counts
counts_of (run.Clock r) = r.counts
counts_of (run.TwoQueues r) = r.counts

-- the size of the largest body that a cache with this limit stores
abbrev pub most_in : Setting → ℕ → ℕ
most_in s limit = if s.passes_by then limit else largest

-- the rules of a cache of this policy that has this size over all keys
abbrev pub rules_in : Named → Setting → ℕ → Rules
rules_in policy s size = rules_of (limits_of (goes_by policy) (expected s.sample.rate size) (option_map (expected s.sample.rate) s.watermark)) (most_in s (expected s.sample.rate size)) s.replaces

-- what is recorded of freshness before the first request
abbrev pub start_in : Setting → Option Fresh
start_in s = option_map (λ t. none_fresh (t * 1000000000)) s.ttl

-- a cache has served these requests after those before the mark
abbrev pub StandsIn : Setting → List Request → List Request → Cache → Type 0
StandsIn setting before asked c = Stands before asked (rules_in (policy_of c.run) setting c.size) (start_in setting) c.gone c.run

-- the policy of a cache and its size
abbrev pub shape_of : Cache → Named × ℕ
shape_of c = (policy_of c.run, c.size)

-- each of these caches had these requests made to it after those that it had
pub record MakesEach (requests : List Request) (old new : List Cache) : Type 0 where
  pub each : (setting : Setting) (before asked : List Request) → All (StandsIn setting before asked) old → All (StandsIn setting before (asked ++ requests)) new

-- all caches have
abbrev pub HasPlayed : List Request → List Request → Runs → Type 0
HasPlayed before asked runs = All (StandsIn runs.setting before asked) runs.caches.items

-- a row tells what the plain run of its policy gives of these requests after those before the mark, in this part of a trace
pub record IsRow (setting : Setting) (span : Span) (before asked : List Request) (row : Row) : Type 0 where
  pub by : row.setting ≡ setting
  pub ran : Ran before asked (rules_in row.told.policy setting row.size) (start_in setting) row.told
  pub begins : row.from ≡ span.from
  pub ends : row.until ≡ span.until
  pub requests : row.expected ≡ expected setting.sample.rate span.all.requests
  pub bytes : row.expected_bytes ≡ expected_bytes setting.sample.rate span.all.bytes
