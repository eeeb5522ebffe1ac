-- A manager of one of several policies (own).
use Rattle.std.specs.Prelude.{◌≡◌, ◌≤◌, ℕ, [], Option, None, Some}
use Rattle.pcache_evict.specs.declared.eviction.policy.EvictionPolicy.{EvictionPolicy}
use Rattle.pcache_evict.specs.declared.eviction.policy.EvictionPolicy.TheVariants as eviction
use Rattle.pcache_evict.specs.Listed.{map_of}
use Rattle.pcache_evict.specs.Policy.{Rules, Shown, lru, one_shown, rules_of}
use Rattle.pcache_evict.specs.Tracked.{Evicted, Limits, Tracked, limits_of}
use Rattle.pcache_policies.specs.Managed.{entries_in}
use Rattle.pcache_policies.specs.OneQueue.{clock, clock_way, fifo, fifo_way, one_queue_shown}
use Rattle.pcache_policies.specs.Sieve.{sieve_policy, sieve_way}
use Rattle.pcache_c.specs.declared.any_manager.AnyManager.{AnyManager}
use Rattle.pcache_c.specs.declared.any_manager.AnyManager.TheVariants as any
use Rattle.pcache_c.specs.declared.any_manager.Policy.{Policy}
use Rattle.pcache_c.specs.declared.any_manager.Policy.TheVariants as policy

abbrev pub policy_number : Policy → ℕ
policy_number policy.Lru = 0
policy_number policy.Fifo = 1
policy_number policy.Clock = 2
policy_number policy.Sieve = 3

-- a number is that of a policy, or past the last one
abbrev pub IsNamed : ℕ → Option Policy → Type 0
IsNamed n None = 4 ≤ n
IsNamed n (Some p) = policy_number p ≡ n

-- the policy as it stands among a manager's limits, which no call changes
abbrev pub goes_by : Policy → EvictionPolicy
goes_by policy.Lru = eviction.Lru
goes_by policy.Fifo = eviction.Fifo
goes_by policy.Clock = eviction.Clock
goes_by policy.Sieve = eviction.Sieve

-- the policy of a manager
abbrev pub named_by : AnyManager → Policy
named_by (any.Lru m) = policy.Lru
named_by (any.Fifo m) = policy.Fifo
named_by (any.Clock m) = policy.Clock
named_by (any.Sieve m) = policy.Sieve

-- what its calls make of the order of its entries
abbrev pub rules_by : Policy → Rules
rules_by policy.Lru = rules_of one_shown lru
rules_by policy.Fifo = rules_of one_queue_shown fifo
rules_by policy.Clock = rules_of one_queue_shown clock
rules_by policy.Sieve = rules_of sieve_way.shown sieve_policy

abbrev pub tracked_in : AnyManager → Tracked
tracked_in (any.Lru m) = map_of m.entries
tracked_in (any.Fifo m) = map_of (entries_in fifo_way m.order)
tracked_in (any.Clock m) = map_of (entries_in clock_way m.order)
tracked_in (any.Sieve m) = map_of (entries_in sieve_way m.order)

abbrev pub limits_in : AnyManager → Limits
limits_in (any.Lru m) = m.limits
limits_in (any.Fifo m) = m.limits
limits_in (any.Clock m) = m.limits
limits_in (any.Sieve m) = m.limits

abbrev pub evicted_in : AnyManager → Evicted
evicted_in (any.Lru m) = m.evicted
evicted_in (any.Fifo m) = m.evicted
evicted_in (any.Clock m) = m.evicted
evicted_in (any.Sieve m) = m.evicted

abbrev pub shown_in : AnyManager → Shown
shown_in (any.Lru m) = one_shown m.entries
shown_in (any.Fifo m) = one_queue_shown m.order
shown_in (any.Clock m) = one_queue_shown m.order
shown_in (any.Sieve m) = sieve_way.shown m.order

-- it tracks nothing, has these limits, goes by this policy, and evicted nothing
pub record HasNone (named : Policy) (limit : ℕ) (watermark : Option ℕ) (m : AnyManager) : Type 0 where
  pub tracked : tracked_in m ≡ map_of []
  pub limits : limits_in m ≡ limits_of (goes_by named) limit watermark
  pub evicted : evicted_in m ≡ record { weight = 0; count = 0 }
