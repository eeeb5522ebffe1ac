-- What a contract sees of a manager with its limits, and how a part with it begins (own).
use Rattle.std.specs.Prelude.{ℕ, [], true}
use Rattle.std.specs.FinMap.{empty}
use Rattle.pcache_cache.specs.Fetching.{no_purges}
use Rattle.pcache_cache.specs.Parts.{Parts}
use Rattle.pcache_cache.specs.declared.weighing.Weighing.TheVariants.{Entries}
use Rattle.pcache_evict.specs.Listed.{Listed, map_of}
use Rattle.pcache_evict.specs.Tracked.{Tracked, Limits, Evicted}
use Rattle.pcache_lock.specs.Locks.{no_locks}

-- a manager, together with its limits
pub record Portioned (M : Type 0) : Type 0 where
  pub manager : M
  pub limits : Limits

-- what any manager shows of its entries
pub record Managed : Type 0 where
  pub tracked : Tracked
  pub limits : Limits
  pub evicted : Evicted

-- the manager of a cache
abbrev pub managed : Parts → Managed
managed p = record { tracked = p.tracked; limits = p.limits; evicted = p.evicted }

-- the same of a manager with its limits, by what managers of its type show
abbrev pub managed_in : {M : Type 0} → (M → Tracked) → (M → Evicted) → Portioned M → Managed
managed_in tracked evicted p = record { tracked = tracked p.manager; limits = p.limits; evicted = evicted p.manager }

-- a part that is to be made: the name of its keeper, and its manager
pub record Unmade (M : Type 0) : Type 0 where
  pub name : ℕ
  pub portion : Portioned M

abbrev pub unmade_name : {M : Type 0} → Unmade M → ℕ
unmade_name u = u.name

abbrev pub unmade_portion : {M : Type 0} → Unmade M → Portioned M
unmade_portion u = u.portion

abbrev pub unmade_limits : {M : Type 0} → Unmade M → Limits
unmade_limits u = u.portion.limits

abbrev pub unmade_managed : {M : Type 0} → (M → Tracked) → (M → Evicted) → Unmade M → Managed
unmade_managed tracked evicted u = managed_in tracked evicted u.portion

abbrev pub managed_limits : Managed → Limits
managed_limits m = m.limits

-- a manager with these limits that tracks nothing, and has evicted nothing
abbrev pub no_entries : Limits → Managed
no_entries limits = record { tracked = empty; limits = limits; evicted = record { weight = 0; count = 0 } }

-- what a recency list with its limits shows
abbrev pub listed : Portioned Listed → Managed
listed p = managed_in (λ l. map_of l.entries) (λ l. l.evicted) p

-- an empty part with this manager, whose permits are too old at this age, in nanoseconds
abbrev pub opened : ℕ → Managed → Parts
opened age_timeout m = record {
  store = record { slots = empty; writes = empty; next = 0; newest = true };
  past = [];
  weighing = Entries;
  tracked = m.tracked;
  limits = m.limits;
  evicted = m.evicted;
  locks = no_locks age_timeout;
  deeds = [];
  purges = no_purges;
}
