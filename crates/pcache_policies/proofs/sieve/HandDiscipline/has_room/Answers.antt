use Rattle.pcache_evict.specs.declared.eviction.policy.EvictionPolicy.TheVariants.{Sieve}
use Rattle.pcache_policies.proofs.sieve.HandDiscipline.has_room.Goals as goal

pub returns-clause-room : goal.returns-clause-room
returns-clause-room g c = c.has_room.ensures.room Sieve

pub returns-clause-none : goal.returns-clause-none
returns-clause-none g c = c.has_room.ensures.none Sieve
