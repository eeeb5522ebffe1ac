use Rattle.pcache_lock.proofs.PastLaws.{gives_by_past, at_most_one, one_fetch}
use Rattle.pcache_lock.proofs.lock.cache_lock.CacheLock.headline.Goals as goal

pub returns-clause-gives : goal.returns-clause-gives
returns-clause-gives c = rw (← c.self.view_is) (gives_by_past c.self.inside.bare c.self.inside.past.deeds c.self.invariant)

pub returns-clause-one : goal.returns-clause-one
returns-clause-one c = rw (← c.self.view_is) (at_most_one c.self.inside.bare c.self.inside.past.deeds c.self.invariant)

pub returns-clause-fetches : goal.returns-clause-fetches
returns-clause-fetches c = rw (← c.self.view_is) (one_fetch c.self.inside.bare c.self.inside.past.deeds c.self.invariant)
