use Rattle.pcache_cache.proofs.Outdating.{key_outdated, more_counted, none_counted, stays_outdated, url_outdated}
use Rattle.pcache_cache.proofs.laws.a_purge_outdates_fetches.Goals as goal

pub returns-clause-key : goal.returns-clause-key
returns-clause-key c = key_outdated

pub returns-clause-url : goal.returns-clause-url
returns-clause-url c = url_outdated

pub returns-clause-stays : goal.returns-clause-stays
returns-clause-stays c = stays_outdated

pub returns-clause-none : goal.returns-clause-none
returns-clause-none c = none_counted

pub returns-clause-counted : goal.returns-clause-counted
returns-clause-counted c = more_counted
