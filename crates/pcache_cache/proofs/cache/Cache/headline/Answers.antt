use Rattle.pcache_store.specs.OneResponse.{MetasAreTheirs}
use Rattle.pcache_store.specs.PastLaws.{BodiesGetNewer, FoundIsOfItsWrite, NewestStands, PurgedIsGone}
use Rattle.pcache_cache.proofs.Words.{subst, Parts, TracksExactly}
use Rattle.pcache_cache.proofs.SumsToStored.{sums_to_stored}
use Rattle.pcache_cache.proofs.cache.Cache.headline.Goals as goal

pub returns-clause-purged : goal.returns-clause-purged
returns-clause-purged g c = subst (λ (p : Parts). PurgedIsGone p.store p.past) c.self.view_is c.headline.ensures.purged

pub returns-clause-sums : goal.returns-clause-sums
returns-clause-sums g c = sums_to_stored c.args.self.now (subst (λ (p : Parts). TracksExactly p.weighing p.store p.tracked) c.self.view_is c.self.invariant.0.exact)

pub returns-clause-newest : goal.returns-clause-newest
returns-clause-newest g c = subst (λ (p : Parts). NewestStands p.store p.past) c.self.view_is (c.headline.ensures.newest c.self.invariant.0.newest)

pub returns-clause-newer : goal.returns-clause-newer
returns-clause-newer g c = subst (λ (p : Parts). BodiesGetNewer p.past) c.self.view_is (c.headline.ensures.newer c.self.invariant.0.newest)

pub returns-clause-metas : goal.returns-clause-metas
returns-clause-metas g c = subst (λ (p : Parts). MetasAreTheirs p.store p.past) c.self.view_is (c.headline.ensures.metas c.self.invariant.2)

pub returns-clause-found : goal.returns-clause-found
returns-clause-found g c = subst (λ (p : Parts). FoundIsOfItsWrite p.store p.past) c.self.view_is c.headline.ensures.found
