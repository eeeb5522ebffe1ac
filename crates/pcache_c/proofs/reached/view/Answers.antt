use Rattle.pcache_c.proofs.Words.{refl}
use Rattle.pcache_c.proofs.Left.{view_left}
use Rattle.pcache_c.proofs.Numbered.{reached, unreached}
use Rattle.pcache_c.proofs.reached.view.Goals as goal

pub returns-in_default-find-clause-views : goal.returns-in_default-find-clause-views
returns-in_default-find-clause-views c =
    unreached _ _ c.in-Cache.boxed _ _ _ c.in-Cache.is c.deref_mut-served.ensures.value _ c.find.result c.in_default-find.is c.find.ensures.value refl refl c.find.follows.holds-at-none refl

pub returns-clause-views : goal.returns-clause-views
returns-clause-views c =
    let p = c.view.new.opened in
    reached _ _ c.in-Cache.boxed _ _ _ c.in-Cache.is c.deref_mut-served.ensures.value _ c.find.result c.in-Some.request p c.in-Some.is c.find.ensures.value (c.find.follows.holds p) refl c.view.ensures

pub returns-clause-left : goal.returns-clause-left
returns-clause-left c = view_left _ _ _ _ _ _ _ _ c.view.ensures
