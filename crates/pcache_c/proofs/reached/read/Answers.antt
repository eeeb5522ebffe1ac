use Rattle.pcache_c.proofs.Words.{refl}
use Rattle.pcache_c.proofs.Left.{read_left}
use Rattle.pcache_c.proofs.Numbered.{reached, unreached}
use Rattle.pcache_c.proofs.reached.read.Goals as goal

pub returns-in_default-find-clause-reads : goal.returns-in_default-find-clause-reads
returns-in_default-find-clause-reads c =
    unreached _ _ c.in-Cache.boxed _ _ _ c.in-Cache.is c.deref_mut-served.ensures.value _ c.find.result c.in_default-find.is c.find.ensures.value refl refl c.find.follows.holds-at-none refl

pub returns-clause-reads : goal.returns-clause-reads
returns-clause-reads c =
    let p = c.read.new.opened in
    reached _ _ c.in-Cache.boxed _ _ _ c.in-Cache.is c.deref_mut-served.ensures.value _ c.find.result c.in-Some.request p c.in-Some.is c.find.ensures.value (c.find.follows.holds p) refl c.read.ensures

pub returns-clause-left : goal.returns-clause-left
returns-clause-left c = read_left _ _ _ _ _ _ _ _ _ c.read.ensures
