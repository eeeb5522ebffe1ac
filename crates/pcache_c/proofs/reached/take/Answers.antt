use Rattle.pcache_c.proofs.Words.{refl}
use Rattle.pcache_c.proofs.Numbered.{counted, not_counted}
use Rattle.pcache_c.proofs.reached.take.Goals as goal

pub returns-in_default-find : goal.returns-in_default-find
returns-in_default-find c =
    not_counted _ _ c.in-Cache.boxed _ _ _ _ c.in-Cache.is c.deref_mut-served.ensures.value _ c.find.result c.in_default-find.is c.find.ensures.value refl refl c.find.follows.holds-at-none refl

pub returns : goal.returns
returns c =
    let p = c.take-code.new.opened in
    counted _ _ c.in-Cache.boxed _ _ _ _ c.in-Cache.is c.deref_mut-served.ensures.value _ c.find.result c.in-Some.request p c.in-Some.is c.find.ensures.value (c.find.follows.holds p) c.count_take.ensures c.take-code.ensures
