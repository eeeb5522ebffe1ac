use Rattle.pcache_c.proofs.Words.{◌≡◌, Option, None, Duration}
use Rattle.pcache_c.proofs.Storable.{decided}
use Rattle.pcache_c.proofs.heads.decide.Goals as goal

pub returns : goal.returns
returns g c =
    decided c.args.now _ _ c.args.windows c.args.head c.args.authorized _ (λ (lifetime : Option Duration). lifetime ≡ None) _
    (λ i. (c.requires.revalidating i, c.requires.failing i)) (λ lifetime is. c.requires.none _ lifetime is) c.resp_cacheable.ensures
