use Rattle.pcache_c.proofs.Words.{◌≡◌, Option, None, subst, Duration, ResponseHeader, IsDecision, CacheControl}
use Rattle.pcache_c.proofs.Storable.{stored}
use Rattle.pcache_c.proofs.heads.fill_meta.Goals as goal

pub returns-in-Cacheable : goal.returns-in-Cacheable
returns-in-Cacheable c =
    let a = c.args in
    let by-head = subst (λ (h : ResponseHeader). IsDecision a.now c.in-Ok.control a.windows h a.authorized (λ (lifetime : Option Duration). lifetime ≡ None) c.decide.result) c.in-Ok-copied.ensures.ok in
    let by-control = subst (λ (cc : Option CacheControl). IsDecision a.now cc a.windows c.in-Ok-copied.head a.authorized (λ (lifetime : Option Duration). lifetime ≡ None) c.decide.result) c.as_ref.ensures.value in
    stored a.now a.authorized a.windows a.head.now c.in-Ok.control c.decide.result c.in-Cacheable.made _ _ _ (c.in-Ok.ensures.read, c.in-Ok.ensures.only)
    (by-head (by-control c.decide.ensures)) c.in-Cacheable.is c.fill.ensures
