use Rattle.pcache_c.proofs.Words.{refl}
use Rattle.pcache_c.proofs.Changed.{changed, good}
use Rattle.pcache_c.proofs.calls.pcache_request_take.Goals as goal

pub returns : goal.returns
returns c =
    good c.moment_of.result c.in-Some.now _ _ _ _ c.in-Some.is c.moment_of.ensures (
      c.status_of.result,
      c.status_of.ensures,
      good c.status_of.result c.in-Some-status_of.status _ _ _ _ c.in-Some-status_of.is refl
          (changed (λ o. o.value) c.take.result c.in-Some-take.object _ _ _ _ _ _ c.take.ensures.taken c.in-Some-take.is c.deref_mut.ensures.value c.put.ensures c.take-code.ensures),
    )
