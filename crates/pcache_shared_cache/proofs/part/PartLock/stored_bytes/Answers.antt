use Rattle.pcache_shared_cache.proofs.Words.{arith, ap, ◌∙◌, Limits, Begun, Held}
use Rattle.pcache_shared_cache.proofs.InPart.{held}
use Rattle.pcache_shared_cache.proofs.part.PartLock.stored_bytes.Goals as goal

pub overflow_cast-result : goal.overflow_cast-result
overflow_cast-result g c =
    let within = c.stored_bytes.ensures.within in
    let same = ap (λ (h : Held). h.now.limits.weight) (c.part.view_is ∙ c.deref-part.ensures) in
    let of = ap (λ (l : Limits). l.weight) c.lock-guard.ensures.limits in
    let is = ap (λ (b : Begun). b.first.limits.weight) c.self.view_is in
    let own = ap (λ (l : Limits). l.weight) c.self.invariant.1 in
    omega (arith, within, same, of, is, own)

pub returns : goal.returns
returns g c = held c.args.self.now.first.limits c.lock-guard.result.value.now c.part.inside.cache c.lock-guard.ensures.limits c.lock-guard.ensures.kept (ap (λ (h : Held). h.now) (c.part.view_is ∙ c.deref-part.ensures)) c.stored_bytes.ensures.value
