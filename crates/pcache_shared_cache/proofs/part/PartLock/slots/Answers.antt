use Rattle.pcache_shared_cache.proofs.Words.{ap, ◌∙◌, Held}
use Rattle.pcache_shared_cache.proofs.InPart.{held}
use Rattle.pcache_shared_cache.proofs.part.PartLock.slots.Goals as goal

pub returns : goal.returns
returns g c = held c.args.self.now.first.limits c.lock-guard.result.value.now c.part.inside.cache c.lock-guard.ensures.limits c.lock-guard.ensures.kept (ap (λ (h : Held). h.now) (c.part.view_is ∙ c.deref-part.ensures)) c.slots.ensures.value
