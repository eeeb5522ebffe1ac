use Rattle.pcache_c.specs.Managers.{Increments}
use Rattle.pcache_c.proofs.Words.{subst, CacheEntryKey, watermark_at, ChangesOf, Turns, as_manager}
use Rattle.pcache_c.proofs.Changed.{changed}
use Rattle.pcache_c.proofs.Given.{entry_good}
use Rattle.pcache_c.proofs.managers.pcache_manager_increment.Goals as goal

pub returns : goal.returns
returns c =
    entry_good c.args.tag.now c.args.entry.now c.entry_from.result c.in-Ok.item c.increment-code.result _
    (λ (k : CacheEntryKey). ChangesOf as_manager c.args.manager.now c.put.new.self c.increment-code.result (λ m n. Increments k c.args.delta (watermark_at c.args.most) m n c.increment-code.result)) c.in-Ok.is
    (changed (λ o. o.value) c.take.result c.in-Some.object _ _ _ _ _ _ c.take.ensures.taken c.in-Some.is c.deref_mut.ensures.value c.put.ensures (subst (λ w. Turns as_manager c.deref_mut.result.now c.increment-code.new.object c.increment-code.result (λ m n. Increments c.in-Ok.item c.args.delta w m n c.increment-code.result)) c.watermark_of.ensures c.increment-code.ensures)) _ _ c.entry_from.ensures
