use Rattle.pcache_c.specs.Managers.{Removes}
use Rattle.pcache_c.proofs.Words.{CacheEntryKey, ChangesOf, as_manager}
use Rattle.pcache_c.proofs.Changed.{changed}
use Rattle.pcache_c.proofs.Given.{entry_good}
use Rattle.pcache_c.proofs.managers.pcache_manager_remove.Goals as goal

pub returns : goal.returns
returns c =
    entry_good c.args.tag.now c.args.entry.now c.entry_from.result c.in-Ok.item c.remove-code.result _
    (λ (k : CacheEntryKey). ChangesOf as_manager c.args.manager.now c.put.new.self c.remove-code.result (λ m n. Removes k m n c.remove-code.result)) c.in-Ok.is
    (changed (λ o. o.value) c.take.result c.in-Some.object _ _ _ _ _ _ c.take.ensures.taken c.in-Some.is c.deref_mut.ensures.value c.put.ensures c.remove-code.ensures) _ _ c.entry_from.ensures
