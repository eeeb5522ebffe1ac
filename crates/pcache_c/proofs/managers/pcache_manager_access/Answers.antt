use Rattle.pcache_c.specs.Managers.{Accesses}
use Rattle.pcache_c.proofs.Words.{CacheEntryKey, ChangesOf, as_manager}
use Rattle.pcache_c.proofs.Changed.{changed, good}
use Rattle.pcache_c.proofs.Given.{entry_good}
use Rattle.pcache_c.proofs.managers.pcache_manager_access.Goals as goal

pub returns : goal.returns
returns c =
    good c.moment_of.result c.in-Some.fresh_until _ _ _ _ c.in-Some.is c.moment_of.ensures
    (entry_good c.args.tag.now c.args.entry.now c.entry_from.result c.in-Ok.item c.access-code.result _
    (λ (k : CacheEntryKey). ChangesOf as_manager c.args.manager.now c.put.new.self c.access-code.result (λ m n. Accesses k c.args.weight m n c.access-code.new.was c.access-code.result)) c.in-Ok.is
    (changed (λ o. o.value) c.take.result c.in-Some-take.object _ _ _ _ _ _ c.take.ensures.taken c.in-Some-take.is c.deref_mut.ensures.value c.put.ensures c.access-code.ensures) _ _ c.entry_from.ensures)
