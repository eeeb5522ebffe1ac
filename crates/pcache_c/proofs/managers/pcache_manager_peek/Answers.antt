use Rattle.pcache_c.specs.Handles.{AsksOf}
use Rattle.pcache_c.specs.Managers.{Peeks}
use Rattle.pcache_c.proofs.Words.{⊤, CacheEntryKey, as_manager}
use Rattle.pcache_c.proofs.Changed.{asked}
use Rattle.pcache_c.proofs.Given.{entry_good}
use Rattle.pcache_c.proofs.managers.pcache_manager_peek.Goals as goal

pub returns-clause-says : goal.returns-clause-says
returns-clause-says c =
    entry_good c.args.tag.now c.args.entry.now c.entry_from.result c.in-Ok.item c.peek-code.result _
    (λ (k : CacheEntryKey). AsksOf as_manager c.args.manager.now c.peek-code.result ⊤ (λ m. Peeks k m c.peek-code.new.was c.peek-code.result)) c.in-Ok.is
    (asked (λ o. o.value) c.take.result c.in-Some.object _ _ _ _ _ c.take.ensures.taken c.in-Some.is c.deref.ensures c.peek-code.ensures) _ _ c.entry_from.ensures
