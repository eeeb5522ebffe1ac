use Rattle.std.proofs.Common.{◌≡◌, arith, false, ◌∙◌}
use Rattle.pcache_store.specs.Purge.{entry_purged}
use Rattle.pcache_request.proofs.Purging.{told_on, told_all}
use Rattle.pcache_request.specs.StorePasts.{entry_past}
use Rattle.pcache_request.proofs.cache.ending.purge_all.Goals as goal
use Rattle.pcache_request.proofs.cache.ending.purge_all.Goals.{then-has_purge_failed, else-has_purge_failed}

pub loop-entry-preserved : goal.loop-entry-preserved
loop-entry-preserved g c = record {
  few = elim c.if-has_purge_failed.branch [ then-has_purge_failed w ↦ omega arith | else-has_purge_failed w ↦ omega arith ];
  told = told_on (entry_purged g.S.StoreMeaning.guarantees.numbers) _ _ _ c.args.entries.now c.loop-entry.entry-index c.loop-entry.failed c.if-has_purge_failed.failed c.entry-item.result c.has_purge_failed.result (omega arith) c.has_purge_failed.ensures.refused
      (λ h. rw (← c.entry-item.is) (c.has_purge_failed.ensures.purged h))
      (elim c.if-has_purge_failed.branch [ then-has_purge_failed w ↦ λ _. w.failed-is | else-has_purge_failed w ↦ λ h. cc ])
      (elim c.if-has_purge_failed.branch [ then-has_purge_failed w ↦ λ h. cc | else-has_purge_failed w ↦ λ _. w.failed-is ])
      c.loop-entry.invariant.told;
  noted = told_on (entry_past g.S.StoreMeaning.guarantees.numbers) _ _ _ c.args.entries.now c.loop-entry.entry-index c.loop-entry.failed c.if-has_purge_failed.failed c.entry-item.result c.has_purge_failed.result (omega arith) c.has_purge_failed.ensures.same_past
      (λ h. rw (← c.entry-item.is) (c.has_purge_failed.ensures.past h))
      (elim c.if-has_purge_failed.branch [ then-has_purge_failed w ↦ λ _. w.failed-is | else-has_purge_failed w ↦ λ h. cc ])
      (elim c.if-has_purge_failed.branch [ then-has_purge_failed w ↦ λ h. cc | else-has_purge_failed w ↦ λ _. w.failed-is ])
      c.loop-entry.invariant.noted;
  sure = λ h. elim c.if-has_purge_failed.branch [ then-has_purge_failed w ↦ absurd (let e : c.has_purge_failed.result ≡ false = c.has_purge_failed.ensures.sure h in cc) | else-has_purge_failed w ↦ w.failed-is ∙ c.loop-entry.invariant.sure h ];
}

pub returns-clause-purges : goal.returns-clause-purges
returns-clause-purges g c = told_all (entry_purged g.S.StoreMeaning.guarantees.numbers) _ _ c.args.entries.now c.loop-entry.entry-index c.loop-entry.failed (omega arith) c.loop-entry.invariant.told

pub returns-clause-past : goal.returns-clause-past
returns-clause-past g c = told_all (entry_past g.S.StoreMeaning.guarantees.numbers) _ _ c.args.entries.now c.loop-entry.entry-index c.loop-entry.failed (omega arith) c.loop-entry.invariant.noted
