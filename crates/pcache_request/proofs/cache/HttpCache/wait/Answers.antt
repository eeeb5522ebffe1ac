use Rattle.std.proofs.Common.{◌≡◌, IfOk, OnOk, Some, refl, rules, subst, ap, ◌∙◌}
use Rattle.pcache_lock.specs.declared.lock.permit.Locked.TheVariants.{Read}
use Rattle.pcache_request.specs.LockPasts.{waited_deeds}
use Rattle.pcache_request.specs.LockWaits.{wait_result, table_waited}
use Rattle.pcache_request.proofs.cache.HttpCache.wait.Goals as goal

pub returns-clause-answer : goal.returns-clause-answer
returns-clause-answer g c =
    let held : c.self.inside.held ≡ Some (Read c.in-Read.read) = cc (c.in-Some.is, c.in-Read.is, c.take.ensures.value) in
    subst (λ x. IfOk c.wait_on.result (λ w. w.answer ≡ x))
    (rw held (rw (← c.unusable_in-fills.ensures) refl) ∙ ap (λ r. wait_result (g.L.CacheKeyLock.table c.args.lock.now) c.args.now r.held r) c.self.view_is)
    c.wait_on.ensures.answer

pub returns-clause-waits : goal.returns-clause-waits
returns-clause-waits g c =
    let held : c.self.inside.held ≡ Some (Read c.in-Read.read) = cc (c.in-Some.is, c.in-Read.is, c.take.ensures.value) in
    let table = g.L.CacheKeyLock.table in
    let past = g.L.CacheKeyLock.past in
    record {
      request = search rules;
      table = subst (λ r. OnOk c.wait_on.result (table c.wait_on.new.lock ≡ table_waited (table c.args.lock.now) c.args.now r.held r)) c.self.view_is (rw held (rw (← c.unusable_in-fills.ensures) c.wait_on.ensures.table));
      deeds = subst (λ r. OnOk c.wait_on.result (past c.wait_on.new.lock ≡ waited_deeds (table c.args.lock.now) c.args.now r.held r (past c.args.lock.now))) c.self.view_is (rw held (rw (← c.unusable_in-fills.ensures) c.wait_on.ensures.deeds));
      same_request = search rules;
      same_table = c.wait_on.ensures.same_table;
      same_deeds = c.wait_on.ensures.same_deeds;
      kind = c.wait_on.ensures.kind;
      later = search rules;
      unnamed = search rules;
    }
