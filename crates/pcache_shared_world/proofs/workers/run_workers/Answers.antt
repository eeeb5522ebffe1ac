use Rattle.std.proofs.Common.{inl, inr}
use Rattle.pcache_shared_world.proofs.Words.{rules, List, ◌∙◌, subst, refl, slice_index_or, Receipt, Runs, script_at}
use Rattle.pcache_shared_world.proofs.Scripts.{runs_none, all_run, if_refused, whole_grown}
use Rattle.pcache_shared_world.proofs.workers.run_workers.Goals as goal

pub returns-in_err-before-clause-runs : goal.returns-in_err-before-clause-runs
returns-in_err-before-clause-runs g c i d lt = runs_none (script_at c.args.scripts.now i) (slice_index_or c.args.shares.now i d)

pub returns-then-have_run-clause-runs : goal.returns-then-have_run-clause-runs
returns-then-have_run-clause-runs g c i d lt =
    let h = (c.for_each_mut.ensures i d lt).1 in
    subst (λ (t : List Receipt × List Receipt). Runs (script_at c.args.scripts.now i) t.0 t.1) (λ k. (h.argument_is k, h.left k)) h.call

pub returns-then-have_run-clause-ok : goal.returns-then-have_run-clause-ok
returns-then-have_run-clause-ok g c =
    all_run c.args.scripts.now c.args.shares.now c.for_each_mut.new.s c.as_slice.result.now
    (search rules) (c.as_slice.ensures.value ∙ c.in_ok-before.ensures) (returns-then-have_run-clause-runs g c) (c.have_run.ensures.grown c.if-have_run.true)

pub returns-clause-runs : goal.returns-clause-runs
returns-clause-runs g c i d lt =
    let h = (c.for_each_mut.ensures i d lt).1 in
    subst (λ (t : List Receipt × List Receipt). Runs (script_at c.args.scripts.now i) t.0 t.1) (λ k. (h.argument_is k, h.left k)) h.call

pub returns-in_err-before-clause-refused : goal.returns-in_err-before-clause-refused
returns-in_err-before-clause-refused g c = if_refused c.from_residual.result (inl refl)

pub returns-clause-refused : goal.returns-clause-refused
returns-clause-refused g c =
    inr (λ whole. c.have_run.ensures.not_grown c.if-have_run.false (whole_grown c.args.scripts.now c.args.shares.now c.for_each_mut.new.s c.as_slice.result.now (search rules) (c.as_slice.ensures.value ∙ c.in_ok-before.ensures) whole))
