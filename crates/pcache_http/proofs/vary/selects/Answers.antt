use Rattle.pcache_http.proofs.Words.{refl, IsAnswered, Selects}
use Rattle.pcache_http.proofs.Selected.{holds, fails, no_truth, next, stops, ends}
use Rattle.pcache_http.proofs.vary.selects.Goals as goal

pub names-preserved : goal.names-preserved
names-preserved c =
    let P = IsAnswered c.args.original.now c.args.presented.now in
    next P (Selects c.args.stored.now c.args.original.now c.args.presented.now) c.in-Some.name.now c.names.name-iterator c.next.new.self c.in-Some.ensures.steps
    (holds c.is_answered.result (P c.in-Some.name.now) c.is_answered.ensures c.if-not-is_answered.false) c.names.invariant

pub returns-then-not-is_answered : goal.returns-then-not-is_answered
returns-then-not-is_answered c =
    let P = IsAnswered c.args.original.now c.args.presented.now in
    let never = stops P (Selects c.args.stored.now c.args.original.now c.args.presented.now) c.in-Some.name.now c.names.name-iterator c.next.new.self c.in-Some.ensures.steps
    (fails c.is_answered.result (P c.in-Some.name.now) c.is_answered.ensures c.if-not-is_answered.true) c.names.invariant in
    (λ f. absurd (no_truth f), λ s. absurd (never s))

pub returns : goal.returns
returns c =
    let P = IsAnswered c.args.original.now c.args.presented.now in
    (λ t. ends P (Selects c.args.stored.now c.args.original.now c.args.presented.now) c.names.name-iterator c.in-None.ensures.steps.0 c.names.invariant, λ s. refl)
