use Rattle.pcache_evict.specs.declared.eviction.policy.EvictionPolicy.TheVariants.{Lru}
use Rattle.pcache_policies.specs.Ring.{Steps}
use Rattle.pcache_policies.proofs.Words.{◌≡◌, true, false, refl, subst, sym, limits_of, SameEntries}
use Rattle.pcache_policies.proofs.Rings.{far-none, far-more, far-done, far-ends, smaller, step-last}
use Rattle.pcache_policies.proofs.ring.Ring.make_room.Goals as goal

pub returns-then-not-branch-clause-ok : goal.returns-then-not-branch-clause-ok
returns-then-not-branch-clause-ok g c = λ policy.
    far-ends (limits_of policy c.args.limit c.args.watermark) c.args.size c.args.count c.args.self.now c.loop-watermark.self c.step.new.self (c.loop-watermark.invariant policy) (subst (λ b. Steps c.loop-watermark.self b c.step.new.self) c.if-not-branch.true c.in_ok-step.ensures.ok)

pub loop-watermark-smaller : goal.loop-watermark-smaller
loop-watermark-smaller g c = smaller c.loop-watermark.self c.step.new.self (subst (λ b. Steps c.loop-watermark.self b c.step.new.self) c.if-not-branch.false c.in_ok-step.ensures.ok)

pub loop-watermark-preserved : goal.loop-watermark-preserved
loop-watermark-preserved g c = λ policy.
    far-more (limits_of policy c.args.limit c.args.watermark) c.args.size c.args.count c.args.self.now c.loop-watermark.self c.step.new.self (c.loop-watermark.invariant policy) (c.loop-watermark-test.ensures.none policy refl) c.step.ensures.once (subst (λ b. Steps c.loop-watermark.self b c.step.new.self) c.if-not-branch.false c.in_ok-step.ensures.ok)

pub returns-clause-ok : goal.returns-clause-ok
returns-clause-ok g c = λ policy.
    far-done (limits_of policy c.args.limit c.args.watermark) c.args.size c.args.count c.args.self.now c.loop-watermark.self (c.loop-watermark.invariant policy) (c.loop-watermark-test.ensures.room policy refl)

-- that the entries stay is said for every policy too
pub returns-in_err-step-clause-same : goal.returns-in_err-step-clause-same
returns-in_err-step-clause-same g c =
    let far = c.loop-watermark.invariant Lru in
    subst (λ r. SameEntries c.args.self.now r) (sym c.in_err-step.ensures.err) far.same

pub returns-then-not-branch-clause-same : goal.returns-then-not-branch-clause-same
returns-then-not-branch-clause-same g c =
    let far = c.loop-watermark.invariant Lru in
    subst (λ r. SameEntries c.args.self.now r) (sym (step-last _ _ (subst (λ b. Steps c.loop-watermark.self b c.step.new.self) c.if-not-branch.true c.in_ok-step.ensures.ok))) far.same

pub returns-clause-same : goal.returns-clause-same
returns-clause-same g c =
    let far = c.loop-watermark.invariant Lru in
    far.same
