use Rattle.pcache_policies.specs.Fifos.{Steps}
use Rattle.pcache_policies.proofs.Words.{◌≡◌, true, false, refl, subst, S3Fifo, limits_of}
use Rattle.pcache_policies.proofs.FifoSteps.{far-none, far-more, far-done, far-ends, smaller}
use Rattle.pcache_policies.proofs.fifos.Fifos.make_room.Goals as goal

pub returns-then-not-branch-clause-ok : goal.returns-then-not-branch-clause-ok
returns-then-not-branch-clause-ok g c =
    far-ends (limits_of S3Fifo c.args.limit c.args.watermark) c.args.size c.args.count c.args.self.now c.loop-watermark.self c.step.new.self c.loop-watermark.invariant (subst (λ b. Steps c.args.limit c.loop-watermark.self b c.step.new.self) c.if-not-branch.true c.in_ok-step.ensures.ok)

pub loop-watermark-smaller : goal.loop-watermark-smaller
loop-watermark-smaller g c = smaller c.args.limit c.loop-watermark.self c.step.new.self (subst (λ b. Steps c.args.limit c.loop-watermark.self b c.step.new.self) c.if-not-branch.false c.in_ok-step.ensures.ok)

pub loop-watermark-preserved : goal.loop-watermark-preserved
loop-watermark-preserved g c =
    far-more (limits_of S3Fifo c.args.limit c.args.watermark) c.args.size c.args.count c.args.self.now c.loop-watermark.self c.step.new.self c.loop-watermark.invariant (c.loop-watermark-test.ensures.none S3Fifo refl) c.step.ensures.once (subst (λ b. Steps c.args.limit c.loop-watermark.self b c.step.new.self) c.if-not-branch.false c.in_ok-step.ensures.ok)

pub returns-clause-ok : goal.returns-clause-ok
returns-clause-ok g c =
    far-done (limits_of S3Fifo c.args.limit c.args.watermark) c.args.size c.args.count c.args.self.now c.loop-watermark.self c.loop-watermark.invariant (c.loop-watermark-test.ensures.room S3Fifo refl)
