use Rattle.pcache_policies.specs.TwoQueues.{entered}
use Rattle.pcache_policies.specs.Reclaim.{left_of}
use Rattle.pcache_policies.proofs.Words.{◌∷◌, ◌∙◌, ap, sym, unused, Ring, queues}
use Rattle.pcache_policies.proofs.reclaim.QueuesDiscipline.enter.Goals as goal

pub returns-then-known-clause-ok : goal.returns-then-known-clause-ok
returns-then-known-clause-ok g c =
    ap (λ (r : Ring). queues r.ahead r.passed c.forget.new.self) c.in_ok-add_ahead.ensures.ok
    ∙ ap (λ g. queues ((c.args.item, unused c.args.size) ∷ c.args.self.now.ring.ahead) c.args.self.now.ring.passed g) c.forget.ensures
    ∙ sym (ap (λ b. entered b c.args.item c.args.size (left_of c.args.self.now)) c.if-known.true)

pub returns-clause-ok : goal.returns-clause-ok
returns-clause-ok g c =
    ap (λ (r : Ring). queues r.ahead r.passed c.args.self.now.ghosts) c.in_ok-add_passed.ensures.ok
    ∙ sym (ap (λ b. entered b c.args.item c.args.size (left_of c.args.self.now)) c.if-known.false)
