use Rattle.pcache_policies.specs.Reclaim.{shown}
use Rattle.pcache_policies.proofs.Words.{◌++◌, ◌∙◌, ap, sym, reseen, Ring, queues}
use Rattle.pcache_policies.proofs.Queues.{reseen-none}
use Rattle.pcache_policies.proofs.Rings.{reseen-append}
use Rattle.pcache_policies.proofs.Seens.{none_some}
use Rattle.pcache_policies.proofs.ReclaimLaws.{touched-main, touched-incoming}
use Rattle.pcache_policies.proofs.reclaim.Queues.touch.Goals as goal

pub returns-then-is_ahead : goal.returns-then-is_ahead
returns-then-is_ahead g c =
    ap (λ (r : Ring). queues r.ahead (r.leaving ++ r.passed) c.args.self.now.ghosts) c.renew_ahead.ensures
    ∙ sym (touched-main c.args.item.now c.args.seen (shown c.args.self.now) (sym c.if-is_ahead.ensures))

pub returns : goal.returns
returns g c =
    ap (λ (r : Ring). queues r.ahead (r.leaving ++ r.passed) c.args.self.now.ghosts) c.set.ensures
    ∙ ap (λ m. queues m (reseen c.args.item.now c.args.seen c.args.self.now.ring.leaving ++ reseen c.args.item.now c.args.seen c.args.self.now.ring.passed) c.args.self.now.ghosts) (reseen-none c.args.item.now c.args.seen c.args.self.now.ring.ahead (none_some _ (sym c.if-is_ahead.ensures)))
    ∙ ap (λ i. queues c.args.self.now.ring.ahead i c.args.self.now.ghosts) (sym (reseen-append c.args.item.now c.args.seen c.args.self.now.ring.leaving c.args.self.now.ring.passed))
    ∙ sym (touched-incoming c.args.item.now c.args.seen (shown c.args.self.now) (sym c.if-is_ahead.ensures))
