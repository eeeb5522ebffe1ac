use Rattle.pcache_policies.proofs.Words.{◌∷◌, ◌∙◌, ap, seen_of, rest_of}
use Rattle.pcache_policies.proofs.Queues.{seen-set, rest-set}
use Rattle.pcache_policies.proofs.queue.Queue.requeue.Goals as goal

pub returns : goal.returns
returns g c =
    c.promote.ensures c.args.seen (ap (seen_of c.args.item.now) c.set.ensures.value ∙ seen-set c.args.item.now c.args.seen c.args.self.now c.requires)
    ∙ ap (λ q. (c.args.item.now, c.args.seen) ∷ q) (ap (rest_of c.args.item.now) c.set.ensures.value ∙ rest-set c.args.item.now c.args.seen c.args.self.now)
