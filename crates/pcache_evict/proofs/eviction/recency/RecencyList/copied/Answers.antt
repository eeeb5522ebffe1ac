use Rattle.pcache_evict.proofs.Words.{◌∙◌, ap, moved}
use Rattle.pcache_evict.proofs.Cuts.{copied-more}
use Rattle.pcache_evict.proofs.eviction.recency.RecencyList.copied.Goals as goal

pub loop-key-preserved : goal.loop-key-preserved
loop-key-preserved g c =
    copied-more c.args.self.now c.loop-key.left c.next_back.new.self c.loop-key.copy c.put.new.self c.in-Some.key.now c.in-Some.size.now c.iter-left.ensures.once c.loop-key.invariant c.in-Some.ensures.steps
    (c.in_ok-put.ensures.ok ∙ ap (λ k. moved k c.in-Some.size.now c.loop-key.copy) c.in_ok-copied.ensures.ok)
