use Rattle.pcache_policies.proofs.Words.{◌<◌, ◌∙◌, length, arith}
use Rattle.pcache_policies.proofs.Queues.{keep-step}
use Rattle.pcache_policies.proofs.queue.Queue.keep.Goals as goal

pub loop-self-preserved : goal.loop-self-preserved
loop-self-preserved g c =
    let many : c.args.most < length c.loop-self.self = (let more = c.loop-self-test.true in let long = c.len.ensures.value in omega arith) in
    (keep-step c.args.most c.loop-self.self c.drop_oldest.new.self many c.drop_oldest.ensures).0 ∙ c.loop-self.invariant
