use Rattle.rendezvous.proofs.Wins.{next_more}
use Rattle.rendezvous.proofs.nodes.node_of.Goals as goal

pub loop-place-preserved : goal.loop-place-preserved
loop-place-preserved c =
    next_more c.args.hash c.args.nodes.now c.loop-place.place 0 c.loop-place.best c.winner-best.result c.loop-place-test.true c.loop-place.invariant c.winner-best.ensures.either c.winner-best.ensures.one c.winner-best.ensures.other
