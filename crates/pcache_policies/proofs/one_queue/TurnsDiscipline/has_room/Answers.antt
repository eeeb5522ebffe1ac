use Rattle.pcache_policies.proofs.Words.{limits_of}
use Rattle.pcache_policies.proofs.InTurn.{room_swap}
use Rattle.pcache_policies.proofs.one_queue.TurnsDiscipline.has_room.Goals as goal

pub returns-clause-room : goal.returns-clause-room
returns-clause-room g c = λ e.
    let ring = c.args.self.now.ring in
    room_swap (limits_of g.U.Uses.policy c.args.limit c.args.watermark) c.args.size 1 ring.ahead ring.passed (c.has_room.ensures.room g.U.Uses.policy e)

pub returns-clause-none : goal.returns-clause-none
returns-clause-none g c = λ e fits.
    let ring = c.args.self.now.ring in
    c.has_room.ensures.none g.U.Uses.policy e (room_swap (limits_of g.U.Uses.policy c.args.limit c.args.watermark) c.args.size 1 ring.passed ring.ahead fits)
