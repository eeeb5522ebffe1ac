use Rattle.pcache_policies.specs.OneQueue.{MakesRoom}
use Rattle.pcache_policies.specs.Ring.{left_of, shown}
use Rattle.pcache_policies.proofs.Words.{◌≡◌, ◌+◌, IfOk-weaker, limits_of, weight, plain, chosen, in_turn}
use Rattle.pcache_policies.specs.Sieve as hand
use Rattle.pcache_policies.proofs.InTurn.{rooms, weight_turn, map_turn}
use Rattle.pcache_policies.proofs.one_queue.TurnsDiscipline.choose.Goals as goal

pub returns-clause-room : goal.returns-clause-room
returns-clause-room g c =
    IfOk-weaker c.prepare-out.result (λ _. hand.MakesRoom (limits_of g.U.Uses.policy c.args.limit c.args.watermark) c.args.size c.args.count (shown c.args.self.now.ring) (chosen c.prepare-out.new.self) (left_of c.prepare-out.new.self))
    (λ _. MakesRoom (limits_of g.U.Uses.policy c.args.limit c.args.watermark) c.args.size c.args.count (in_turn (shown c.args.self.now.ring)) (chosen c.prepare-out.new.self) (in_turn (left_of c.prepare-out.new.self)))
    (λ out made. rooms (limits_of g.U.Uses.policy c.args.limit c.args.watermark) c.args.size c.args.count (shown c.args.self.now.ring) (left_of c.prepare-out.new.self) (chosen c.prepare-out.new.self) made) (c.prepare-out.ensures.room g.U.Uses.policy)

pub returns-clause-heavy : goal.returns-clause-heavy
returns-clause-heavy g c =
    IfOk-weaker c.prepare-out.result (λ _. hand.MakesRoom (limits_of g.U.Uses.policy c.args.limit c.args.watermark) c.args.size c.args.count (shown c.args.self.now.ring) (chosen c.prepare-out.new.self) (left_of c.prepare-out.new.self))
    (λ _. weight (plain (in_turn (shown c.args.self.now.ring))) ≡ weight (plain (in_turn (left_of c.prepare-out.new.self))) + weight (plain c.prepare-out.new.self.leaving))
    (λ out made. weight_turn c.args.self.now.ring c.prepare-out.new.self c.len.ensures.once c.leaving_len.ensures.once c.prepare-out.ensures.same) (c.prepare-out.ensures.room g.U.Uses.policy)

pub returns-clause-same : goal.returns-clause-same
returns-clause-same g c = map_turn c.args.self.now.ring c.prepare-out.new.self c.len.ensures.once c.leaving_len.ensures.once c.prepare-out.ensures.same
