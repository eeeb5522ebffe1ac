use Rattle.cache_simulation.proofs.Words.{◌∙◌, ◌++◌, ◌∷◌, [], ap, sym, append-nil, Request, request_with}
use Rattle.cache_simulation.proofs.ReadLines.{waits-on}
use Rattle.cache_simulation.proofs.player.Player.ask.Goals as goal

pub returns-then-len-lt-BATCH-clause-asked : goal.returns-then-len-lt-BATCH-clause-asked
returns-then-len-lt-BATCH-clause-asked g c = λ before asked (made, played, is).
    let r : Request = request_with c.args.key c.args.size c.args.second in
    (made, played, waits-on asked made c.args.self.now.batch.items c.push.new.self.items r c.request.result is c.in_ok-push.ensures.items c.request.ensures)

pub returns-clause-asked : goal.returns-clause-asked
returns-clause-asked g c = λ before asked (made, played, is).
    let r : Request = request_with c.args.key c.args.size c.args.second in
    let longer = waits-on asked made c.args.self.now.batch.items c.push.new.self.items r c.request.result is c.in_ok-push.ensures.items c.request.ensures in
    (asked ++ r ∷ [], c.in_ok-play.ensures.asked before (asked ++ r ∷ []) (made, played, longer), sym (append-nil (asked ++ r ∷ [])) ∙ ap (λ x. (asked ++ r ∷ []) ++ x) (sym c.in_ok-play.ensures.none))
