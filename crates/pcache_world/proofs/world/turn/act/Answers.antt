use Rattle.pcache_world.proofs.Words.{[], refl, of_two}
use Rattle.pcache_history.specs.declared.call.Act.TheVariants as C
use Rattle.pcache_world.proofs.OfParts.{acts-over}
use Rattle.pcache_world.proofs.PutTurns.{close-turn, drop-turn, push-turn, puts-closed, puts-dropped, puts-ended, puts-opened, puts-pushed}
use Rattle.pcache_world.proofs.TurnOf.{acts-as, end-of, moved-by-row, open-of, row-at}
use Rattle.pcache_world.proofs.world.turn.act.Goals as goal

pub returns-in-Open-clause-acts : goal.returns-in-Open-clause-acts
returns-in-Open-clause-acts g c =
    let before = c.args.requests.now.entries in
    let after = c.open.new.requests.entries in
    let rowed = c.open.ensures.requests in
    acts-as _ _ c.args.call.now _ before after _ _ _ _ _ _ c.open.result _ c.in-Open.is tt
    (λ world some. open-of _ _ _ before after _ _ _ _ _ c.requires.none c.open.ensures.answers c.open.ensures.moves c.open.ensures.keeps rowed)
    (puts-opened _ _ c.open.result _ _ _ (row-at c.args.call.now.request (C.Open c.in-Open.options) c.open.result [] before after rowed)) (moved-by-row c.args.call.now.request (C.Open c.in-Open.options) c.open.result [] before after rowed)

pub returns-in-End-clause-acts : goal.returns-in-End-clause-acts
returns-in-End-clause-acts g c =
    let before = c.args.requests.now.entries in
    let after = c.end.new.requests.entries in
    let rowed = c.end.ensures.requests in
    acts-over c.parts.view_is (acts-as _ _ c.args.call.now _ before after _ _ _ _ _ _ c.end.result c.end.new.events.items c.in-End.is tt
    (λ world some. end-of _ _ before after _ _ _ _ _ _ _ c.end.ensures.answers c.end.ensures.moves c.end.ensures.keeps c.end.ensures.locks rowed)
    (puts-ended _ c.end.result _ _ _ (row-at c.args.call.now.request C.End c.end.result c.end.new.events.items before after rowed)) (moved-by-row c.args.call.now.request C.End c.end.result c.end.new.events.items before after rowed))

pub returns-in-Request-clause-acts : goal.returns-in-Request-clause-acts
returns-in-Request-clause-acts g c =
    acts-as _ _ c.args.call.now _ c.args.requests.now.entries c.on_request.new.requests.entries _ _ _ _ _ _ c.on_request.result c.on_request.new.events.items c.in-Request.is tt
    c.on_request.ensures.turn c.on_request.ensures.puts c.on_request.ensures.requests

pub returns-in-Wait-clause-acts : goal.returns-in-Wait-clause-acts
returns-in-Wait-clause-acts g c =
    acts-as _ _ c.args.call.now _ c.args.requests.now.entries c.wait.new.requests.entries _ _ _ _ _ _ c.wait.result c.wait.new.events.items c.in-Wait.is tt
    c.wait.ensures.turn c.wait.ensures.puts c.wait.ensures.requests

pub returns-in-Give-clause-acts : goal.returns-in-Give-clause-acts
returns-in-Give-clause-acts g c = acts-over c.parts-in-Give.view_is (of_two _ c.in-Give.is c.give.ensures refl refl)

pub returns-in-Put-clause-acts : goal.returns-in-Put-clause-acts
returns-in-Put-clause-acts g c =
    let before = c.args.requests.now.entries in
    let after = c.open_put.new.requests.entries in
    let rowed = c.open_put.ensures.requests in
    acts-as _ _ c.args.call.now _ before after _ _ _ _ _ _ c.open_put.result _ c.in-Put.is tt
    (λ world some. push-turn _ _ _ _ before after _ _ _ _ _ c.requires.none c.open_put.ensures.answers c.open_put.ensures.moves c.open_put.ensures.keeps rowed)
    (puts-pushed _ _ _ c.open_put.result _ _ _ (row-at c.args.call.now.request (C.Put c.in-Put.key c.in-Put.limit) c.open_put.result [] before after rowed) c.requires.none c.open_put.ensures.puts) (moved-by-row c.args.call.now.request (C.Put c.in-Put.key c.in-Put.limit) c.open_put.result [] before after rowed)

pub returns-in-Feed-clause-acts : goal.returns-in-Feed-clause-acts
returns-in-Feed-clause-acts g c =
    acts-as _ _ c.args.call.now _ c.args.requests.now.entries c.feed.new.requests.entries _ _ _ _ _ _ c.feed.result c.feed.new.events.items c.in-Feed.is tt
    c.feed.ensures.turn c.feed.ensures.puts c.feed.ensures.requests

pub returns-in-Drop-clause-acts : goal.returns-in-Drop-clause-acts
returns-in-Drop-clause-acts g c =
    let before = c.args.requests.now.entries in
    let after = c.drop_put.new.requests.entries in
    let rowed = c.drop_put.ensures.requests in
    acts-over c.parts-in-Drop.view_is (acts-as _ _ c.args.call.now _ before after _ _ _ _ _ _ c.drop_put.result c.drop_put.new.events.items c.in-Drop.is tt
    (λ world some. drop-turn _ _ before after _ _ _ _ _ _ c.drop_put.ensures.answers c.drop_put.ensures.moves c.drop_put.ensures.keeps rowed c.drop_put.ensures.quiet c.drop_put.ensures.held)
    (puts-dropped _ c.drop_put.result _ _ _ (row-at c.args.call.now.request C.Drop c.drop_put.result c.drop_put.new.events.items before after rowed)) (moved-by-row c.args.call.now.request C.Drop c.drop_put.result c.drop_put.new.events.items before after rowed))

pub returns-in-Close-clause-acts : goal.returns-in-Close-clause-acts
returns-in-Close-clause-acts g c =
    let before = c.args.requests.now.entries in
    let after = c.close_put.new.requests.entries in
    let rowed = c.close_put.ensures.requests in
    acts-as _ _ c.args.call.now _ before after _ _ _ _ _ _ c.close_put.result c.close_put.new.events.items c.in-Close.is tt
    (λ world some. close-turn _ _ before after _ _ _ _ _ _ _ _ _ world some c.close_put.ensures.answers c.close_put.ensures.moves c.close_put.ensures.keeps rowed c.close_put.ensures.quiet c.close_put.ensures.held c.close_put.ensures.lock)
    (puts-closed _ c.close_put.result _ _ _ (row-at c.args.call.now.request C.Close c.close_put.result c.close_put.new.events.items before after rowed) c.close_put.ensures.closes) (moved-by-row c.args.call.now.request C.Close c.close_put.result c.close_put.new.events.items before after rowed)
