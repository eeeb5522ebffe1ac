use Rattle.pcache_history.specs.declared.call.Act.TheVariants.{Wait}
use Rattle.pcache_world.proofs.Words.{rules, refl, inl}
use Rattle.pcache_world.proofs.OfParts.{turn-over}
use Rattle.pcache_world.proofs.PutTurns.{none-answered, other-answered, put-is-there, puts-plain, puts-wrong}
use Rattle.pcache_world.proofs.TurnOf.{turn-of, wrong-turned}
use Rattle.pcache_world.proofs.world.turn.wait.Goals as goal

pub returns-in_default-clause-turn : goal.returns-in_default-clause-turn
returns-in_default-clause-turn g c world some =
    wrong-turned _ _ (Wait c.args.now) _ _ _ _ _ _ _ (λ f. none-answered f (Wait c.args.now) _ (search rules) (λ may. may)) (search rules) refl c.requires.none

pub returns-in_default-clause-puts : goal.returns-in_default-clause-puts
returns-in_default-clause-puts g c = puts-wrong _ (Wait c.args.now) _ _ _ _ (refl, c.requires.none) (search rules) (λ pieces. tt)

pub returns-in-Request-clause-turn : goal.returns-in-Request-clause-turn
returns-in-Request-clause-turn g c world some =
    turn-over c.parts.view_is (turn-of _ _ (Wait c.args.now) _ _ c.in-Request.request c.wait-reply.new.request _ _ _ _ _ _ c.wait-reply.result c.wait-reply.new.events.items (search rules) (search rules) (inl (c.is_plain.ensures, c.wait-reply.ensures.answers c.parts.inside.store.state))
    (λ world. c.wait-reply.ensures.moves _ _ _) c.wait-reply.ensures.keeps c.wait-reply.ensures.row (c.wait-reply.ensures.locks _) world)

pub returns-in-Request-clause-puts : goal.returns-in-Request-clause-puts
returns-in-Request-clause-puts g c = puts-plain _ (Wait c.args.now) c.wait-reply.result c.wait-reply.new.events.items _ _ c.in-Request.request c.wait-reply.new.request (search rules) (search rules) c.is_plain.ensures c.is_plain-in-Request.ensures (λ pieces events. tt)

pub returns-in-Put-clause-turn : goal.returns-in-Put-clause-turn
returns-in-Put-clause-turn g c world some =
    wrong-turned _ _ (Wait c.args.now) _ _ _ _ _ _ _ (λ f. other-answered f (Wait c.args.now) _ c.in-Put.put (search rules) (put-is-there c.in-Put.put c.is_held.ensures.some)) (search rules) refl c.requires.none

pub returns-in-Put-clause-puts : goal.returns-in-Put-clause-puts
returns-in-Put-clause-puts g c = puts-wrong _ (Wait c.args.now) _ _ _ _ (refl, c.requires.none) (search rules) (λ pieces. tt)
