use Rattle.pcache_history.specs.declared.call.Act.TheVariants.{Request}
use Rattle.pcache_world.proofs.Words.{rules, refl, inl}
use Rattle.pcache_world.proofs.Evicting.{idle-adds}
use Rattle.pcache_world.proofs.PutTurns.{none-answered, other-answered, put-is-there, puts-plain, puts-wrong}
use Rattle.pcache_world.proofs.TurnOf.{row-kept, turn-of, wrong-turned}
use Rattle.pcache_world.proofs.world.turn.on_request.Goals as goal

pub returns-in_default-clause-turn : goal.returns-in_default-clause-turn
returns-in_default-clause-turn g c world some =
    wrong-turned _ _ (Request c.args.act.now) _ _ _ _ _ _ _ (λ f. none-answered f (Request c.args.act.now) _ (search rules) (λ may. may)) (search rules) refl c.requires.none

pub returns-in_default-clause-puts : goal.returns-in_default-clause-puts
returns-in_default-clause-puts g c = puts-wrong _ (Request c.args.act.now) _ _ _ _ (refl, c.requires.none) (search rules) (λ pieces. tt)

pub returns-in-Request-clause-turn : goal.returns-in-Request-clause-turn
returns-in-Request-clause-turn g c world some =
    turn-of _ _ (Request c.args.act.now) _ _ c.in-Request.request c.turn-reply.new.request _ _ _ _ _ _ c.turn-reply.result c.turn-reply.new.events.items (search rules) (search rules) (inl (c.is_plain.ensures, c.turn-reply.ensures.answers some.4))
    c.turn-reply.ensures.moves c.turn-reply.ensures.keeps (row-kept (Request c.args.act.now) _ _ _ _ c.turn-reply.ensures.row) (c.turn-reply.ensures.locks _) world

pub returns-in-Request-clause-puts : goal.returns-in-Request-clause-puts
returns-in-Request-clause-puts g c = puts-plain _ (Request c.args.act.now) c.turn-reply.result c.turn-reply.new.events.items _ _ c.in-Request.request c.turn-reply.new.request (search rules) (search rules) c.is_plain.ensures c.is_plain-in-Request.ensures (λ pieces events. tt)

pub returns-in-Put-clause-turn : goal.returns-in-Put-clause-turn
returns-in-Put-clause-turn g c world some =
    wrong-turned _ _ (Request c.args.act.now) _ _ _ _ _ _ _ (λ f. other-answered f (Request c.args.act.now) _ c.in-Put.put (search rules) (put-is-there c.in-Put.put c.is_held.ensures.some)) (search rules) refl c.requires.none

pub returns-in-Put-clause-puts : goal.returns-in-Put-clause-puts
returns-in-Put-clause-puts g c = puts-wrong _ (Request c.args.act.now) _ _ _ _ (refl, c.requires.none) (search rules) (λ pieces. tt)

pub returns-in_default-clause-evicted : goal.returns-in_default-clause-evicted
returns-in_default-clause-evicted g c = idle-adds _ _ c.args.act.now _ _ c.args.events.now.items c.requires.none refl

pub returns-in-Put-clause-evicted : goal.returns-in-Put-clause-evicted
returns-in-Put-clause-evicted g c = idle-adds _ _ c.args.act.now _ _ c.args.events.now.items c.requires.none refl
