use Rattle.pcache_world.proofs.Words.{rules, refl, subst, sym, Feed, open_at, facts_in, HasSome, State}
use Rattle.pcache_world.proofs.OfParts.{turn-over}
use Rattle.pcache_world.proofs.PutTurns.{fed-turn, feeds-answered, ignores-nowhere, ignores-plain, none-answered, none-is-there, other-answered, puts-wrong}
use Rattle.pcache_world.proofs.TurnOf.{wrong-turned}
use Rattle.pcache_world.proofs.world.turn.feed.Goals as goal

pub returns-in_default-clause-turn : goal.returns-in_default-clause-turn
returns-in_default-clause-turn g c world some =
    wrong-turned _ _ (Feed c.args.bytes.now c.args.now) _ _ _ _ _ _ _ (λ f. none-answered f (Feed c.args.bytes.now c.args.now) _ (search rules) (λ may. may)) (search rules) refl c.requires.none

pub returns-in_default-clause-puts : goal.returns-in_default-clause-puts
returns-in_default-clause-puts g c = puts-wrong _ (Feed c.args.bytes.now c.args.now) _ _ _ _ (refl, c.requires.none) (search rules) (ignores-nowhere (Feed c.args.bytes.now c.args.now) _ (search rules))

pub returns-in-Request-clause-turn : goal.returns-in-Request-clause-turn
returns-in-Request-clause-turn g c world some =
    wrong-turned _ _ (Feed c.args.bytes.now c.args.now) _ _ _ _ _ _ _ (λ f. other-answered f (Feed c.args.bytes.now c.args.now) _ c.in-Request.request (search rules) (none-is-there c.in-Request.request c.is_plain.ensures)) (search rules) refl c.requires.none

pub returns-in-Request-clause-puts : goal.returns-in-Request-clause-puts
returns-in-Request-clause-puts g c = puts-wrong _ (Feed c.args.bytes.now c.args.now) _ _ _ _ (refl, c.requires.none) (search rules) (ignores-plain (Feed c.args.bytes.now c.args.now) _ c.in-Request.request (search rules) c.is_plain.ensures)

pub returns-in-Put-clause-turn : goal.returns-in-Put-clause-turn
returns-in-Put-clause-turn g c world some =
    let had = subst (λ (p : State). HasSome g.P.PutPolicy.says p.store (open_at c.args.number c.args.requests.now.entries)) (sym c.parts.view_is) some in
    turn-over c.parts.view_is (fed-turn _ _ _ c.args.bytes.now c.args.now _ _ c.in-Put.put c.feed-reply.new.put _ _ _ _ c.feed-reply.result c.feed-reply.new.events.items had (search rules) (search rules) c.is_held.ensures.held c.is_held-in-Put.ensures.held
    (λ s. feeds-answered (facts_in c.parts.inside.store.state c.parts.inside.lock.table c.in-Put.put.request) c.args.bytes.now c.args.now c.in-Put.put c.feed-reply.result c.feed-reply.new.events.items c.is_held.ensures.some c.feed-reply.ensures.other (c.feed-reply.ensures.answers c.parts.inside.lock.table s)) c.feed-reply.ensures.moves c.feed-reply.ensures.keeps c.feed-reply.ensures.row c.feed-reply.ensures.quiet)
