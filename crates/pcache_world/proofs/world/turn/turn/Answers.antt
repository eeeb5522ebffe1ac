use Rattle.pcache_history.specs.declared.call.Act.TheVariants.{Request}
use Rattle.pcache_history.specs.declared.call.RequestAct.TheVariants.{Publish}
use Rattle.pcache_world.proofs.Words.{Some, List, sym, subst, deeds_in, kind_of_reply, Event, RequestAct, MovesLocks, AnswersOf}
use Rattle.pcache_world.proofs.OfParts.{answers-over, arm-locks-over, moves-over}
use Rattle.pcache_world.proofs.TurnOf.{moves_quietly}
use Rattle.pcache_world.proofs.world.turn.turn.Goals as goal

pub returns-in-Disable-clause-moves : goal.returns-in-Disable-clause-moves
returns-in-Disable-clause-moves g c world = moves-over _ (Some c.disable.new.request) _ c.parts.view_is (c.disable.ensures.moves _ _)

pub returns-in-Disable-clause-locks : goal.returns-in-Disable-clause-locks
returns-in-Disable-clause-locks g c r = arm-locks-over c.args.request.now c.disable.new.request c.disable.result c.disable.new.events.items c.in-Disable.is c.parts.view_is (c.disable.ensures.locks r)

pub returns-in-Look-clause-moves : goal.returns-in-Look-clause-moves
returns-in-Look-clause-moves g c world = moves-over _ (Some c.look.new.request) _ c.parts-in-Look.view_is (c.look.ensures.moves _ _)

pub returns-in-Look-clause-locks : goal.returns-in-Look-clause-locks
returns-in-Look-clause-locks g c r = arm-locks-over c.args.request.now c.look.new.request c.look.result c.look.new.events.items c.in-Look.is c.parts-in-Look.view_is (c.look.ensures.locks r)

pub returns-in-Look-clause-answers : goal.returns-in-Look-clause-answers
returns-in-Look-clause-answers g c oldest = answers-over c.args.request.now c.look.result c.look.new.events.items c.in-Look.is c.parts-in-Look.view_is c.look.ensures.answers

pub returns-in-Miss-clause-moves : goal.returns-in-Miss-clause-moves
returns-in-Miss-clause-moves g c world = moves-over _ (Some c.miss.new.request) _ c.parts-in-Miss.view_is (moves_quietly _ _ (Some c.miss.new.request) _ c.miss.new.store.state _ _ c.requires.none c.miss.ensures.moves)

pub returns-in-Begin-clause-moves : goal.returns-in-Begin-clause-moves
returns-in-Begin-clause-moves g c world = moves-over _ (Some c.begin.new.request) _ c.parts-in-Begin.view_is (c.begin.ensures.moves _ _)

pub returns-in-Begin-clause-locks : goal.returns-in-Begin-clause-locks
returns-in-Begin-clause-locks g c r = arm-locks-over c.args.request.now c.begin.new.request c.begin.result c.begin.new.events.items c.in-Begin.is c.parts-in-Begin.view_is (c.begin.ensures.locks r)

pub returns-in-Begin-clause-answers : goal.returns-in-Begin-clause-answers
returns-in-Begin-clause-answers g c oldest = answers-over c.args.request.now c.begin.result c.begin.new.events.items c.in-Begin.is c.parts-in-Begin.view_is c.begin.ensures.answers

pub returns-in-Write-clause-moves : goal.returns-in-Write-clause-moves
returns-in-Write-clause-moves g c world = moves-over _ (Some c.write.new.request) _ c.parts-in-Write.view_is (c.write.ensures.moves _ _)

pub returns-in-Write-clause-answers : goal.returns-in-Write-clause-answers
returns-in-Write-clause-answers g c oldest = answers-over c.args.request.now c.write.result c.write.new.events.items c.in-Write.is c.parts-in-Write.view_is c.write.ensures.answers

pub returns-in-Read-clause-moves : goal.returns-in-Read-clause-moves
returns-in-Read-clause-moves g c world = moves-over _ (Some c.read.new.request) _ c.parts-in-Read.view_is (c.read.ensures.moves _ _)

pub returns-in-Read-clause-answers : goal.returns-in-Read-clause-answers
returns-in-Read-clause-answers g c oldest = answers-over c.args.request.now c.read.result c.read.new.events.items c.in-Read.is c.parts-in-Read.view_is c.read.ensures.answers

pub returns-in-Done-clause-moves : goal.returns-in-Done-clause-moves
returns-in-Done-clause-moves g c world = moves-over _ (Some c.done.new.request) _ c.parts-in-Done.view_is (moves_quietly _ _ (Some c.done.new.request) _ c.done.new.store.state _ _ c.requires.none c.done.ensures.moves)

pub returns-in-Publish-clause-moves : goal.returns-in-Publish-clause-moves
returns-in-Publish-clause-moves g c world = moves-over _ (Some c.args.request.now) _ c.parts-in-Publish.view_is (moves_quietly _ _ (Some c.args.request.now) _ c.parts-in-Publish.inside.store.state _ _ c.requires.none (c.publish.ensures.moves _))

pub returns-in-Publish-clause-locks : goal.returns-in-Publish-clause-locks
returns-in-Publish-clause-locks g c r = arm-locks-over c.args.request.now c.args.request.now c.publish.result c.args.events.now.items c.in-Publish.is c.parts-in-Publish.view_is (subst (λ (es : List Event). MovesLocks r (deeds_in r (Request (Publish c.in-Publish.tokens)) (kind_of_reply c.publish.result) es (Some c.args.request.now)) c.args.request.now.request.held c.parts-in-Publish.inside.lock.table c.args.request.now.request.held c.publish.new.lock.table) (sym c.requires.none) (c.publish.ensures.locks r))

pub returns-in-Release-clause-moves : goal.returns-in-Release-clause-moves
returns-in-Release-clause-moves g c world = moves-over _ (Some c.release.new.request) _ c.parts-in-Release.view_is (c.release.ensures.moves _ _ _)

pub returns-in-Release-clause-locks : goal.returns-in-Release-clause-locks
returns-in-Release-clause-locks g c r = arm-locks-over c.args.request.now c.release.new.request c.release.result c.release.new.events.items c.in-Release.is c.parts-in-Release.view_is (c.release.ensures.locks r)

pub returns-in-Uncacheable-clause-moves : goal.returns-in-Uncacheable-clause-moves
returns-in-Uncacheable-clause-moves g c world = moves-over _ (Some c.uncacheable.new.request) _ c.parts-in-Uncacheable.view_is (c.uncacheable.ensures.moves _ _ _)

pub returns-in-Uncacheable-clause-locks : goal.returns-in-Uncacheable-clause-locks
returns-in-Uncacheable-clause-locks g c r = arm-locks-over c.args.request.now c.uncacheable.new.request c.uncacheable.result c.uncacheable.new.events.items c.in-Uncacheable.is c.parts-in-Uncacheable.view_is (c.uncacheable.ensures.locks r)

pub returns-in-Variance-clause-moves : goal.returns-in-Variance-clause-moves
returns-in-Variance-clause-moves g c world = moves-over _ (Some c.variance.new.request) _ c.parts-in-Variance.view_is (c.variance.ensures.moves _ _ _)

pub returns-in-Variance-clause-locks : goal.returns-in-Variance-clause-locks
returns-in-Variance-clause-locks g c r = arm-locks-over c.args.request.now c.variance.new.request c.variance.result c.variance.new.events.items c.in-Variance.is c.parts-in-Variance.view_is (c.variance.ensures.locks r)

pub returns-in-Revalidate-clause-moves : goal.returns-in-Revalidate-clause-moves
returns-in-Revalidate-clause-moves g c world = moves-over _ (Some c.revalidate.new.request) _ c.parts-in-Revalidate.view_is (c.revalidate.ensures.moves _ _)

pub returns-in-Revalidate-clause-locks : goal.returns-in-Revalidate-clause-locks
returns-in-Revalidate-clause-locks g c r = arm-locks-over c.args.request.now c.revalidate.new.request c.revalidate.result c.revalidate.new.events.items c.in-Revalidate.is c.parts-in-Revalidate.view_is (c.revalidate.ensures.locks r)

pub returns-in-Revalidate-clause-answers : goal.returns-in-Revalidate-clause-answers
returns-in-Revalidate-clause-answers g c oldest = answers-over c.args.request.now c.revalidate.result c.revalidate.new.events.items c.in-Revalidate.is c.parts-in-Revalidate.view_is c.revalidate.ensures.answers

pub returns-in-Expire-clause-answers : goal.returns-in-Expire-clause-answers
returns-in-Expire-clause-answers g c oldest = subst (λ (act : RequestAct). AnswersOf c.args.parts.now (Request act) c.args.request.now c.expire.result c.expire.new.events.items) (sym c.in-Expire.is) c.expire.ensures.answers

pub returns-in-Variance-clause-answers : goal.returns-in-Variance-clause-answers
returns-in-Variance-clause-answers g c oldest = subst (λ (act : RequestAct). AnswersOf c.args.parts.now (Request act) c.args.request.now c.variance.result c.variance.new.events.items) (sym c.in-Variance.is) c.variance.ensures.answers
