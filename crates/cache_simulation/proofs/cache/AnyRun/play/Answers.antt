use Rattle.cache_simulation.proofs.Words.{subst, on_ok_weaker, sharded, fifo, clock, AnyRun, Stands}
use Rattle.cache_simulation.proofs.Marks.{played}
use Rattle.cache_simulation.proofs.Standing.{rules-same}
use Rattle.cache_simulation.proofs.cache.AnyRun.play.Goals as goal

pub returns-in-Sharded-clause-served : goal.returns-in-Sharded-clause-served
returns-in-Sharded-clause-served c = on_ok_weaker c.play-in-Sharded.result (λ serves. λ before asked rules start base stands.
    played (sharded 16) before asked c.args.requests.now rules _ _ start base _ _ _ _ _ _
    (rules-same _ _ _ _ _ _ c.play-in-Sharded.ensures.limits c.play-in-Sharded.ensures.most c.play-in-Sharded.ensures.replaces) serves
    (subst (λ (r : AnyRun). Stands before asked rules start base r) c.in-Sharded.is stands)) c.play-in-Sharded.ensures.served

pub returns-in-Fifo-clause-served : goal.returns-in-Fifo-clause-served
returns-in-Fifo-clause-served c = on_ok_weaker c.play-in-Fifo.result (λ serves. λ before asked rules start base stands.
    played fifo before asked c.args.requests.now rules _ _ start base _ _ _ _ _ _
    (rules-same _ _ _ _ _ _ c.play-in-Fifo.ensures.limits c.play-in-Fifo.ensures.most c.play-in-Fifo.ensures.replaces) serves
    (subst (λ (r : AnyRun). Stands before asked rules start base r) c.in-Fifo.is stands)) c.play-in-Fifo.ensures.served

pub returns-in-Clock-clause-served : goal.returns-in-Clock-clause-served
returns-in-Clock-clause-served c = on_ok_weaker c.play-in-Clock.result (λ serves. λ before asked rules start base stands.
    played clock before asked c.args.requests.now rules _ _ start base _ _ _ _ _ _
    (rules-same _ _ _ _ _ _ c.play-in-Clock.ensures.limits c.play-in-Clock.ensures.most c.play-in-Clock.ensures.replaces) serves
    (subst (λ (r : AnyRun). Stands before asked rules start base r) c.in-Clock.is stands)) c.play-in-Clock.ensures.served
