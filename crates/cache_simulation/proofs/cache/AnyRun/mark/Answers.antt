use Rattle.cache_simulation.proofs.Words.{ap, subst, lru, sharded, sieve_policy, s3_fifo_policy, fifo, clock, two_queues_policy, AnyRun, Stands}
use Rattle.cache_simulation.proofs.Marks.{marked}
use Rattle.cache_simulation.proofs.Standing.{rules-same}
use Rattle.cache_simulation.proofs.cache.AnyRun.mark.Goals as goal

pub returns-in-Lru-clause-served : goal.returns-in-Lru-clause-served
returns-in-Lru-clause-served c = λ before asked rules start base stands.
    let old = c.in-Lru.run' in
    let new = c.mark.new.self in
    marked lru before asked rules _ _ start base c.mark.result _ _ _ _ _ _
    (rules-same _ _ _ _ _ _ (ap (λ m. m.limits) c.mark.ensures.manager) c.mark.ensures.most c.mark.ensures.replaces)
    c.mark.ensures.evicted c.mark.ensures.served
    (subst (λ (r : AnyRun). Stands before asked rules start base r) c.in-Lru.is stands)

pub returns-in-Sharded-clause-served : goal.returns-in-Sharded-clause-served
returns-in-Sharded-clause-served c = λ before asked rules start base stands.
    let old = c.in-Sharded.run' in
    let new = c.mark-in-Sharded.new.self in
    marked (sharded 16) before asked rules _ _ start base c.mark-in-Sharded.result _ _ _ _ _ _
    (rules-same _ _ _ _ _ _ (ap (λ m. m.limits) c.mark-in-Sharded.ensures.manager) c.mark-in-Sharded.ensures.most c.mark-in-Sharded.ensures.replaces)
    c.mark-in-Sharded.ensures.evicted c.mark-in-Sharded.ensures.served
    (subst (λ (r : AnyRun). Stands before asked rules start base r) c.in-Sharded.is stands)

pub returns-in-Sieve-clause-served : goal.returns-in-Sieve-clause-served
returns-in-Sieve-clause-served c = λ before asked rules start base stands.
    let old = c.in-Sieve.run' in
    let new = c.mark-in-Sieve.new.self in
    marked sieve_policy before asked rules _ _ start base c.mark-in-Sieve.result _ _ _ _ _ _
    (rules-same _ _ _ _ _ _ (ap (λ m. m.limits) c.mark-in-Sieve.ensures.manager) c.mark-in-Sieve.ensures.most c.mark-in-Sieve.ensures.replaces)
    c.mark-in-Sieve.ensures.evicted c.mark-in-Sieve.ensures.served
    (subst (λ (r : AnyRun). Stands before asked rules start base r) c.in-Sieve.is stands)

pub returns-in-S3Fifo-clause-served : goal.returns-in-S3Fifo-clause-served
returns-in-S3Fifo-clause-served c = λ before asked rules start base stands.
    let old = c.in-S3Fifo.run' in
    let new = c.mark-in-S3Fifo.new.self in
    marked s3_fifo_policy before asked rules _ _ start base c.mark-in-S3Fifo.result _ _ _ _ _ _
    (rules-same _ _ _ _ _ _ (ap (λ m. m.limits) c.mark-in-S3Fifo.ensures.manager) c.mark-in-S3Fifo.ensures.most c.mark-in-S3Fifo.ensures.replaces)
    c.mark-in-S3Fifo.ensures.evicted c.mark-in-S3Fifo.ensures.served
    (subst (λ (r : AnyRun). Stands before asked rules start base r) c.in-S3Fifo.is stands)

pub returns-in-Fifo-clause-served : goal.returns-in-Fifo-clause-served
returns-in-Fifo-clause-served c = λ before asked rules start base stands.
    let old = c.in-Fifo.run' in
    let new = c.mark-in-Fifo.new.self in
    marked fifo before asked rules _ _ start base c.mark-in-Fifo.result _ _ _ _ _ _
    (rules-same _ _ _ _ _ _ (ap (λ m. m.limits) c.mark-in-Fifo.ensures.manager) c.mark-in-Fifo.ensures.most c.mark-in-Fifo.ensures.replaces)
    c.mark-in-Fifo.ensures.evicted c.mark-in-Fifo.ensures.served
    (subst (λ (r : AnyRun). Stands before asked rules start base r) c.in-Fifo.is stands)

pub returns-in-Clock-clause-served : goal.returns-in-Clock-clause-served
returns-in-Clock-clause-served c = λ before asked rules start base stands.
    let old = c.in-Clock.run' in
    let new = c.mark-in-Clock.new.self in
    marked clock before asked rules _ _ start base c.mark-in-Clock.result _ _ _ _ _ _
    (rules-same _ _ _ _ _ _ (ap (λ m. m.limits) c.mark-in-Clock.ensures.manager) c.mark-in-Clock.ensures.most c.mark-in-Clock.ensures.replaces)
    c.mark-in-Clock.ensures.evicted c.mark-in-Clock.ensures.served
    (subst (λ (r : AnyRun). Stands before asked rules start base r) c.in-Clock.is stands)

pub returns-in-TwoQueues-clause-served : goal.returns-in-TwoQueues-clause-served
returns-in-TwoQueues-clause-served c = λ before asked rules start base stands.
    let old = c.in-TwoQueues.run' in
    let new = c.mark-in-TwoQueues.new.self in
    marked two_queues_policy before asked rules _ _ start base c.mark-in-TwoQueues.result _ _ _ _ _ _
    (rules-same _ _ _ _ _ _ (ap (λ m. m.limits) c.mark-in-TwoQueues.ensures.manager) c.mark-in-TwoQueues.ensures.most c.mark-in-TwoQueues.ensures.replaces)
    c.mark-in-TwoQueues.ensures.evicted c.mark-in-TwoQueues.ensures.served
    (subst (λ (r : AnyRun). Stands before asked rules start base r) c.in-TwoQueues.is stands)
