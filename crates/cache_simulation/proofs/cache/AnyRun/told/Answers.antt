use Rattle.cache_simulation.specs.declared.options.Policy.{Policy as Named}
use Rattle.cache_simulation.specs.Caches.{RanBy}
use Rattle.cache_simulation.proofs.Words.{sym, subst, lru, sharded, sieve_policy, s3_fifo_policy, fifo, clock, two_queues_policy, AnyRun, Stands}
use Rattle.cache_simulation.proofs.Tells.{told-as}
use Rattle.cache_simulation.proofs.cache.AnyRun.told.Goals as goal

pub returns-in-Lru-clause-ran : goal.returns-in-Lru-clause-ran
returns-in-Lru-clause-ran c = λ before asked rules start stands.
    let told = c.told_of.result in
    subst (λ (q : Named). RanBy q before asked rules start told) (sym c.told_of.ensures.policy)
    (told-as lru before asked rules _ start c.args.gone _ _ _ told c.told_of.ensures.counts c.told_of.ensures.evicted c.told_of.ensures.tracked
    (subst (λ (r : AnyRun). Stands before asked rules start c.args.gone r) c.in-Lru.is stands))

pub returns-in-Sharded-clause-ran : goal.returns-in-Sharded-clause-ran
returns-in-Sharded-clause-ran c = λ before asked rules start stands.
    let told = c.told_of-in-Sharded.result in
    subst (λ (q : Named). RanBy q before asked rules start told) (sym c.told_of-in-Sharded.ensures.policy)
    (told-as (sharded 16) before asked rules _ start c.args.gone _ _ _ told c.told_of-in-Sharded.ensures.counts c.told_of-in-Sharded.ensures.evicted c.told_of-in-Sharded.ensures.tracked
    (subst (λ (r : AnyRun). Stands before asked rules start c.args.gone r) c.in-Sharded.is stands))

pub returns-in-Sieve-clause-ran : goal.returns-in-Sieve-clause-ran
returns-in-Sieve-clause-ran c = λ before asked rules start stands.
    let told = c.told_of-in-Sieve.result in
    subst (λ (q : Named). RanBy q before asked rules start told) (sym c.told_of-in-Sieve.ensures.policy)
    (told-as sieve_policy before asked rules _ start c.args.gone _ _ _ told c.told_of-in-Sieve.ensures.counts c.told_of-in-Sieve.ensures.evicted c.told_of-in-Sieve.ensures.tracked
    (subst (λ (r : AnyRun). Stands before asked rules start c.args.gone r) c.in-Sieve.is stands))

pub returns-in-S3Fifo-clause-ran : goal.returns-in-S3Fifo-clause-ran
returns-in-S3Fifo-clause-ran c = λ before asked rules start stands.
    let told = c.told_of-in-S3Fifo.result in
    subst (λ (q : Named). RanBy q before asked rules start told) (sym c.told_of-in-S3Fifo.ensures.policy)
    (told-as s3_fifo_policy before asked rules _ start c.args.gone _ _ _ told c.told_of-in-S3Fifo.ensures.counts c.told_of-in-S3Fifo.ensures.evicted c.told_of-in-S3Fifo.ensures.tracked
    (subst (λ (r : AnyRun). Stands before asked rules start c.args.gone r) c.in-S3Fifo.is stands))

pub returns-in-Fifo-clause-ran : goal.returns-in-Fifo-clause-ran
returns-in-Fifo-clause-ran c = λ before asked rules start stands.
    let told = c.told_of-in-Fifo.result in
    subst (λ (q : Named). RanBy q before asked rules start told) (sym c.told_of-in-Fifo.ensures.policy)
    (told-as fifo before asked rules _ start c.args.gone _ _ _ told c.told_of-in-Fifo.ensures.counts c.told_of-in-Fifo.ensures.evicted c.told_of-in-Fifo.ensures.tracked
    (subst (λ (r : AnyRun). Stands before asked rules start c.args.gone r) c.in-Fifo.is stands))

pub returns-in-Clock-clause-ran : goal.returns-in-Clock-clause-ran
returns-in-Clock-clause-ran c = λ before asked rules start stands.
    let told = c.told_of-in-Clock.result in
    subst (λ (q : Named). RanBy q before asked rules start told) (sym c.told_of-in-Clock.ensures.policy)
    (told-as clock before asked rules _ start c.args.gone _ _ _ told c.told_of-in-Clock.ensures.counts c.told_of-in-Clock.ensures.evicted c.told_of-in-Clock.ensures.tracked
    (subst (λ (r : AnyRun). Stands before asked rules start c.args.gone r) c.in-Clock.is stands))

pub returns-in-TwoQueues-clause-ran : goal.returns-in-TwoQueues-clause-ran
returns-in-TwoQueues-clause-ran c = λ before asked rules start stands.
    let told = c.told_of-in-TwoQueues.result in
    subst (λ (q : Named). RanBy q before asked rules start told) (sym c.told_of-in-TwoQueues.ensures.policy)
    (told-as two_queues_policy before asked rules _ start c.args.gone _ _ _ told c.told_of-in-TwoQueues.ensures.counts c.told_of-in-TwoQueues.ensures.evicted c.told_of-in-TwoQueues.ensures.tracked
    (subst (λ (r : AnyRun). Stands before asked rules start c.args.gone r) c.in-TwoQueues.is stands))
