use Rattle.pcache_request.specs.Requests.{dropped_by}
use Rattle.pcache_request.specs.StorePasts.{dropped_past}
use Rattle.pcache_put.proofs.Words.{◌∙◌}
use Rattle.pcache_put.proofs.context.CachePutCtx.cache_put.Goals as goal

pub returns-in-GoesOn-clause-step : goal.returns-in-GoesOn-clause-step
returns-in-GoesOn-clause-step g c =
    let e = c.take_piece-end.ensures in
    let r = c.take_piece-end.result in
    (record { began = r.began; wrote = r.wrote }, record { policy = e.policy; key = e.key; limit = e.limit; taken = e.taken; last = e.last }, e.store, e.past)

pub returns-in-NotCached-clause-step : goal.returns-in-NotCached-clause-step
returns-in-NotCached-clause-step g c =
    let e = c.take_piece-end.ensures in
    let r = c.take_piece-end.result in
    (record { began = r.began; wrote = r.wrote }, record { policy = e.policy; key = e.key; limit = e.limit; taken = e.taken; last = e.last }, e.store, e.past)

pub returns-in-Refused-clause-step : goal.returns-in-Refused-clause-step
returns-in-Refused-clause-step g c =
    let e = c.take_piece-end.ensures in
    let r = c.take_piece-end.result in
    let ends = rw c.in-Refused.is at e.ends in
    (record { began = r.began; wrote = r.wrote }, record { policy = e.policy; key = e.key; limit = e.limit; taken = e.taken; last = e.last }, c.drop_writer.ensures.store ∙ (λ i. dropped_by (ends.1 i) (e.store i)), c.drop_writer.ensures.past ∙ (λ i. dropped_past (ends.1 i) (e.past i)))
