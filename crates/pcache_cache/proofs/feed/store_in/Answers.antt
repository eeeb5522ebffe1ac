use Rattle.pcache_cache.proofs.Words.{◌≡◌, ◌∙◌, refl, subst, sym, true, Some, dropped_by, dropped_past, write_in, is_own_write}
use Rattle.pcache_cache.proofs.Fed.{own_goes_on, own_nothing}
use Rattle.pcache_cache.proofs.feed.store_in.Goals as goal

pub returns-in-GoesOn-clause-step : goal.returns-in-GoesOn-clause-step
returns-in-GoesOn-clause-step g c =
    let e = c.store_piece-end.ensures in
    let r = c.store_piece-end.result in
    (record { began = r.began; wrote = r.wrote }, record { policy = e.policy; key = e.key; parsed = e.parsed; limit = e.limit; taken = e.taken; last = e.last }, e.store, e.past)

pub returns-in-NotCached-clause-step : goal.returns-in-NotCached-clause-step
returns-in-NotCached-clause-step g c =
    let e = c.store_piece-end.ensures in
    let r = c.store_piece-end.result in
    (record { began = r.began; wrote = r.wrote }, record { policy = e.policy; key = e.key; parsed = e.parsed; limit = e.limit; taken = e.taken; last = e.last }, e.store, e.past)

pub returns-in-Refused-clause-step : goal.returns-in-Refused-clause-step
returns-in-Refused-clause-step g c =
    let e = c.store_piece-end.ensures in
    let r = c.store_piece-end.result in
    let ends = rw c.in-Refused.is at e.ends in
    (record { began = r.began; wrote = r.wrote }, record { policy = e.policy; key = e.key; parsed = e.parsed; limit = e.limit; taken = e.taken; last = e.last }, c.drop_writer.ensures.store ∙ (λ i. dropped_by (ends.1 i) (e.store i)), c.drop_writer.ensures.past ∙ (λ i. dropped_past (ends.1 i) (e.past i)))

pub returns-in-GoesOn-clause-own : goal.returns-in-GoesOn-clause-own
returns-in-GoesOn-clause-own g c own =
    let e = c.store_piece-end.ensures in
    let r = c.store_piece-end.result in
    let put = c.store_piece-end.new.self in
    subst (λ k. is_own_write c.store_piece-end.new.storage.state (Some k) (write_in put.stage) ≡ true) (sym e.key)
    (own_goes_on c.args.store.now.state c.store_piece-end.new.storage.state c.args.put.now.key c.args.put.now.stage put.stage r.began r.wrote (rw c.in-GoesOn.is at e.ends) e.store own)

pub returns-in-NotCached-clause-own : goal.returns-in-NotCached-clause-own
returns-in-NotCached-clause-own g c own =
    let e = c.store_piece-end.ensures in
    let put = c.store_piece-end.new.self in
    let ends = rw c.in-NotCached.is at e.ends in
    own_nothing c.store_piece-end.new.storage.state put.key put.stage _ ends.0 refl

pub returns-in-Refused-clause-own : goal.returns-in-Refused-clause-own
returns-in-Refused-clause-own g c own =
    let e = c.store_piece-end.ensures in
    let put = c.store_piece-end.new.self in
    let ends = rw c.in-Refused.is at e.ends in
    own_nothing c.drop_writer.new.store.state put.key put.stage _ ends.0 refl
