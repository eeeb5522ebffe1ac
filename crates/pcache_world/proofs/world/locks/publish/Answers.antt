use Rattle.pcache_world.proofs.Words.{refl, ap, ◌∙◌, rules, ◌≡◌, published_by, Ongoing, []}
use Rattle.pcache_world.proofs.LockSteps.{no_locks_move, publish-locks}
use Rattle.pcache_world.proofs.world.locks.publish.Goals as goal

pub returns-in-Ok-clause-locks : goal.returns-in-Ok-clause-locks
returns-in-Ok-clause-locks c n =
    let tokens : c.as_slice.result.now ≡ c.args.tokens.now = search rules in
    publish-locks n c.args.lock.now.table c.lock_publish_fill_tokens.new.lock.table c.args.tokens.now c.args.request.now.request.held
    (c.in-Ok.ensures.publishes.table ∙ ap (λ ts. published_by ts c.request.inside.cache.held c.args.lock.now.table) tokens ∙ ap (λ (x : Ongoing). published_by c.args.tokens.now x.request.held c.args.lock.now.table) c.request.view_is)

pub returns-in-Err-clause-locks : goal.returns-in-Err-clause-locks
returns-in-Err-clause-locks c n = no_locks_move n [] c.args.request.now.request.held c.args.request.now.request.held c.args.lock.now.table c.lock_publish_fill_tokens.new.lock.table refl refl c.in-Err.ensures.publishes.same_table
