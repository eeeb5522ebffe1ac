use Rattle.std.proofs.Common.{option_map}
use Rattle.pcache_store.specs.Store.{Reader}
use Rattle.pcache_world.proofs.Words.{rules, Option, Some, IsSome, inl, subst, Meta, read_in, reader_of, facts_in, Ongoing, MovesStore, FollowsRule, held_with}
use Rattle.pcache_history.specs.declared.call.Act.TheVariants as C
use Rattle.pcache_world.proofs.world.locks.wait.Goals as goal

pub returns-clause-answers : goal.returns-clause-answers
returns-clause-answers c s =
    let may : IsSome (read_in c.request.inside.cache.held) = search rules in
    subst (λ (x : Ongoing). FollowsRule (facts_in s c.args.lock.now.table x.request) (C.Wait c.args.now) (Some x) c.wait_on.result c.wait_on.new.events.items) c.request.view_is
    (inl (may, c.wait_on.ensures.other, c.wait_on.ensures.answers s))

pub returns-clause-moves : goal.returns-clause-moves
returns-clause-moves c s =
    let pair : Option (Meta × Reader) = option_map (λ p. (p.0, reader_of p.1)) c.request.inside.pair in
    subst (λ (x : Ongoing). MovesStore (Some x) s c.wait_on.new.events.items (Some (held_with c.request.inside.carried pair c.wait_on.new.cache)) s) c.request.view_is (c.wait_on.ensures.moves s pair c.request.inside.carried)
