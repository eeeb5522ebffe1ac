use Rattle.pcache_control.proofs.Words.{sym, subst, LacksRoom}
use Rattle.pcache_control.proofs.filters.upstream.request_filter.Goals as goal

pub returns-in-Some-clause-no_room : goal.returns-in-Some-clause-no_room
returns-in-Some-clause-no_room c =
    rw c.in-Some.is (λ lacks. c.ask.ensures.no_room (subst (λ m. LacksRoom m c.in-Some.meta.now.header.fields) (sym c.remove_conditions.ensures.all) lacks))
