use Rattle.pcache_world.proofs.Words.{rules, ◌≡◌, Option, None, Some, sym, subst, is_at, lookup, nat_cmp, Ongoing, MovesStore}
use Rattle.pcache_world.proofs.world.turn.drop_put.Goals as goal

pub returns-clause-moves : goal.returns-clause-moves
returns-clause-moves g c =
    let is : lookup (is_at (nat_cmp c.args.number)) c.args.requests.now.entries ≡ Some c.in-Some.put = search rules in
    subst (λ (q : Option Ongoing). MovesStore q c.args.store.now.state c.drop_put.new.events.items None c.drop_put.new.store.state) (sym is) c.drop_put.ensures.moves
