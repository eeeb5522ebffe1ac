use Rattle.pcache_lock.specs.declared.lock.status.LockStatus.TheVariants.{Done}
use Rattle.pcache_world.proofs.Words.{rules, ◌≡◌, Option, None, Some, sym, subst, refl, is_at, lookup, nat_cmp, Ongoing, MovesStore, MovesLocks, deeds_by, held_in}
use Rattle.pcache_world.proofs.LockSteps.{none_noted}
use Rattle.pcache_world.proofs.world.turn.end.Goals as goal

pub returns-clause-moves : goal.returns-clause-moves
returns-clause-moves g c =
    let is : lookup (is_at (nat_cmp c.args.number)) c.args.requests.now.entries ≡ Some c.in-Some.request = search rules in
    subst (λ (q : Option Ongoing). MovesStore q c.args.store.now.state c.close.new.events.items None c.close.new.store.state) (sym is) c.close.ensures.moves

pub returns-clause-locks : goal.returns-clause-locks
returns-clause-locks g c n =
    let is : lookup (is_at (nat_cmp c.args.number)) c.args.requests.now.entries ≡ Some c.in-Some.request = search rules in
    subst (λ (q : Option Ongoing). MovesLocks n (deeds_by n 0 Done c.close.new.events.items) (held_in q) c.args.lock.now.table None c.close.new.lock.table) (sym is) (c.close.ensures.locks n)

pub returns-in_default-clause-locks : goal.returns-in_default-clause-locks
returns-in_default-clause-locks g c n = none_noted n 0 Done c.args.events.now.items _ _ c.args.lock.now.table c.args.lock.now.table c.requires.none refl refl
