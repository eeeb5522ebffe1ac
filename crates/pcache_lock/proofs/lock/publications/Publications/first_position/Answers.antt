use Rattle.pcache_lock.proofs.Words.{subst, IsIndex}
use Rattle.pcache_lock.proofs.Published.{place_found}
use Rattle.pcache_lock.proofs.lock.publications.Publications.first_position.Goals as goal

pub returns-in-Some : goal.returns-in-Some
returns-in-Some c =
    let known : IsIndex c.self.inside.index c.args.self.now = subst (IsIndex c.self.inside.index) c.self.view_is c.self.invariant.1 in
    place_found c.self.inside.index c.args.self.now c.args.token c.args.from c.args.before _ _ _ known c.ranges.before.fits c.entry-first.ensures c.entry.ensures c.entry-2.ensures
    _ _ c.in-Some.entry.now (c.range-entries.ensures.in_range tt) c.in-Some.ensures.steps
