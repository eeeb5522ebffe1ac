use Rattle.pcache_evict.proofs.Words.{arith, refl, subst, ◌+◌, ◌-◌, ◌≡◌, ShardedLru, ArePlaced}
use Rattle.pcache_evict.proofs.Chains.{room-none, room-stopped, room-whole, parts-others, second-fits}
use Rattle.pcache_evict.proofs.eviction.shards.RecencyShards.room_for.Goals as goal

pub returns-then-not-exceeds : goal.returns-then-not-exceeds
returns-then-not-exceeds g c =
    room-none g.row.N _ c.args.item.now c.args.size c.args.self.now (c.args.rest.0 + c.args.size) (c.args.rest.1 + 1) (subst (ArePlaced g.row.N) c.self.view_is c.self.invariant.placed) (c.exceeds.ensures.small ShardedLru c.if-not-exceeds.true) (omega (arith, c.requires.sum)) (omega (arith, c.requires.count))

pub walk-behind-requires : goal.walk-behind-requires
walk-behind-requires g c =
    let parts = parts-others g.row.N c.args.self.now c.args.item.now c.place_of-place.result (subst (ArePlaced g.row.N) c.self.view_is c.self.invariant.placed) c.place_of-place.ensures.value in
    let first = parts.0 in
    let second = parts.1 in
    let sum = c.requires.sum in
    let count = c.requires.count in
    let few = c.requires.count_fits in
    let within = c.place_of-place.ensures.in_range in
    (omega arith, (omega arith, (omega arith, (omega arith, (omega arith, omega arith)))))

pub returns-then-not-exceeds-2 : goal.returns-then-not-exceeds-2
returns-then-not-exceeds-2 g c =
    room-stopped g.row.N _ c.args.item.now c.args.size c.args.self.now c.place_of-place.result _ c.walk-behind.result (subst (ArePlaced g.row.N) c.self.view_is c.self.invariant.placed) c.place_of-place.ensures.value c.walk-behind.ensures (c.exceeds-2.ensures.small ShardedLru c.if-not-exceeds-2.true) refl (omega (arith, c.requires.sum)) (omega (arith, c.requires.count))

pub walk-end-requires : goal.walk-end-requires
walk-end-requires g c =
    let same : c.place_of-place.result + 1 - 0 ≡ c.place_of-place.result + 1 = omega arith in
    let fits = second-fits g.row.N _ c.args.item.now c.args.self.now c.place_of-place.result (c.place_of-place.result + 1 - 0) _ c.walk-behind.result (subst (ArePlaced g.row.N) c.self.view_is c.self.invariant.placed) c.place_of-place.ensures.value c.walk-behind.ensures same (omega (arith, c.requires.sum)) (omega (arith, c.requires.count)) in
    let third = fits.2 in
    let few = c.requires.count_fits in
    let within = c.place_of-place.ensures.in_range in
    (omega arith, (omega arith, (omega arith, (fits.0, (fits.1, omega arith)))))

pub returns : goal.returns
returns g c =
    let same : c.place_of-place.result + 1 - 0 ≡ c.place_of-place.result + 1 = omega arith in
    room-whole g.row.N _ c.args.item.now c.args.size c.args.self.now c.place_of-place.result (c.place_of-place.result + 1 - 0) _ c.walk-behind.result c.walk-end.result (subst (ArePlaced g.row.N) c.self.view_is c.self.invariant.placed) c.place_of-place.ensures.value c.walk-behind.ensures (c.exceeds-2.ensures.above ShardedLru c.if-not-exceeds-2.false) same c.walk-end.ensures refl (omega (arith, c.requires.sum)) (omega (arith, c.requires.count))
