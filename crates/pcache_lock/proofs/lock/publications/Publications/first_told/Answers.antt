use Rattle.std.proofs.Common.{drop, length-drop}
use Rattle.pcache_lock.proofs.Words.{◌≡◌, ◌≤◌, [], ◌∙◌, ap, arith, length, sym, take_all, first_told}
use Rattle.pcache_lock.proofs.Published.{place_told, no_place, nothing_told, found_next, not_found_next}
use Rattle.pcache_lock.proofs.lock.publications.Publications.first_told.Goals as goal
use Rattle.pcache_lock.proofs.lock.publications.Publications.first_told.Goals.{in-Some, in_default}

pub loop-fill-init : goal.loop-fill-init
loop-fill-init c =
    let len : place_told [] (drop c.args.from c.args.self.now) ≡ length (drop c.args.from c.args.self.now) = no_place (drop c.args.from c.args.self.now) in
    record {
      place = omega (arith, length-drop c.args.from c.args.self.now);
      told = sym (nothing_told (drop c.args.from c.args.self.now));
    }

pub first_position-requires : goal.first_position-requires
first_position-requires c = let at = c.loop-fill.invariant.place in omega arith

pub loop-fill-preserved : goal.loop-fill-preserved
loop-fill-preserved c =
    elim c.match-first_position.branch [
      | in-Some w ↦
          let next = found_next c.args.self.now c.fills-fill-items.result.now c.loop-fill.fill-index _ c.args.from c.loop-fill.before w.in-Some.place c.first_position.result
          c.loop-fill-test.true c.loop-fill.invariant.place c.first_position.ensures w.in-Some.is in
          record { place = w.before-is ∙ next.1; told = w.told-is ∙ sym next.0 }
      | in_default w ↦
          let next = not_found_next c.args.self.now c.fills-fill-items.result.now c.loop-fill.fill-index _ c.args.from c.loop-fill.before c.first_position.result
          c.loop-fill-test.true c.loop-fill.invariant.place c.first_position.ensures w.in_default.is in
          record { place = w.before-is ∙ next.1; told = w.told-is ∙ c.loop-fill.invariant.told ∙ sym next.0 }
    ]

pub returns : goal.returns
returns c =
    let all : length c.fills-fill-items.result.now ≤ c.loop-fill.fill-index = omega arith in
    c.loop-fill.invariant.told
    ∙ ap (λ fs. first_told fs (drop c.args.from c.args.self.now)) (take_all c.loop-fill.fill-index c.fills-fill-items.result.now all ∙ c.fills-fill-items.ensures)
