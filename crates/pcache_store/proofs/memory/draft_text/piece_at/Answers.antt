use Rattle.pcache_store.proofs.Words.{◌≡◌, ◌<◌, ◌≤◌, ◌+◌, ◌-◌, ◌∙◌, ap, arith, length, sym, take, get_or, concat}
use Rattle.pcache_store.proofs.Pieces.{all_taken, begun_before, some_left, step_back}
use Rattle.pcache_store.proofs.memory.draft_text.piece_at.Goals as goal

pub loop-start-init : goal.loop-start-init
loop-start-init c =
    let all : length c.args.pieces.now ≤ length c.args.pieces.now = omega arith in
    record {
      start = c.requires.end ∙ sym (all_taken c.args.pieces.now (length c.args.pieces.now) all);
      count = all;
      inside = λ lt. absurd (omega arith);
    }

pub overflow_sub-count : goal.overflow_sub-count
overflow_sub-count c = some_left c.args.pieces.now c.loop-start.count c.loop-start.start c.args.place c.loop-start.invariant.start c.loop-start-test.true

pub bounds-pieces-count : goal.bounds-pieces-count
bounds-pieces-count c =
    let some : 0 < c.loop-start.count = some_left c.args.pieces.now c.loop-start.count c.loop-start.start c.args.place c.loop-start.invariant.start c.loop-start-test.true in
    omega arith

pub overflow_sub-start : goal.overflow_sub-start
overflow_sub-start c =
    let some : 0 < c.loop-start.count = some_left c.args.pieces.now c.loop-start.count c.loop-start.start c.args.place c.loop-start.invariant.start c.loop-start-test.true in
    let back = step_back c.args.pieces.now c.loop-start.count c.index-pieces-count.result some c.loop-start.invariant.count in
    let len : c.len-start.result ≡ length (get_or c.args.pieces.now (c.loop-start.count - 1) c.index-pieces-count.result) = c.len-start.ensures.value ∙ ap length c.index-pieces-count.is in
    omega arith

pub loop-start-smaller : goal.loop-start-smaller
loop-start-smaller c =
    let some : 0 < c.loop-start.count = some_left c.args.pieces.now c.loop-start.count c.loop-start.start c.args.place c.loop-start.invariant.start c.loop-start-test.true in
    omega arith

pub loop-start-preserved : goal.loop-start-preserved
loop-start-preserved c =
    let some : 0 < c.loop-start.count = some_left c.args.pieces.now c.loop-start.count c.loop-start.start c.args.place c.loop-start.invariant.start c.loop-start-test.true in
    let back = step_back c.args.pieces.now c.loop-start.count c.index-pieces-count.result some c.loop-start.invariant.count in
    let len : c.len-start.result ≡ length (get_or c.args.pieces.now (c.loop-start.count - 1) c.index-pieces-count.result) = c.len-start.ensures.value ∙ ap length c.index-pieces-count.is in
    let again : c.loop-start.count - 1 + 1 ≡ c.loop-start.count = omega arith in
    let same : length (concat (take (c.loop-start.count - 1 + 1) c.args.pieces.now)) ≡ length (concat (take c.loop-start.count c.args.pieces.now)) = ap (λ n. length (concat (take n c.args.pieces.now))) again in
    record { start = omega arith; count = omega arith; inside = λ lt. omega arith }

pub returns-clause-within : goal.returns-clause-within
returns-clause-within c = begun_before c.args.pieces.now c.loop-start.count c.loop-start.start c.args.end c.args.place c.requires.end c.loop-start.invariant.start c.loop-start-test.false c.requires.place

pub returns-clause-inside : goal.returns-clause-inside
returns-clause-inside c = c.loop-start.invariant.inside (begun_before c.args.pieces.now c.loop-start.count c.loop-start.start c.args.end c.args.place c.requires.end c.loop-start.invariant.start c.loop-start-test.false c.requires.place)

pub returns-clause-start : goal.returns-clause-start
returns-clause-start c = c.loop-start.invariant.start
