use Rattle.cache_simulation.specs.Fresh.{is_fresh}
use Rattle.cache_simulation.proofs.Words.{◌∙◌, ◌+◌, ◌<◌, ◌≤◌, ◌&&◌, Bool, refl, ap, sym, cond, arith, Hit, Passed, comes, size_in}
use Rattle.std.specs.FinMap as fin
use Rattle.cache_simulation.proofs.Standing.{both_first, is-hit, is-passed, is-come, counted-one, comes-size, comes-miss}
use Rattle.cache_simulation.proofs.Replaying.{is-fresh, is-come-in}
use Rattle.cache_simulation.proofs.run.Run.request.Goals as goal

pub returns-then-has_fresh-clause-ok : goal.returns-then-has_fresh-clause-ok
returns-then-has_fresh-clause-ok g c =
    let there = both_first _ _ (sym c.if-has_fresh.ensures) in
    let same = c.in_ok-access_in_order.ensures.ok ∙ ap (λ b. cond b (g.M.EvictionManager.tracked c.args.self.now.manager) (fin.insert (g.M.EvictionManager.tracked c.args.self.now.manager) c.args.asked.now.item c.args.asked.now.size)) there in (
      Hit c.args.asked.now.item c.args.asked.now.size,
      counted-one c.args.self.now.counts c.note.new.self (Hit c.args.asked.now.item c.args.asked.now.size) 1 c.args.asked.now.size c.note.ensures.requests c.note.ensures.bytes c.note.ensures.hits c.note.ensures.hit_bytes refl refl,
      record { event = is-hit _ _ c.args.self.now.most c.args.asked.now.item c.args.asked.now.size (sym c.if-has_fresh.ensures); leads = (there, same); fresh = refl },
      record { event = is-hit _ _ c.args.self.now.most c.args.asked.now.item c.args.asked.now.size (is-fresh g.M.OrderedManager.policy (g.M.OrderedManager.order c.args.self.now.manager) (g.M.EvictionManager.tracked c.args.self.now.manager) c.args.asked.now.item (is_fresh c.args.self.now.freshness c.args.asked.now.item c.args.asked.now.time) _ (g.met.M.OrderedManager.listed c.args.self.now.manager) c.if-has_fresh.ensures); moves = c.in_ok-access_in_order.ensures.order; fresh = refl },
      ap (λ e. e.count) c.access_in_order.ensures.evicted,
    )

pub returns-then-asked-self-clause-ok : goal.returns-then-asked-self-clause-ok
returns-then-asked-self-clause-ok g c =
    let large : c.args.self.now.most < c.args.asked.now.size = (let more = c.if-asked-self.true in omega arith) in (
      Passed c.args.asked.now.item c.args.asked.now.size,
      counted-one c.args.self.now.counts c.note-then-asked-self.new.self (Passed c.args.asked.now.item c.args.asked.now.size) 0 0 c.note-then-asked-self.ensures.requests c.note-then-asked-self.ensures.bytes c.note-then-asked-self.ensures.hits c.note-then-asked-self.ensures.hit_bytes refl refl,
      record { event = is-passed _ _ c.args.self.now.most c.args.asked.now.item c.args.asked.now.size (sym c.if-has_fresh.ensures) large; leads = refl; fresh = refl },
      record { event = is-passed _ _ c.args.self.now.most c.args.asked.now.item c.args.asked.now.size (is-fresh g.M.OrderedManager.policy (g.M.OrderedManager.order c.args.self.now.manager) (g.M.EvictionManager.tracked c.args.self.now.manager) c.args.asked.now.item (is_fresh c.args.self.now.freshness c.args.asked.now.item c.args.asked.now.time) _ (g.met.M.OrderedManager.listed c.args.self.now.manager) c.if-has_fresh.ensures) large; moves = refl; fresh = refl },
      refl,
    )

pub returns-clause-ok : goal.returns-clause-ok
returns-clause-ok g c =
    let few : c.args.asked.now.size ≤ c.args.self.now.most = (let less = c.if-asked-self.false in omega arith) in
    let k = c.args.asked.now.item in
    let n = c.args.asked.now.size in
    let m = g.M.EvictionManager.tracked c.args.self.now.manager in
    let anew : Bool = c.args.self.now.replaces && fin.contains_key m k in
    let came = c.in_ok-bring.ensures.comes in
    let same = c.bring.ensures.counts in (
      comes anew k n came.out,
      counted-one c.args.self.now.counts c.note-2.new.self (comes anew k n came.out) 0 0
          (c.note-2.ensures.requests ∙ ap (λ k. k.requests + 1) same) (c.note-2.ensures.bytes ∙ ap (λ k. k.bytes + n) same ∙ ap (λ x. c.args.self.now.counts.bytes + x) (sym (comes-size anew k n came.out))) (c.note-2.ensures.hits ∙ ap (λ k. k.hits + 0) same) (c.note-2.ensures.hit_bytes ∙ ap (λ k. k.hit_bytes + 0) same)
          (ap (λ b. cond b 1 0) (comes-miss anew k n came.out)) (ap (λ b. cond b (size_in (comes anew k n came.out)) 0) (comes-miss anew k n came.out)),
      record { event = is-come _ anew c.args.self.now.most k n came.out (sym c.if-has_fresh.ensures) few; leads = came.leads; fresh = came.fresh },
      record { event = is-come-in g.M.OrderedManager.policy (g.M.OrderedManager.order c.args.self.now.manager) m k n (is_fresh c.args.self.now.freshness k c.args.asked.now.time) _ c.args.self.now.replaces c.args.self.now.most came.out (g.met.M.OrderedManager.listed c.args.self.now.manager) c.if-has_fresh.ensures refl few; moves = came.moves; fresh = came.fresh },
      came.gone,
    )
