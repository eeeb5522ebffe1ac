use Rattle.std.proofs.lemmas.Fn.{FoldsTo-push}
use Rattle.pcache_table.proofs.Words.{◌≡◌, ◌∙◌, ◌++◌, [], ◌∷◌, refl, ap, arith, range_with_len, Visits}
use Rattle.pcache_table.proofs.Seats.{place-at, places-more}
use Rattle.pcache_table.proofs.hashtable.concurrent.ConcurrentHashTable.for_each.Goals as goal

pub loop-place-init : goal.loop-place-init
loop-place-init g c = (c.requires, ([], refl, refl))

pub loop-place-preserved : goal.loop-place-preserved
loop-place-preserved g c =
    let n = c.loop-place.place in
    let so_far = c.loop-place.invariant.1 in
    let shard = c.deref.result.now in
    let at : shard.place ≡ n = ap (λ s. s.place) c.deref.ensures ∙ c.read-shard.ensures ∙ place-at c.self.inside.tables g.row.N n c.index-tables-place.result c.self.invariant.1 c.loop-place-test.true in (
      c.visit-f.ensures.callable,
      (
        so_far.0 ++ shard ∷ [],
        places-more (λ p. p.place) so_far.0 shard n so_far.1 at,
        FoldsTo-push (Visits g.F.FnMut g.row.N) c.args.f so_far.0 c.loop-place.f shard c.visit-f.result so_far.2 c.visit-f.ensures.called,
      ),
    )

pub returns : goal.returns
returns g c =
    let all = c.loop-place.invariant.1 in
    (all.0, c.loop-place.f, all.1 ∙ ap (range_with_len 0) (omega arith), all.2)
