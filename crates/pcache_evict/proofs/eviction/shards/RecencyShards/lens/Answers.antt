use Rattle.pcache_evict.proofs.Words.{◌+◌, ap, subst, sym, ◌∙◌, [], length, get_or_default, Recency}
use Rattle.pcache_evict.proofs.Cuts.{LensOf, lens-none, lens-more, lens-done}
use Rattle.pcache_evict.proofs.eviction.shards.RecencyShards.lens.Goals as goal

pub loop-list-init : goal.loop-list-init
loop-list-init g c = subst (λ xs. LensOf 0 xs c.deref-list-items.result.now) (sym c.new-lens.ensures.items) (lens-none c.deref-list-items.result.now)

pub loop-list-preserved : goal.loop-list-preserved
loop-list-preserved g c =
    subst (λ xs. LensOf (c.loop-list.list-index + 1) xs c.deref-list-items.result.now) (sym c.in_ok-push.ensures.items)
    (lens-more c.loop-list.list-index c.loop-list.lens.items c.deref-list-items.result.now c.len.result c.loop-list.invariant
    (c.len.ensures.value ∙ ap (λ (l : Recency). length l) (c.list-item.is ∙ get_or_default c.deref-list-items.result.now c.loop-list.list-index c.list-item.result [] c.loop-list-test.true)))

pub returns : goal.returns
returns g c = record {
  ok = lens-done g.row.N c.loop-list.list-index c.loop-list.lens.items c.deref-list-items.result.now c.self.inside.lists.items c.args.self.now c.loop-list.invariant c.deref-list-items.ensures.value c.self.view_is c.self.invariant.placed.long c.loop-list.auto.list-index-end c.loop-list-test.false;
}
