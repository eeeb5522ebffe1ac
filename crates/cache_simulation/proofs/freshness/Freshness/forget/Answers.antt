use Rattle.pcache_evict.proofs.Evictions.{without-push}
use Rattle.cache_simulation.proofs.Words.{◌≡◌, ◌∷◌, [], ◌++◌, ◌+◌, ◌∙◌, ap, sym, take, take_more, without, Fresh}
use Rattle.std.specs.FinMap as map
use Rattle.cache_simulation.proofs.FreshMaps.{fresh_of}
use Rattle.cache_simulation.proofs.freshness.Freshness.forget.Goals as goal

pub loop-item-preserved : goal.loop-item-preserved
loop-item-preserved c =
    let more : take (c.loop-item.item-index + 1) c.args.gone.now ≡ take c.loop-item.item-index c.args.gone.now ++ c.item-item.result ∷ [] = take_more c.args.gone.now c.loop-item.item-index c.item-item.result c.loop-item-test.true ∙ ap (λ x. take c.loop-item.item-index c.args.gone.now ++ x ∷ []) (sym c.item-item.is) in
    c.remove.ensures
    ∙ ap (λ (f : Fresh). fresh_of f.time (map.remove f.came c.item-item.result)) c.loop-item.invariant
    ∙ ap (λ m. fresh_of c.args.self.now.time m) (sym (without-push (take c.loop-item.item-index c.args.gone.now) c.item-item.result c.args.self.now.came))
    ∙ ap (λ out. fresh_of c.args.self.now.time (without out c.args.self.now.came)) (sym more)
