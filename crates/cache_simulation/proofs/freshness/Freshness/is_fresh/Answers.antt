use Rattle.cache_simulation.specs.Fresh.{is_fresh_since}
use Rattle.cache_simulation.proofs.Words.{◌≡◌, ◌∙◌, Some, None, ap, sym, as_nanos, weight_of, get-map_of, Fresh}
use Rattle.std.specs.FinMap as map
use Rattle.cache_simulation.proofs.freshness.Freshness.is_fresh.Goals as goal

pub returns-in-Some : goal.returns-in-Some
returns-in-Some c =
    let found : Some c.in-Some.came.now ≡ weight_of c.args.item.now c.self.inside.came.entries = c.in-Some.ensures.value in
    c.is_meta_fresh.ensures
    ∙ ap (λ o. is_fresh_since o (as_nanos c.self.inside.time) c.args.now) (found ∙ sym (get-map_of c.self.inside.came.entries c.args.item.now))
    ∙ ap (λ (f : Fresh). is_fresh_since (map.get f.came c.args.item.now) f.time c.args.now) c.self.view_is

pub returns-in-None : goal.returns-in-None
returns-in-None c =
    let found : None ≡ weight_of c.args.item.now c.self.inside.came.entries = c.in-None.ensures.value in
    ap (λ o. is_fresh_since o (as_nanos c.self.inside.time) c.args.now) (found ∙ sym (get-map_of c.self.inside.came.entries c.args.item.now))
    ∙ ap (λ (f : Fresh). is_fresh_since (map.get f.came c.args.item.now) f.time c.args.now) c.self.view_is
