use Rattle.std.proofs.lemmas.Option.{slice_get-map, slice_get_read}
use Rattle.pcache_shared_cache.proofs.Words.{◌≡◌, Some, ap, slice_get, sym, ◌∙◌, option_map, Parts, begun_first}
use Rattle.pcache_shared_cache.proofs.shared.SharedCache.part.Goals as goal

pub returns-clause-limits : goal.returns-clause-limits
returns-clause-limits g c =
    let parts = c.self.inside.parts.items in
    let here = slice_get_read parts g.row.N c.args.place c.index.result.now (sym c.self.invariant.1) c.requires c.index.ensures in
    let begun : slice_get c.args.self.now c.args.place ≡ Some c.index.result.now.first =
    ap (λ ps. slice_get ps c.args.place) (sym c.self.view_is) ∙ slice_get-map begun_first parts c.args.place ∙ ap (option_map begun_first) here in
    slice_get-map (λ (p : Parts). p.limits) c.args.self.now c.args.place ∙ ap (option_map (λ (p : Parts). p.limits)) begun

pub returns-clause-place : goal.returns-clause-place
returns-clause-place g c = c.self.invariant.2 c.args.place c.index.result.now (slice_get_read c.self.inside.parts.items g.row.N c.args.place c.index.result.now (sym c.self.invariant.1) c.requires c.index.ensures)
