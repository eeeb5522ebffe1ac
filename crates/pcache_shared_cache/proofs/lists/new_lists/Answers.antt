use Rattle.std.proofs.lemmas.List.FromFn.{map-range_with_len_more}
use Rattle.pcache_shared_cache.proofs.Words.{rules, [], ◌∷◌, ◌++◌, map, arith, ap, sym, ◌∙◌, range_with_len, map-append, Limits, Lru, Managed, Portioned, listed, no_entries, unmade_limits, unmade_portion, portion_at}
use Rattle.pcache_shared_cache.proofs.lists.new_lists.Goals as goal

pub loop-place-preserved : goal.loop-place-preserved
loop-place-preserved c =
    let i = c.loop-place.invariant in
    let p = c.push_reserved.ensures in
    let made = c.in_ok-list_at.ensures.limits in (
      ap (map unmade_limits) p.items
          ∙ (map-append unmade_limits c.loop-place.lists.items (c.new.result ∷ [])
          ∙ (ap (λ ls. ls ++ c.new.result.portion.limits ∷ []) i.0
          ∙ (ap (λ (l : Limits). map (portion_at Lru c.args.parts c.args.limit c.args.watermark) (range_with_len 0 c.loop-place.place) ++ l ∷ []) (ap (λ (m : Portioned _). m.limits) c.new.ensures ∙ made)
          ∙ sym (map-range_with_len_more (portion_at Lru c.args.parts c.args.limit c.args.watermark) 0 c.loop-place.place c.loop-place.place (omega arith))))),
      ap (λ us. map listed (map unmade_portion us)) p.items
          ∙ ap (map listed) (map-append unmade_portion c.loop-place.lists.items (c.new.result ∷ []))
          ∙ map-append listed (map unmade_portion c.loop-place.lists.items) (c.new.result.portion ∷ [])
          ∙ ap (λ ms. ms ++ listed c.new.result.portion ∷ []) i.1
          ∙ ap (λ (m : Managed). map no_entries (map (portion_at Lru c.args.parts c.args.limit c.args.watermark) (range_with_len 0 c.loop-place.place)) ++ m ∷ []) (ap listed c.new.ensures ∙ c.in_ok-list_at.ensures.empty)
          ∙ sym (map-append no_entries (map (portion_at Lru c.args.parts c.args.limit c.args.watermark) (range_with_len 0 c.loop-place.place)) (portion_at Lru c.args.parts c.args.limit c.args.watermark c.loop-place.place ∷ []))
          ∙ ap (map no_entries) (sym (map-range_with_len_more (portion_at Lru c.args.parts c.args.limit c.args.watermark) 0 c.loop-place.place c.loop-place.place (omega arith))),
      search rules,
      search rules,
    )
