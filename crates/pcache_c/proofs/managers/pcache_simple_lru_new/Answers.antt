use Rattle.pcache_evict.specs.Listed.{empty_list}
use Rattle.pcache_c.proofs.Words.{ap, inr, is_some, refl, sym, ◌∙◌}
use Rattle.pcache_c.proofs.Changed.{good_some}
use Rattle.pcache_c.proofs.managers.pcache_simple_lru_new.Goals as goal

pub returns-in-Ok : goal.returns-in-Ok
returns-in-Ok c =
    good_some _ _ _ _ (sym c.seed_of.ensures ∙ ap (λ o. is_some o) c.in-Some.is)
    (λ s. inr (c.new.result, c.new.ensures.manager ∙ (c.in-Ok.ensures.ok ∙ ap (λ w. empty_list c.args.limit w) c.watermark_of.ensures), c.new.ensures.waiting, c.new.ensures.shown, c.fill.ensures))
