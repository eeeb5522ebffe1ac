use Rattle.pcache_store.proofs.Words.{◌∷◌, ◌++◌, [], ◌∙◌, ap}
use Rattle.pcache_store.proofs.Pieces.{settled}
use Rattle.pcache_store.proofs.memory.draft_text.settle.Goals as goal

pub returns-in-Ok-clause-same : goal.returns-in-Ok-clause-same
returns-in-Ok-clause-same c =
    settled c.args.pieces.now.items c.push_reserved.new.self.items c.args.tail.now.items c.in-Ok.bytes c.replace.new.dest.items
    (c.in-Ok.ensures.ok ∙ ap (λ v. v.items) c.replace.ensures.value ∙ c.shrink_to_fit.ensures.items)
    (c.push_reserved.ensures.items ∙ ap (λ ps. ps ++ c.in-Ok.bytes ∷ []) c.in_ok-reserve.ensures.items)
    (ap (λ v. v.items) c.replace.ensures.after ∙ c.new.ensures.items)
