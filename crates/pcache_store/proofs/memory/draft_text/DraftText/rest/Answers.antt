use Rattle.pcache_store.proofs.Words.{◌++◌, ◌-◌, ◌∙◌, ap, length, refl, sym, concat, IfOk-weaker}
use Rattle.pcache_store.proofs.Pieces.{rest_of_tail, rest_of_last, rest_of_pieces, skips, within, empty_tail}
use Rattle.pcache_store.proofs.memory.draft_text.DraftText.rest.Goals as goal

pub returns-then-place-end : goal.returns-then-place-end
returns-then-place-end c = record {
  ok = IfOk-weaker c.copy_from_slice.result _ _ (λ b is. is
      ∙ rest_of_tail c.self.inside.pieces.items c.as_slice-tail.result.now c.args.self.now c.self.inside.len (c.self.inside.len - length c.as_slice-tail.result.now) c.args.place
      (ap (λ x. concat c.self.inside.pieces.items ++ x) c.as_slice-tail.ensures.value ∙ c.self.view_is)
      (c.self.invariant ∙ ap (λ x. length (concat c.self.inside.pieces.items ++ x)) (sym c.as_slice-tail.ensures.value))
      refl c.if-place-end.true) c.copy_from_slice.ensures;
}

pub slice-requires-clause-start_le_end : goal.slice-requires-clause-start_le_end
slice-requires-clause-start_le_end c =
    within c.as_slice-pieces.result.now c.index-pieces-at.result c.piece_at-at.result.0 c.args.place c.piece_at-at.result.1 c.piece_at-at.ensures.within c.index-pieces-at.is c.piece_at-at.ensures.start c.piece_at-at.ensures.inside

pub returns-then-is_empty : goal.returns-then-is_empty
returns-then-is_empty c = record {
  ok = IfOk-weaker c.slice.result _ _ (λ b is. is
      ∙ rest_of_last c.as_slice-pieces.result.now c.as_slice-tail.result.now c.args.self.now c.index-pieces-at.result c.index-pieces-at.result c.piece_at-at.result.0 c.args.place c.piece_at-at.result.1
      (ap (λ x. concat x ++ c.as_slice-tail.result.now) c.as_slice-pieces.ensures.value ∙ ap (λ x. concat c.self.inside.pieces.items ++ x) c.as_slice-tail.ensures.value ∙ c.self.view_is)
      (empty_tail c.as_slice-tail.result.now (sym c.is_empty.ensures ∙ c.if-is_empty.true))
      c.piece_at-at.ensures.within c.if-at-pieces.true c.index-pieces-at.is c.piece_at-at.ensures.start c.piece_at-at.ensures.before) c.slice.ensures.ok;
}

pub copied-requires-clause-skip : goal.copied-requires-clause-skip
copied-requires-clause-skip c = skips c.as_slice-pieces.result.now c.piece_at-at.result.0 c.args.place c.piece_at-at.result.1 c.piece_at-at.ensures.within c.piece_at-at.ensures.start c.piece_at-at.ensures.inside

pub returns : goal.returns
returns c = record {
  ok = IfOk-weaker c.copied.result _ _ (λ b copied. rest_of_pieces c.as_slice-pieces.result.now c.as_slice-tail.result.now c.args.self.now b c.piece_at-at.result.0 c.args.place c.piece_at-at.result.1
      (ap (λ x. concat x ++ c.as_slice-tail.result.now) c.as_slice-pieces.ensures.value ∙ ap (λ x. concat c.self.inside.pieces.items ++ x) c.as_slice-tail.ensures.value ∙ c.self.view_is)
      c.piece_at-at.ensures.start c.piece_at-at.ensures.before copied) c.copied.ensures.ok;
}
