use Rattle.pcache_store.proofs.Words.{◌++◌, ◌∙◌, ap, sym, append-nil}
use Rattle.pcache_store.proofs.Pieces.{put_next, put_all}
use Rattle.pcache_store.proofs.memory.draft_text.append.Goals as goal

pub loop-piece-init : goal.loop-piece-init
loop-piece-init c = sym (append-nil c.args.text.now.items)

pub loop-piece-preserved : goal.loop-piece-preserved
loop-piece-preserved c =
    put_next c.args.text.now.items c.args.pieces.now c.loop-piece.piece-index c.piece-item.result c.loop-piece.text.items c.extend_from_slice.new.self.items c.loop-piece-test.true c.loop-piece.invariant
    (c.in_ok-extend_from_slice.ensures.items ∙ ap (λ x. c.loop-piece.text.items ++ x) (c.as_slice.ensures ∙ c.piece-item.is))

pub returns : goal.returns
returns c = record { ok = c.loop-piece.invariant ∙ put_all c.args.text.now.items c.args.pieces.now c.loop-piece.piece-index c.loop-piece-test.false }
