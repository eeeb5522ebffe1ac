use Rattle.pcache_store.proofs.Words.{◌≡◌, ◌+◌, ◌++◌, ◌∙◌, ap, arith, length, length-append, concat}
use Rattle.pcache_store.proofs.Pieces.{pushed}
use Rattle.pcache_store.proofs.memory.draft_text.DraftText.extend.Goals as goal

pub invariant_of-self-2 : goal.invariant_of-self-2
invariant_of-self-2 c =
    let more = pushed c.self-2.inside.pieces.items c.settle.new.pieces.items c.push.new.self.items c.self-2.inside.tail.items c.settle.new.tail.items c.args.bytes
    c.in_ok-settle.ensures.same c.in_ok-settle.ensures.ok c.in_ok-push.ensures.items ∙ ap (λ x. x ++ c.args.bytes) (c.self-2.view_is ∙ c.gathers.ensures.same) in
    let both : length (c.args.self.now ++ c.args.bytes) ≡ length c.args.self.now + length c.args.bytes = length-append c.args.self.now c.args.bytes in
    let len : length (concat c.push.new.self.items ++ c.settle.new.tail.items) ≡ length (c.args.self.now ++ c.args.bytes) = ap length more in
    let before : length (concat c.self.inside.pieces.items ++ c.self.inside.tail.items) ≡ length c.args.self.now = ap length c.self.view_is in
    omega (arith, c.in-Some.ensures)

pub returns-clause-ok : goal.returns-clause-ok
returns-clause-ok c =
    pushed c.self-2.inside.pieces.items c.settle.new.pieces.items c.push.new.self.items c.self-2.inside.tail.items c.settle.new.tail.items c.args.bytes
    c.in_ok-settle.ensures.same c.in_ok-settle.ensures.ok c.in_ok-push.ensures.items
    ∙ ap (λ x. x ++ c.args.bytes) (c.self-2.view_is ∙ c.gathers.ensures.same)
