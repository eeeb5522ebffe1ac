use Rattle.std.specs.Vec.{vec_capacity}
use Rattle.pcache_lock.proofs.Words.{◌≡◌, ◌<◌, ◌+◌, ◌∙◌, ◌++◌, ◌∷◌, [], ap, arith, length}
use Rattle.pcache_lock.proofs.Published.{ends_there, added}
use Rattle.pcache_lock.proofs.lock.publications.Publications.add.Goals as goal

pub mark-requires : goal.mark-requires
mark-requires c =
    let same : length c.reserve.new.self.items ≡ length c.self.inside.kept.items = ap length c.in_ok-reserve.ensures.items in
    let len : c.len.result ≡ length c.self.inside.kept.items = omega (arith, c.reserve.new.self.ok) in
    ends_there c.self.inside.index c.self.inside.kept.items c.args.tokens.now c.len.result len c.len.type_inv c.self.invariant.1

pub invariant_of-self-2 : goal.invariant_of-self-2
invariant_of-self-2 c =
    let same : length c.reserve.new.self.items ≡ length c.self.inside.kept.items = ap length c.in_ok-reserve.ensures.items in
    let len : c.len.result ≡ length c.self.inside.kept.items = omega (arith, c.reserve.new.self.ok) in
    let room : length c.self.inside.kept.items + 1 < vec_capacity c.push_reserved.new.self = omega (arith, c.reserve.new.self.ok, c.in_ok-reserve.ensures.ok) in
    added c.self.inside.index c.mark.new.index c.self.inside.kept.items c.push_reserved.new.self.items c.args.tokens.now c.in_ok-from_slice.field-0.items c.len.result _
    len c.len.type_inv room c.self.invariant.1 c.in_ok-mark.ensures.ok c.in_ok-from_slice.ensures.items
    (c.push_reserved.ensures.items ∙ ap (λ ps. ps ++ c.in_ok-from_slice.field-0.items ∷ []) c.in_ok-reserve.ensures.items)
