use Rattle.pcache_shared_world.proofs.Words.{◌<◌, ◌∙◌, arith}
use Rattle.pcache_shared_world.proofs.Calls.{some_pushed}
use Rattle.pcache_shared_world.proofs.share.Share.made.Goals as goal

pub overflow_sub-at : goal.overflow_sub-at
overflow_sub-at g c =
    let made = c.in_ok-make.ensures.ok in
    some_pushed c.args.self.now c.self.inside.receipts.items _ c.len-at.result (c.self.view_is ∙ made.2) (c.len-at.ensures ∙ c.self.inside.receipts.ok.0)

pub index-requires : goal.index-requires
index-requires g c =
    let made = c.in_ok-make.ensures.ok in
    let some : 0 < c.len-at.result = some_pushed c.args.self.now c.self.inside.receipts.items _ c.len-at.result (c.self.view_is ∙ made.2) (c.len-at.ensures ∙ c.self.inside.receipts.ok.0) in
    omega (arith, some, c.len-at.ensures)
