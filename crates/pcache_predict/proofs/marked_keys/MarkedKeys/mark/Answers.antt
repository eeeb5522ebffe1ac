use Rattle.std.proofs.Common.{ap, ◌∙◌}
use Rattle.pcache_predict.specs.Lists.{seen}
use Rattle.pcache_predict.specs.Remembered.{after_mark}
use Rattle.pcache_predict.proofs.Lists.{marked-kept, marked-seen}
use Rattle.pcache_predict.proofs.marked_keys.MarkedKeys.mark.Goals as goal

pub invariant_of-self : goal.invariant_of-self
invariant_of-self g c =
    let kept = c.self.invariant in
    marked-kept g.row.N c.args.key c.self.inside.lists kept.0 kept.1 kept.2 c.args.reason c.put.new.self c.put.result c.put.ensures.ok c.put.ensures.err

pub invariant_of-self-2 : goal.invariant_of-self-2
invariant_of-self-2 g c =
    let kept = c.self.invariant in
    marked-kept g.row.N c.args.key c.self.inside.lists kept.0 kept.1 kept.2 c.args.reason c.put.new.self c.put.result c.put.ensures.ok c.put.ensures.err

pub returns-clause-ok : goal.returns-clause-ok
returns-clause-ok g c =
    let kept = c.self.invariant in
    ap seen c.in_ok-old.ensures.ok
    ∙ marked-seen g.row.N c.args.key c.self.inside.lists kept.0 kept.1 kept.2 c.args.reason
    ∙ ap (λ s. after_mark s c.args.key c.args.reason) c.self.view_is
