use Rattle.std.proofs.Common.{ap, ◌∙◌}
use Rattle.pcache_predict.specs.Lists.{seen}
use Rattle.pcache_predict.specs.Remembered.{after_unmark}
use Rattle.pcache_predict.proofs.Lists.{unmarked-kept, unmarked-seen}
use Rattle.pcache_predict.proofs.marked_keys.MarkedKeys.unmark.Goals as goal

pub invariant_of-self : goal.invariant_of-self
invariant_of-self g c =
    let kept = c.self.invariant in
    unmarked-kept g.row.N c.args.key c.self.inside.lists kept.0 kept.1 kept.2 c.pop.new.self c.pop.ensures.gone

pub returns-clause-out : goal.returns-clause-out
returns-clause-out g c =
    let kept = c.self.invariant in
    ap seen c.pop.ensures.gone
    ∙ unmarked-seen g.row.N c.args.key c.self.inside.lists kept.0 kept.1 kept.2
    ∙ ap (λ s. after_unmark s c.args.key) c.self.view_is
