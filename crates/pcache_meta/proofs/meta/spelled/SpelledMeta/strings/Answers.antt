use Rattle.pcache_meta.proofs.MetaKeeps.{kept_spelled}
use Rattle.pcache_meta.proofs.meta.spelled.SpelledMeta.strings.Goals as goal

pub returns-clause-spelled : goal.returns-clause-spelled
returns-clause-spelled c =
    rw (c.parts_of.ensures.front, c.parts_of.ensures.rest) (kept_spelled c.args.self.now c.self.inside.split c.self.inside.text c.self.view_is c.self.invariant.0)
