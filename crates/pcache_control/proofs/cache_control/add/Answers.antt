use Rattle.pcache_control.proofs.Words.{ap, ◌∙◌, entries_of}
use Rattle.pcache_control.proofs.Keys.{entries_of-insert, AreNamed-insert}
use Rattle.pcache_control.proofs.cache_control.add.Goals as goal

pub returns-clause-added : goal.returns-clause-added
returns-clause-added c named =
    ap entries_of c.in_ok-insert.ensures.entries ∙ entries_of-insert c.args.directives.now.entries c.args.key c.args.value c.requires named

pub returns-clause-named : goal.returns-clause-named
returns-clause-named c named =
    rw c.in_ok-insert.ensures.entries (AreNamed-insert c.args.directives.now.entries c.args.key c.args.value c.requires named)
