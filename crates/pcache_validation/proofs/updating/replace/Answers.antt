use Rattle.pcache_validation.proofs.Words.{get_all}
use Rattle.pcache_validation.proofs.Updates.{replaced_same, replaced_others}
use Rattle.pcache_validation.proofs.updating.replace.Goals as goal

pub returns-clause-same : goal.returns-clause-same
returns-clause-same c =
    replaced_same c.append_lines.result c.remove-removed.new.self c.append_lines.new.updated c.args.name.now (get_all c.args.brought.now c.args.name.now)
    c.remove-removed.ensures.gone c.append_lines.ensures.ok

pub returns-clause-others : goal.returns-clause-others
returns-clause-others c =
    replaced_others c.append_lines.result c.args.updated.now c.remove-removed.new.self c.append_lines.new.updated c.args.name.now
    (get_all c.args.brought.now c.args.name.now) c.keys_len-names.ensures.valid.unique c.remove-removed.ensures.after c.append_lines.ensures.ok
