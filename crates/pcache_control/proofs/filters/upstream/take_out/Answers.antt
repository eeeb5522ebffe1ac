use Rattle.http_header.proofs.HeaderMapLemmas.{get_all-remove_other}
use Rattle.pcache_control.proofs.Words.{ap, ◌∙◌, get_all}
use Rattle.pcache_control.proofs.filters.upstream.take_out.Goals as goal

pub returns-clause-others : goal.returns-clause-others
returns-clause-others c other unlike =
    ap (λ m. get_all m other) c.remove-removed.ensures.after ∙ get_all-remove_other c.args.headers.now c.args.name.now other c.keys_len-names.ensures.valid.unique unlike
