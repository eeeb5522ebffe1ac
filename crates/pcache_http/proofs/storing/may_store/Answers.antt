use Rattle.pcache_http.proofs.Words.{sym, ◌∙◌}
use Rattle.pcache_http.proofs.AsGet.{as_asked}
use Rattle.pcache_http.proofs.storing.may_store.Goals as goal

pub returns : goal.returns
returns c =
    as_asked c.args.kind c.args.request.now c.args.asked.now c.args.response.now c.args.said.now c.may_store_as_get.result
    (sym c.is_method_understood.ensures ∙ c.if-not-is_method_understood.false) c.may_store_as_get.ensures
