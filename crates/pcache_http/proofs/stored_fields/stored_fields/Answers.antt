use Rattle.pcache_http.specs.StoredFields.{names_of_the_way}
use Rattle.pcache_http.proofs.Words.{sym, ap, ◌∙◌, ◌++◌, without_names, names_in_connection, names_kept_out}
use Rattle.pcache_http.proofs.Removed.{without_names-append}
use Rattle.pcache_http.proofs.stored_fields.stored_fields.Goals as goal

pub returns : goal.returns
returns c = record {
  ok = λ said are.
      let way = names_of_the_way in
      let connection = names_in_connection c.args.headers.now in
      let kept_out = names_kept_out c.args.kind said in
      c.without_kept_out.ensures said are
      ∙ ap (without_names kept_out) (c.remove_connection.ensures ∙ ap (without_names connection) (c.remove_of_the_way.ensures ∙ ap (without_names way) c.in_ok-kept.ensures.ok))
      ∙ ap (without_names kept_out) (sym (without_names-append way connection c.args.headers.now))
      ∙ sym (without_names-append (way ++ connection) kept_out c.args.headers.now);
}
