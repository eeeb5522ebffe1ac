use Rattle.pcache_http.proofs.Words.{sym, ap, ◌∙◌, codes, without_names, names_under}
use Rattle.pcache_http.proofs.Removed.{without_names-append, kept_out-private, kept_out-shared}
use Rattle.pcache_http.proofs.stored_fields.without_kept_out.Goals as goal

pub returns-then-not-is_shared : goal.returns-then-not-is_shared
returns-then-not-is_shared c said are =
    c.without_listed-kept.ensures said are
    ∙ ap (λ ns. without_names ns c.args.kept) (sym (kept_out-private c.args.kind said (sym c.is_shared.ensures ∙ c.if-not-is_shared.true)))

pub returns : goal.returns
returns c said are =
    c.without_listed.ensures said are
    ∙ ap (without_names (names_under (codes "private") said)) (c.without_listed-kept.ensures said are)
    ∙ sym (without_names-append (names_under (codes "no-cache") said) (names_under (codes "private") said) c.args.kept)
    ∙ ap (λ ns. without_names ns c.args.kept) (sym (kept_out-shared c.args.kind said (sym c.is_shared.ensures ∙ c.if-not-is_shared.false)))
