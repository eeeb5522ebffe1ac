use Rattle.std.proofs.lemmas.Result.{err_from_is_err_and, IfErr-weaker}
use Rattle.pcache_meta.specs.Header.{shown_fields}
use Rattle.pcache_request.proofs.Fields.{lacks_third, lacks_fourth, lacks_fifth}
use Rattle.pcache_request.proofs.cache.revalidate.renew_fields.Goals as goal

pub returns-in_err-renew_field-3-clause-full : goal.returns-in_err-renew_field-3-clause-full
returns-in_err-renew_field-3-clause-full c =
    let p = err_from_is_err_and c.from_residual-in_err-renew_field-3.result c.from_residual-in_err-renew_field-3.ensures.1 in
    rw (p.1, p.2) (λ e. lacks_third (shown_fields c.args.answer.now) (shown_fields c.args.headers.now) _ _ c.in_ok-renew_field.ensures.ok c.in_ok-renew_field-2.ensures.ok (c.in_err-renew_field-3.ensures.full e))

pub returns-in_err-renew_field-4-clause-full : goal.returns-in_err-renew_field-4-clause-full
returns-in_err-renew_field-4-clause-full c =
    let p = err_from_is_err_and c.from_residual-in_err-renew_field-4.result c.from_residual-in_err-renew_field-4.ensures.1 in
    rw (p.1, p.2) (λ e. lacks_fourth (shown_fields c.args.answer.now) (shown_fields c.args.headers.now) _ _ _ c.in_ok-renew_field.ensures.ok c.in_ok-renew_field-2.ensures.ok c.in_ok-renew_field-3.ensures.ok (c.in_err-renew_field-4.ensures.full e))

pub returns-clause-full : goal.returns-clause-full
returns-clause-full c =
    IfErr-weaker c.renew_field-5.result _ _ (λ e h is. lacks_fifth (shown_fields c.args.answer.now) (shown_fields c.args.headers.now) _ _ _ _ c.in_ok-renew_field.ensures.ok c.in_ok-renew_field-2.ensures.ok c.in_ok-renew_field-3.ensures.ok c.in_ok-renew_field-4.ensures.ok (h is)) c.renew_field-5.ensures.full
