use Rattle.http.specs.StatusCode.{IsStatusCode}
use Rattle.pcache_response.proofs.Words.{◌≡◌, All, map, ap, sym, ◌∙◌, subst, err_from_is_err_and, ResponseHead, status_code, name_and_value, version_of, IsPair, IsShort, fields_after}
use Rattle.pcache_response.proofs.HeadLemmas.{one_head, fields_are_pairs, header_is}
use Rattle.pcache_response.proofs.head.read_header.Goals as goal

pub returns-in_default-clause-invalid : goal.returns-in_default-clause-invalid
returns-in_default-clause-invalid c = λ e header reads.
    let found = rw c.as_slice.ensures.value at c.in_ok-head.ensures.found in
    let same : reads.0 ≡ found.0 = one_head _ _ _ reads.1.reads found.1.reads in
    let code : status_code reads.0 ≡ c.in_ok-head.head.code = ap status_code same ∙ sym found.2 in
    c.in_default.ensures (subst IsStatusCode code reads.2.status)

pub fields_of-requires-clause-pairs : goal.fields_of-requires-clause-pairs
fields_of-requires-clause-pairs c =
    let found = rw c.as_slice.ensures.value at c.in_ok-head.ensures.found in
    rw c.in_ok-bytes.ensures.ok (subst (All IsPair) (sym found.4) (fields_are_pairs found.0.fields found.1.reads.0.fields))

pub returns-in_err-fields_of-clause-invalid : goal.returns-in_err-fields_of-clause-invalid
returns-in_err-fields_of-clause-invalid c =
    let p = err_from_is_err_and c.from_residual-in_err-fields_of.result c.from_residual-in_err-fields_of.ensures.1 in
    rw (p.1, p.2) (λ e header reads.
    let found = rw c.as_slice.ensures.value at c.in_ok-head.ensures.found in
    let same : reads.0 ≡ found.0 = one_head _ _ _ reads.1.reads found.1.reads in
    let long = rw c.in_ok-bytes.ensures.ok at c.in_err-fields_of.ensures.long in
    long e (subst (All IsShort) (ap (λ (h : ResponseHead). map name_and_value h.fields) same ∙ sym found.4) reads.2.names))

pub returns-clause-ok : goal.returns-clause-ok
returns-clause-ok c =
    let found = rw c.as_slice.ensures.value at c.in_ok-head.ensures.found in
    let short = rw c.in_ok-bytes.ensures.ok at c.in_ok-fields_of.ensures.short in
    let fields = rw c.in_ok-bytes.ensures.ok at c.in_ok-fields_of.ensures.ok in (
      found.0,
      found.1,
      record {
        status = subst IsStatusCode found.2 c.in-Ok.ensures.0;
        names = subst (All IsShort) found.4 short;
      },
      header_is c.version_of.result c.in-Ok.status c.in_ok-fields_of.field-0 found.0
          (c.version_of.ensures ∙ ap version_of found.3)
          (c.in-Ok.ensures.1 ∙ found.2)
          (fields ∙ ap fields_after found.4),
    )
