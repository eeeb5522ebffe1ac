use Rattle.http.specs.StatusCode.{IsStatusCode}
use Rattle.httparse.specs.Grammar.{ResponseHead, status_code}
use Rattle.httparse.specs.Spans.{name_and_value}
use Rattle.httparse.proofs.GrammarLemmas.{ReadsResponse-append, response_unique}
use Rattle.pcache_response.proofs.HeadLemmas.{fields_are_pairs}
use Rattle.pcache_c.proofs.Words.{rules, ◌≡◌, ◌++◌, inr, All, map, refl, ap, sym, ◌∙◌, subst, IsPair, IsShort}
use Rattle.pcache_c.proofs.received.read.Goals as goal

pub returns-in_default-clause-refused : goal.returns-in_default-clause-refused
returns-in_default-clause-refused c =
    let found = c.in_ok-spans.ensures.found in
    inr (inr (
      refl,
      λ more n kept is.
          let same : is.head ≡ found.0 = (response_unique (c.args.bytes.now ++ more) is.head found.0 _ _ is.reads (ReadsResponse-append c.args.bytes.now found.0 _ more found.1.reads)).0 in
          let code : status_code is.head ≡ c.in_ok-spans.spans.code = ap status_code same ∙ sym found.1.code in
          c.in_default.ensures (subst IsStatusCode code is.accepted.status),
    ))

pub fields_in-requires-clause-pairs : goal.fields_in-requires-clause-pairs
fields_in-requires-clause-pairs c =
    let found = c.in_ok-spans.ensures.found in
    subst (All IsPair) (sym found.1.fields) (fields_are_pairs found.0.fields found.1.reads.0.fields)

pub returns-in-Err-eq4-clause-refused : goal.returns-in-Err-eq4-clause-refused
returns-in-Err-eq4-clause-refused c =
    let found = c.in_ok-spans.ensures.found in
    inr (inr (
      refl,
      λ more n kept is.
          let same : is.head ≡ found.0 = (response_unique (c.args.bytes.now ++ more) is.head found.0 _ _ is.reads (ReadsResponse-append c.args.bytes.now found.0 _ more found.1.reads)).0 in
          c.in-Err-eq4.ensures.long (search rules) (subst (All IsShort) (ap (λ (h : ResponseHead). map name_and_value h.fields) same ∙ sym found.1.fields) is.accepted.names),
    ))
