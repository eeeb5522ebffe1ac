use Rattle.pcache_meta.proofs.Words.{◌++◌, ◌∙◌, ap, sym}
use Rattle.pcache_meta.proofs.HeaderOrder.{line_there, no_name, no_colon, no_value, no_end}
use Rattle.pcache_meta.proofs.header_text.order.behind_line.Goals as goal

pub returns-in_default-clause-none : goal.returns-in_default-clause-none
returns-in_default-clause-none c = λ rest is.
    no_name c.args.bytes.now c.args.name.now c.args.value.now.bytes rest (λ x e. c.in_default.ensures.none x (e ∙ ap (λ n. n ++ x) (sym c.as_bytes.ensures.value))) is

pub returns-in_default-behind-clause-none : goal.returns-in_default-behind-clause-none
returns-in_default-behind-clause-none c = λ rest is.
    no_colon c.args.bytes.now c.args.name.now c.args.value.now.bytes c.in-Some.first.now rest (c.in-Some.ensures.some ∙ ap (λ n. n ++ c.in-Some.first.now) c.as_bytes.ensures.value)
    c.in_default-behind.ensures.none is

pub returns-in_default-behind-2-clause-none : goal.returns-in_default-behind-2-clause-none
returns-in_default-behind-2-clause-none c = λ rest is.
    no_value c.args.bytes.now c.args.name.now c.args.value.now.bytes c.in-Some.first.now c.in-Some-behind.second.now rest (c.in-Some.ensures.some ∙ ap (λ n. n ++ c.in-Some.first.now) c.as_bytes.ensures.value)
    c.in-Some-behind.ensures.some (λ x e. c.in_default-behind-2.ensures.none x (e ∙ ap (λ n. n ++ x) (sym c.as_bytes-2.ensures.value))) is

pub returns-in_default-behind-3-clause-none : goal.returns-in_default-behind-3-clause-none
returns-in_default-behind-3-clause-none c = λ rest is.
    no_end c.args.bytes.now c.args.name.now c.args.value.now.bytes c.in-Some.first.now c.in-Some-behind.second.now c.in-Some-behind-2.third.now rest
    (c.in-Some.ensures.some ∙ ap (λ n. n ++ c.in-Some.first.now) c.as_bytes.ensures.value) c.in-Some-behind.ensures.some
    (c.in-Some-behind-2.ensures.some ∙ ap (λ n. n ++ c.in-Some-behind-2.third.now) c.as_bytes-2.ensures.value) c.in_default-behind-3.ensures.none is

pub returns-clause-some : goal.returns-clause-some
returns-clause-some c =
    line_there c.args.bytes.now c.args.name.now c.args.value.now.bytes c.in-Some.first.now c.in-Some-behind.second.now c.in-Some-behind-2.third.now c.in-Some-behind-3.rest.now
    (c.in-Some.ensures.some ∙ ap (λ n. n ++ c.in-Some.first.now) c.as_bytes.ensures.value) c.in-Some-behind.ensures.some
    (c.in-Some-behind-2.ensures.some ∙ ap (λ n. n ++ c.in-Some-behind-2.third.now) c.as_bytes-2.ensures.value) c.in-Some-behind-3.ensures.some
