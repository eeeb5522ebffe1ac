use Rattle.pcache_meta.specs.HeaderText.{fields_text}
use Rattle.pcache_meta.proofs.Words.{◌∙◌, ap, sym, bytes_eq, shown_lines}
use Rattle.pcache_meta.proofs.HeaderSpelled.{pairs-shown}
use Rattle.pcache_meta.proofs.HeaderOrder.{line_seen, line_unlike, lines_ended}
use Rattle.pcache_meta.proofs.header_text.order.are_lines_of.Goals as goal

pub fields-init : goal.fields-init
fields-init c =
    ap (λ fs. bytes_eq c.args.bytes.now (fields_text fs)) (pairs-shown c.args.headers.now ∙ ap (λ items. shown_lines items) (sym c.iter-name-items.ensures.value ∙ sym c.into_iter-name-iterator.ensures.into_iter_gives))

pub returns-in_default : goal.returns-in_default
returns-in_default c =
    sym (line_unlike c.fields.rest.now c.fields.name-iterator c.next.new.self c.in-Some.name.now c.in-Some.value.now _ c.in-Some.ensures.steps c.in_default.ensures.none c.fields.invariant)

pub fields-preserved : goal.fields-preserved
fields-preserved c =
    line_seen c.fields.rest.now c.in-Some-behind_line.behind.now c.fields.name-iterator c.next.new.self c.in-Some.name.now c.in-Some.value.now _ c.in-Some.ensures.steps c.in-Some-behind_line.ensures.some c.fields.invariant

pub returns : goal.returns
returns c =
    c.eq.ensures ∙ ap (bytes_eq c.fields.rest.now) c.as_slice.ensures
    ∙ sym (lines_ended c.fields.rest.now _ (c.fields.invariant ∙ ap (λ items. bytes_eq c.fields.rest.now (fields_text (shown_lines items))) c.in-None.ensures.steps.0))
