use Rattle.pcache_meta.proofs.Words.{◌∙◌, ap, sym, bytes_eq}
use Rattle.pcache_meta.proofs.HeaderForm.{first_line, no_lines, fields_on, fields_end}
use Rattle.pcache_meta.proofs.Refusals.{Fails-none}
use Rattle.pcache_meta.proofs.header_text.form.are_fields.Goals as goal

pub lines-smaller : goal.lines-smaller
lines-smaller c = (first_line c.lines.rest.now c.in-Ok.field-0-0.now c.in-Ok.behind.now c.in-Ok.ensures).shorter

pub lines-preserved : goal.lines-preserved
lines-preserved c =
    c.lines.invariant ∙ fields_on c.lines.rest.now c.in-Ok.field-0-0.now c.in-Ok.behind.now (first_line c.lines.rest.now c.in-Ok.field-0-0.now c.in-Ok.behind.now c.in-Ok.ensures)

pub returns : goal.returns
returns c =
    c.eq.ensures ∙ ap (bytes_eq c.lines.rest.now) c.as_slice.ensures
    ∙ sym (c.lines.invariant ∙ fields_end c.lines.rest.now (no_lines c.lines.rest.now (Fails-none c.in_default.field-0 _ c.in_default.ensures)))
