use Rattle.pcache_meta.proofs.Words.{◌∙◌, sym, map}
use Rattle.pcache_meta.proofs.HeaderForm.{first_line, no_lines, any_found, any_on, any_none}
use Rattle.pcache_meta.proofs.Refusals.{Fails-none}
use Rattle.pcache_meta.proofs.header_text.form.has_any.Goals as goal

pub returns-then-is_among : goal.returns-then-is_among
returns-then-is_among c =
    sym (c.lines.invariant ∙ any_found c.lines.rest.now c.in-Ok.name.now c.in-Ok.behind.now (map (λ n. n.now) c.args.names.now)
    (first_line c.lines.rest.now c.in-Ok.name.now c.in-Ok.behind.now c.in-Ok.ensures) (sym c.if-is_among.ensures))

pub lines-smaller : goal.lines-smaller
lines-smaller c = (first_line c.lines.rest.now c.in-Ok.name.now c.in-Ok.behind.now c.in-Ok.ensures).shorter

pub lines-preserved : goal.lines-preserved
lines-preserved c =
    c.lines.invariant ∙ any_on c.lines.rest.now c.in-Ok.name.now c.in-Ok.behind.now (map (λ n. n.now) c.args.names.now)
    (first_line c.lines.rest.now c.in-Ok.name.now c.in-Ok.behind.now c.in-Ok.ensures) (sym c.if-is_among.ensures)

pub returns : goal.returns
returns c = sym (c.lines.invariant ∙ any_none c.lines.rest.now (map (λ n. n.now) c.args.names.now) (no_lines c.lines.rest.now (Fails-none c.in_default.field-0 _ c.in_default.ensures)))
