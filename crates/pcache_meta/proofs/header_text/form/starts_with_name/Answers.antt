use Rattle.pcache_meta.proofs.Words.{◌∙◌, ap, sym, starts_with_name}
use Rattle.pcache_meta.proofs.HeaderForm.{first_line, no_lines, first_has}
use Rattle.pcache_meta.proofs.Refusals.{Fails-none}
use Rattle.pcache_meta.proofs.header_text.form.starts_with_name.Goals as goal

pub returns-in-Ok : goal.returns-in-Ok
returns-in-Ok c =
    c.eq.ensures ∙ sym (first_has c.args.bytes.now c.in-Ok.first.now c.in-Ok.field-0-1.now c.args.name.now
    (first_line c.args.bytes.now c.in-Ok.first.now c.in-Ok.field-0-1.now c.in-Ok.ensures))

pub returns-in-Err : goal.returns-in-Err
returns-in-Err c = sym (ap (starts_with_name c.args.name.now) (no_lines c.args.bytes.now (Fails-none c.in-Err.field-0 _ c.in-Err.ensures)))
