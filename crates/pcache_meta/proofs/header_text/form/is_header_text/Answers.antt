use Rattle.pcache_meta.proofs.Words.{arith}
use Rattle.pcache_meta.proofs.HeaderForm.{no_text, no_status, told_by_lines}
use Rattle.pcache_meta.proofs.Refusals.{Fails-none}
use Rattle.pcache_meta.proofs.header_text.form.is_header_text.Goals as goal

pub returns-in_default : goal.returns-in_default
returns-in_default c =
    (λ true_is. absurd (cc true_is), λ told. absurd (no_text c.args.bytes.now (Fails-none c.in_default.field-0 _ c.in_default.ensures) told))

pub returns-in_default-status_line : goal.returns-in_default-status_line
returns-in_default-status_line c =
    (λ true_is. absurd (cc true_is), λ told. absurd (no_status c.args.bytes.now c.in-Ok.line.now c.in-Ok.rest.now c.in-Ok.ensures (Fails-none c.in_default-status_line.field-0 _ c.in_default-status_line.ensures) told))

pub returns : goal.returns
returns c =
    told_by_lines c.args.bytes.now c.in-Ok.line.now c.in-Ok.rest.now c.in-Ok-status_line._first c.are_lines.result (omega arith) c.in-Ok.ensures c.in-Ok-status_line.ensures c.are_lines.ensures
