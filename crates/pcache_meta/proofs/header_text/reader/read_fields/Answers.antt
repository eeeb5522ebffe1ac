use Rattle.pcache_meta.specs.HeaderReading.{fields_at}
use Rattle.pcache_meta.proofs.Words.{ℕ, ◌+◌, List, [], length, sym, ap, ◌∙◌, arith, length-drop, err_from_is_err_and, shown_fields}
use Rattle.pcache_meta.proofs.HeaderLines.{no_line, no_field, no_room, goes_on, done, trailing}
use Rattle.pcache_meta.proofs.HeaderCuts.{line_end_within, behind_line}
use Rattle.pcache_meta.proofs.header_text.reader.read_fields.Goals as goal

pub returns-in_err-line : goal.returns-in_err-line
returns-in_err-line c =
    let p = err_from_is_err_and c.from_residual-in_err-line.result c.from_residual-in_err-line.ensures.1 in
    rw (p.1, p.2) (no_line c.in_err-line.field-0.0 (shown_fields c.lines.headers) c.lines.rest (fields_at [] c.args.text) c.in_err-line.ensures c.lines.invariant)

pub returns-then-is_empty-2 : goal.returns-then-is_empty-2
returns-then-is_empty-2 c =
    done (shown_fields c.lines.headers) c.lines.rest c.in_ok-line.line.now c.in_ok-line.behind.now (fields_at [] c.args.text) c.in_ok-line.ensures
    (sym c.if-is_empty.ensures) (sym c.if-is_empty-2.ensures) c.lines.invariant

pub returns-else-is_empty-2 : goal.returns-else-is_empty-2
returns-else-is_empty-2 c =
    rw c.unreadable.ensures (trailing (shown_fields c.lines.headers) c.lines.rest c.in_ok-line.line.now c.in_ok-line.behind.now (fields_at [] c.args.text) c.in_ok-line.ensures
    (sym c.if-is_empty.ensures) (sym c.if-is_empty-2.ensures) c.lines.invariant)

pub returns-in_err-name : goal.returns-in_err-name
returns-in_err-name c =
    let p = err_from_is_err_and c.from_residual-in_err-name.result c.from_residual-in_err-name.ensures.1 in
    rw (p.1, p.2) (no_field c.in_err-name.field-0.0 (shown_fields c.lines.headers) c.lines.rest c.in_ok-line.line.now c.in_ok-line.behind.now (fields_at [] c.args.text)
    c.in_ok-line.ensures (sym c.if-is_empty.ensures) c.in_err-name.ensures c.lines.invariant)

pub returns-in_err-append_field : goal.returns-in_err-append_field
returns-in_err-append_field c =
    let p = err_from_is_err_and c.from_residual-in_err-append_field.result c.from_residual-in_err-append_field.ensures.1 in
    rw (p.1, p.2) (no_room c.in_err-append_field.field-0.0 (shown_fields c.lines.headers) c.lines.rest c.in_ok-line.line.now c.in_ok-line.behind.now
    (c.in_ok-name.name, c.in_ok-name.value.bytes) (fields_at [] c.args.text) c.in_ok-line.ensures (sym c.if-is_empty.ensures) c.in_ok-name.ensures
    c.in_err-append_field.ensures.reads c.lines.invariant)

pub advance-requires : goal.advance-requires
advance-requires c = line_end_within c.lines.rest c.in_ok-line.line.now c.in_ok-line.behind.now c.in_ok-line.ensures

pub lines-smaller : goal.lines-smaller
lines-smaller c =
    let bound = line_end_within c.lines.rest c.in_ok-line.line.now c.in_ok-line.behind.now c.in_ok-line.ensures in
    let size = ap (λ (x : List ℕ). length x) c.advance.ensures in
    omega (arith, bound, size, length-drop (length c.in_ok-line.line.now + 2) c.lines.rest)

pub lines-preserved : goal.lines-preserved
lines-preserved c =
    let rest = c.advance.ensures ∙ behind_line c.lines.rest c.in_ok-line.line.now c.in_ok-line.behind.now c.in_ok-line.ensures in
    ap (λ (x : List ℕ). fields_at (shown_fields c.append_field.new.headers) x) rest
    ∙ goes_on (shown_fields c.lines.headers) c.lines.rest c.in_ok-line.line.now c.in_ok-line.behind.now (c.in_ok-name.name, c.in_ok-name.value.bytes)
    (shown_fields c.append_field.new.headers) (fields_at [] c.args.text) c.in_ok-line.ensures (sym c.if-is_empty.ensures) c.in_ok-name.ensures
    c.in_ok-append_field.ensures.reads c.lines.invariant
