use Rattle.pcache_meta.specs.HeaderText.{field_line}
use Rattle.pcache_meta.proofs.Words.{◌≡◌, ◌++◌, All, flat_map, pairs, IsField, shown_lines}
use Rattle.pcache_meta.proofs.header_text.writer.put_fields.Given as goal

abbrev pub invariant-fields : goal.invariant-fields
invariant-fields l = record {
  written : l.out.items ++ flat_map field_line (shown_lines l.name-iterator)
      ≡ l.fn.out.items ++ flat_map field_line (shown_lines (pairs l.headers));
  valid : All IsField (shown_lines l.name-iterator) → All IsField (shown_lines (pairs l.headers));
}
