use Rattle.pcache_meta.specs.HeaderText.{fields_text}
use Rattle.pcache_meta.proofs.Words.{◌≡◌, bytes_eq, pairs, shown_fields, shown_lines}
use Rattle.pcache_meta.proofs.header_text.order.are_lines_of.Given as goal

abbrev pub invariant-fields : goal.invariant-fields
invariant-fields l = bytes_eq l.bytes (fields_text (pairs (shown_fields l.headers))) ≡ bytes_eq l.rest (fields_text (shown_lines l.name-iterator))
