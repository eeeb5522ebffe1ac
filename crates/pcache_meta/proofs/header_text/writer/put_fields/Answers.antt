use Rattle.pcache_meta.specs.HeaderText.{field_line}
use Rattle.pcache_meta.proofs.Words.{flat_map, pairs, ◌++◌, shown_lines}
use Rattle.pcache_meta.proofs.HeaderSpelled.{line_more, valid_more}
use Rattle.pcache_meta.proofs.header_text.writer.put_fields.Goals as goal

pub fields-preserved : goal.fields-preserved
fields-preserved c = record {
  written = line_more c.fields.out.items c.put_field.new.out.items (c.args.out.now.items ++ flat_map field_line (shown_lines (pairs c.args.headers.now))) c.fields.name-iterator
      c.next.new.self c.in-Some.name.now c.in-Some.value.now c.in-Some.ensures.steps c.in_ok-put_field.ensures.written c.fields.invariant.written;
  valid = λ rest. c.fields.invariant.valid (valid_more c.fields.name-iterator c.next.new.self c.in-Some.name.now c.in-Some.value.now c.in-Some.ensures.steps c.in_ok-put_field.ensures.valid rest);
}
