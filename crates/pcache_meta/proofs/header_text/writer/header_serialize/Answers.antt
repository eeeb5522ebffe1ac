use Rattle.pcache_meta.proofs.HeaderSpelled.{written_header, spelled_header}
use Rattle.pcache_meta.proofs.header_text.writer.header_serialize.Goals as goal

pub returns-clause-written : goal.returns-clause-written
returns-clause-written c = written_header c.in_ok-write_header.field-0.items c.args.header.now c.in_ok-write_header.ensures.written

pub returns-clause-spelled : goal.returns-clause-spelled
returns-clause-spelled c =
    spelled_header c.in_ok-write_header.field-0.items c.args.header.now c.in_ok-write_header.ensures.written c.in_ok-write_header.ensures.status c.in_ok-write_header.ensures.valid c.in_ok-write_header.ensures.map
