use Rattle.pcache_meta.proofs.Words.{◌∙◌, shown}
use Rattle.pcache_meta.proofs.HeaderResults.{read_found, read_same, refused_for_form}
use Rattle.pcache_meta.proofs.header_text.reader.header_deserialize.Goals as goal
use Rattle.pcache_meta.proofs.header_text.reader.header_deserialize.Goals.{else-eq-via-then-eq+else-is_header_text, else-eq-via-else-eq}

pub returns-in-Ok-clause-found : goal.returns-in-Ok-clause-found
returns-in-Ok-clause-found c = read_found c.args.bytes.now (shown c.in-Ok.header) c.in-Ok.ensures

pub returns-in-Ok-clause-same : goal.returns-in-Ok-clause-same
returns-in-Ok-clause-same c = λ h spelled. read_same c.args.bytes.now (shown c.in-Ok.header) h c.in-Ok.ensures spelled

pub returns-else-eq-clause-refused : goal.returns-else-eq-clause-refused
returns-else-eq-clause-refused c = λ refused h spelled.
    refused_for_form c.in-Err.refused c.args.bytes.now h c.in-Err.ensures (elim c.else-eq.branch [
      | else-eq-via-then-eq+else-is_header_text w ↦ λ is told. absurd (cc (w.if-is_header_text.ensures.1 told))
      | else-eq-via-else-eq w ↦ λ is told. let differs = rw (c.etype.ensures ∙ is) at w.if-eq.ensures in absurd (cc differs)
    ]) spelled
