use Rattle.pcache_meta.proofs.Words.{ap, FieldValue}
use Rattle.pcache_meta.proofs.HeaderNames.{value_at-some, value_at-none}
use Rattle.pcache_meta.proofs.header_text.reader.value_of.Goals as goal

pub returns-in-Ok : goal.returns-in-Ok
returns-in-Ok c = value_at-some c.args.bytes c.in-Ok.value.bytes (ap (λ (v : FieldValue). v.bytes) c.in-Ok.ensures.ok) c.as_bytes-bytes.ensures.valid

pub returns-in-Err : goal.returns-in-Err
returns-in-Err c = rw c.unreadable.ensures (value_at-none c.args.bytes (λ is. let no = c.in-Err.ensures.succeeds.1 is in cc))
