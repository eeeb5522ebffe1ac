use Rattle.pcache_meta.proofs.Words.{refl}
use Rattle.pcache_meta.proofs.HeaderMaps.{append_at-some, append_at-none}
use Rattle.pcache_meta.proofs.header_text.reader.append_field.Goals as goal

pub returns-in-Ok-clause-reads : goal.returns-in-Ok-clause-reads
returns-in-Ok-clause-reads c = append_at-some c.args.headers.now c.append.new.self c.args.name c.args.value c.in-Ok.ensures.ok c.len-values.ensures.valid

pub returns-in-Err-MaxSizeReached-clause-reads : goal.returns-in-Err-MaxSizeReached-clause-reads
returns-in-Err-MaxSizeReached-clause-reads c =
    rw c.unreadable.ensures (append_at-none c.args.headers.now c.args.name c.args.value (c.in-Err-MaxSizeReached.ensures.full.0 (rw c.in-Err-MaxSizeReached.field-0-is refl)))
