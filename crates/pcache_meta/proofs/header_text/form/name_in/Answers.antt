use Rattle.pcache_meta.proofs.Words.{refl}
use Rattle.pcache_meta.proofs.HeaderNames.{name_at-some, name_at-none}
use Rattle.pcache_meta.proofs.header_text.form.name_in.Goals as goal

pub returns-then-is_name : goal.returns-then-is_name
returns-then-is_name c = name_at-some c.args.bytes.now c.args.bytes.now refl (c.if-is_name.ensures.0 refl)

pub returns-else-is_name : goal.returns-else-is_name
returns-else-is_name c = rw c.unreadable.ensures (name_at-none c.args.bytes.now (λ is. let no = c.if-is_name.ensures.1 is in cc))
