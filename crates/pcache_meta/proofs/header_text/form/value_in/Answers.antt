use Rattle.pcache_meta.proofs.Words.{refl}
use Rattle.pcache_meta.proofs.HeaderNames.{value_at-some, value_at-none}
use Rattle.pcache_meta.proofs.header_text.form.value_in.Goals as goal

pub returns-then-is_value : goal.returns-then-is_value
returns-then-is_value c = value_at-some c.args.bytes.now c.args.bytes.now refl (c.if-is_value.ensures.0 refl)

pub returns-else-is_value : goal.returns-else-is_value
returns-else-is_value c = rw c.unreadable.ensures (value_at-none c.args.bytes.now (λ is. let no = c.if-is_value.ensures.1 is in cc))
