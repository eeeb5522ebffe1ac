use Rattle.pcache_meta.proofs.Words.{refl, sym, ◌∙◌}
use Rattle.pcache_meta.proofs.HeaderNames.{name_at-none, name_at-some}
use Rattle.pcache_meta.proofs.header_text.reader.name_of.Goals as goal

pub returns-then-is_same : goal.returns-then-is_same
returns-then-is_same c =
    let same = sym c.as_bytes.ensures.value ∙ c.is_same.ensures.0 c.if-is_same.true in
    name_at-some c.args.bytes.now c.in-Ok.name same c.as_bytes.ensures.valid

pub returns-else-is_same : goal.returns-else-is_same
returns-else-is_same c =
    rw c.unreadable.ensures (name_at-none c.args.bytes.now (λ is. let told = c.is_same.ensures.1 (c.as_bytes.ensures.value ∙ c.in-Ok.ensures.ok ∙ is.1) in absurd (cc (told, c.if-is_same.false))))

pub returns-in-Err-Invalid : goal.returns-in-Err-Invalid
returns-in-Err-Invalid c =
    rw c.unreadable-in-Err-Invalid.ensures (name_at-none c.args.bytes.now (λ is. c.in-Err-Invalid.ensures.invalid (rw c.in-Err-Invalid.field-0-is refl) is.0))
