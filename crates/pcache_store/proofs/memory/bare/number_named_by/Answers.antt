use Rattle.std.specs.Option.{option_copied}
use Rattle.pcache_store.specs.Tag.{named_by}
use Rattle.pcache_store.proofs.Words.{ap, sym, ◌∙◌, Some, w64, from_be_bytes}
use Rattle.pcache_store.proofs.Tags.{eight_name, other_names}
use Rattle.pcache_store.proofs.memory.bare.number_named_by.Goals as goal

pub returns-in-Ok : goal.returns-in-Ok
returns-in-Ok c =
    ap Some (c.from.ensures ∙ ap (from_be_bytes w64) c.in-Ok.ensures.0) ∙ sym (eight_name c.in-Some.tag.now c.in-Ok.ensures.1)
    ∙ ap (λ o. named_by (option_copied o)) (sym c.in-Some.is)

pub returns-in-Err : goal.returns-in-Err
returns-in-Err c = sym (other_names c.in-Some.tag.now c.in-Err.ensures.1) ∙ ap (λ o. named_by (option_copied o)) (sym c.in-Some.is)
