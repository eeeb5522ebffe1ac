use Rattle.pcache_c.specs.Objects.{as_meta}
use Rattle.pcache_c.proofs.Words.{◌≡◌, subst, sym, OnKind, SavesMeta}
use Rattle.pcache_c.proofs.metas.write.Goals as goal

pub returns-in-Meta : goal.returns-in-Meta
returns-in-Meta c =
    let w = c.write_meta in
    subst (λ a. OnKind (as_meta a) w.result ((w.new.internal ≡ c.args.internal.now) × (w.new.header ≡ c.args.header.now))
    (λ m. SavesMeta m c.args.internal.now w.new.internal c.args.header.now w.new.header w.new.internal_len w.new.header_len w.result)) (sym c.in-Meta.is) w.ensures
