use Rattle.pcache_meta.proofs.Words.{◌∙◌, shown}
use Rattle.pcache_meta.proofs.HeaderResults.{kept_same, kept_kind}
use Rattle.pcache_meta.proofs.header_text.reader.header_kept.Goals as goal

pub unreachable-requires : goal.unreachable-requires
unreachable-requires c =
    let is = kept_kind c.in-Err.refused c.args.text c.in-Err.ensures c.requires in
    let differs = rw (c.etype.ensures ∙ is) at c.if-eq.ensures in
    absurd (cc differs)

pub returns-in-Ok : goal.returns-in-Ok
returns-in-Ok c = record { ok = λ h spelled. kept_same c.args.text (shown c.in-Ok.head) h c.in-Ok.ensures spelled }
