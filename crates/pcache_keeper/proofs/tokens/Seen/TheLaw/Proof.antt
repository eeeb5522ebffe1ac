-- A `&` to a `Seen` holds what it knows, which can be had twice. Assumes `Logic`.
use base.Logic.{snd∗}
use base.Before.{before}
use denote.Param.Laws.{Laws}
use denote.Param.Shared.{copy_shared}
use denote.Struct.Laws.{field_copy}
use denote.Struct.Lending.{of_Lends}
use Rattle.logbook.proofs.Fields.{lends_twice}
use Rattle.pcache_keeper.proofs.Words.{sem, RattleType, had}
use Rattle.std.specs.contracts.marker.PhantomData as marker
use Rattle.pcache_keeper.specs.contracts.tokens.Seen as C
use Rattle.pcache_keeper.proofs.Twice.{had_twice}
use Rattle.pcache_keeper.proofs.tokens.Seen.TheLaw.Statement.{statement}

pub shares : (E : RattleType) (L : Laws E) → statement E L
shares E L =
    of_Lends (C.struct E) (C.the_codes E.Denot E.coded (marker.the_row E).coded) (C.the_heap E) (C.the_lent E)
    (λ d p. record { contraction = λ M 𝓤 𝓛 κ. had_twice 𝓛 E.coded.code d.name d.log; mono = λ M 𝓤 𝓛 κ' κ. snd∗ 𝓤 (sem 𝓛 (before κ' κ)) (sem 𝓛 (had E.coded.code d.name d.log)) })
    (copy_shared (marker.the_field E) (field_copy (marker.the_type E) tt), tt)
    (λ M 𝓤 𝓛 d p. lends_twice 𝓛 (had E.coded.code d.name d.log) (had_twice 𝓛 E.coded.code d.name d.log) (C.the_row E).lives)
