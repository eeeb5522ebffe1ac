use Rattle.pcache_world.proofs.Words.{rules, ◌≡◌, ◌∙◌, ap, reverse, len, request_of, Log}
use Rattle.pcache_world.proofs.Records.{records-none}
use Rattle.pcache_world.proofs.world.world_type.World.write_records.Goals as goal

pub returns : goal.returns
returns g c =
    let counted : c.write_records.result ≡ len c.self.inside.parts.store.writes = search rules in
    λ none. counted ∙ records-none _ _ _ _ _ _ _ c.self.invariant.0 (λ r. ap (λ (l : Log). request_of r (reverse l.history)) c.self.view_is ∙ none r)
