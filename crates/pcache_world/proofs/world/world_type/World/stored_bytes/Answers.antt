use Rattle.pcache_world.proofs.Words.{rules, ◌≡◌, ◌≤◌, ap, sym, subst, ◌∙◌, stored, Log, events_in}
use Rattle.pcache_store.specs.Totals as totals
use Rattle.pcache_world.proofs.StateTotals.{stored-is}
use Rattle.pcache_world.proofs.world.world_type.World.stored_bytes.Goals as goal

pub returns-clause-value : goal.returns-clause-value
returns-clause-value g c =
    let counted : c.stored_bytes.result ≡ totals.stored_bytes c.self.inside.parts.store = search rules in
    counted ∙ sym (stored-is _ _ _ c.self.invariant.0.state) ∙ ap (λ l. stored (events_in l)) c.self.view_is

pub returns-clause-within : goal.returns-clause-within
returns-clause-within g c =
    let counted : c.stored_bytes.result ≡ totals.stored_bytes c.self.inside.parts.store = search rules in
    subst (λ (l : Log). c.stored_bytes.result ≤ l.limits.weight) c.self.view_is (subst (λ n. n ≤ c.self.inside.parts.limits.weight) (stored-is _ _ _ c.self.invariant.0.state ∙ sym counted) c.self.invariant.0.bounded.bytes)
