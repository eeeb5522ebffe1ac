use Rattle.pcache_world.proofs.Words.{rules, ◌≡◌, ◌≤◌, ap, sym, subst, ◌∙◌, IfSome, slots, Log, events_in}
use Rattle.pcache_store.specs.Totals as totals
use Rattle.pcache_world.proofs.StateTotals.{slots-is}
use Rattle.pcache_world.proofs.world.world_type.World.slots.Goals as goal

pub returns-clause-value : goal.returns-clause-value
returns-clause-value g c =
    let counted : c.slots.result ≡ totals.slots c.self.inside.parts.store = search rules in
    counted ∙ sym (slots-is _ _ _ c.self.invariant.0.state) ∙ ap (λ l. slots (events_in l)) c.self.view_is

pub returns-clause-within : goal.returns-clause-within
returns-clause-within g c =
    let counted : c.slots.result ≡ totals.slots c.self.inside.parts.store = search rules in
    subst (λ (l : Log). IfSome l.limits.watermark (λ most. c.slots.result ≤ most)) c.self.view_is (subst (λ n. IfSome c.self.inside.parts.limits.watermark (λ most. n ≤ most)) (slots-is _ _ _ c.self.invariant.0.state ∙ sym counted) c.self.invariant.0.bounded.count)
