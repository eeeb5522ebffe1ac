use Rattle.pcache_put.specs.Policies.{with_short_head}
use Rattle.pcache_put.proofs.Words.{ap, sym, ◌∙◌}
use Rattle.pcache_put.proofs.laws.one_decision_within_a_limit.Goals as goal

pub returns : goal.returns
returns g c = λ unique header now a b p q. p.2 ∙ ap (with_short_head c.args.policy.now.max_head_size_bytes) (unique header now p.0 q.0 p.1 q.1) ∙ sym q.2
