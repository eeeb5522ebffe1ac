use Rattle.pcache_shared_cache.proofs.Words.{ℕ, List, Option, IfSome, slice_get, subst, sym, ◌∙◌, Parts, StartsWith}
use Rattle.pcache_shared_cache.proofs.shared.SharedCache.request.Goals as goal

pub returns-clause-seen : goal.returns-clause-seen
returns-clause-seen g c =
    let seen = c.new.result.seen in
    let here = c.new.ensures.place ∙ c.beginning-sight.ensures.place ∙ c.part.ensures.place in
    let starts = subst (λ (l : List Parts). StartsWith l c.part.result.now.first) (sym c.new.ensures.seen) c.beginning-sight.ensures.starts in
    subst (λ (n : ℕ). IfSome (slice_get c.args.self.now n) (StartsWith seen)) (sym here) (subst (λ (o : Option Parts). IfSome o (StartsWith seen)) (sym c.part.ensures.begun) starts)
