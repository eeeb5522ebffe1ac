use Rattle.pcache_policies.proofs.Words.{◌≡◌, ◌≤◌, ◌∙◌, ap, sym, subst, arith, ◌+◌, ◌-◌, Some, reseen, IsKept, seen_of}
use Rattle.pcache_policies.proofs.Queues.{kept-set, reseen-none, kept_bound}
use Rattle.pcache_policies.proofs.queue.Queue.set.Goals as goal

pub returns-in_default-clause-value : goal.returns-in_default-clause-value
returns-in_default-clause-value g c =
    let missing = c.in_default.ensures.missing in
    missing.1 ∙ sym (reseen-none c.args.item.now c.args.seen c.self.inside.cache.entries missing.0) ∙ ap (reseen c.args.item.now c.args.seen) c.self.view_is

pub overflow_sub-self : goal.overflow_sub-self
overflow_sub-self g c =
    let (v, found, is, new) = c.in-Some.ensures.there in
    subst (λ n. n ≤ c.self.inside.weight) (sym is) (kept-set c.self.inside.cache c.write_seen.new.cache c.self.inside.weight c.args.item.now v c.args.seen c.self.invariant found new (omega arith)).less

pub overflow_add-self : goal.overflow_add-self
overflow_add-self g c =
    let bound = kept_bound c.self.inside.cache c.self.inside.weight c.self.invariant in
    let few = c.self.invariant.few in
    omega (arith, bound, few)

pub invariant_of-self-2 : goal.invariant_of-self-2
invariant_of-self-2 g c =
    let (v, found, is, new) = c.in-Some.ensures.there in
    subst (λ n. IsKept c.write_seen.new.cache (c.self.inside.weight - n + c.args.seen.weight)) (sym is) (kept-set c.self.inside.cache c.write_seen.new.cache c.self.inside.weight c.args.item.now v c.args.seen c.self.invariant found new (omega arith)).kept

pub returns-clause-value : goal.returns-clause-value
returns-clause-value g c =
    let (v, found, is, new) = c.in-Some.ensures.there in
    (kept-set c.self.inside.cache c.write_seen.new.cache c.self.inside.weight c.args.item.now v c.args.seen c.self.invariant found new (omega arith)).is ∙ ap (reseen c.args.item.now c.args.seen) c.self.view_is
