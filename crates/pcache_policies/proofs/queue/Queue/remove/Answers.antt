use Rattle.pcache_policies.proofs.Words.{◌∙◌, ap, arith, subst, ◌-◌, ◌≡◌, rest_of, IsKept}
use Rattle.pcache_policies.proofs.Queues.{kept-removed}
use Rattle.pcache_policies.proofs.queue.Queue.remove.Goals as goal

pub invariant_of-self : goal.invariant_of-self
invariant_of-self g c = subst (λ n. IsKept c.pop.new.self n) (let e : c.self.inside.weight - 0 ≡ c.self.inside.weight = omega arith in e) (kept-removed c.self.inside.cache c.pop.new.self c.self.inside.weight c.args.item.now _ c.self.invariant c.in_default.ensures.value c.in_default.ensures.entries).kept

pub returns-in_default-clause-value : goal.returns-in_default-clause-value
returns-in_default-clause-value g c = (kept-removed c.self.inside.cache c.pop.new.self c.self.inside.weight c.args.item.now _ c.self.invariant c.in_default.ensures.value c.in_default.ensures.entries).is ∙ ap (rest_of c.args.item.now) c.self.view_is

pub overflow_sub-self : goal.overflow_sub-self
overflow_sub-self g c = (kept-removed c.self.inside.cache c.pop.new.self c.self.inside.weight c.args.item.now _ c.self.invariant c.in-Some.ensures.value c.in-Some.ensures.entries).less

pub invariant_of-self-2 : goal.invariant_of-self-2
invariant_of-self-2 g c = (kept-removed c.self.inside.cache c.pop.new.self c.self.inside.weight c.args.item.now _ c.self.invariant c.in-Some.ensures.value c.in-Some.ensures.entries).kept

pub returns-clause-value : goal.returns-clause-value
returns-clause-value g c = (kept-removed c.self.inside.cache c.pop.new.self c.self.inside.weight c.args.item.now _ c.self.invariant c.in-Some.ensures.value c.in-Some.ensures.entries).is ∙ ap (rest_of c.args.item.now) c.self.view_is
