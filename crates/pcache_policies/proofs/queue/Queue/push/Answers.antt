use Rattle.pcache_policies.proofs.Words.{◌≡◌, ◌∙◌, None, ap, subst, sym, arith, ◌∷◌, seen_of}
use Rattle.pcache_policies.proofs.Queues.{kept-pushed, kept_bound}
use Rattle.pcache_policies.proofs.queue.Queue.push.Goals as goal

pub overflow_add-self : goal.overflow_add-self
overflow_add-self g c =
    let bound = kept_bound c.self.inside.cache c.self.inside.weight c.self.invariant in
    let few = c.self.invariant.few in
    omega (arith, bound, few)

pub invariant_of-self-2 : goal.invariant_of-self-2
invariant_of-self-2 g c =
    (kept-pushed c.self.inside.cache c.put.new.self c.self.inside.weight c.args.item c.args.seen c.self.invariant (subst (λ q. seen_of c.args.item q ≡ None) (sym c.self.view_is) c.requires) c.in_ok-put.ensures.entries c.len.ensures.valid.0 (let few = c.len.ensures.fits in let len = c.len.ensures.len in omega arith) (omega arith)).kept

pub returns-clause-ok : goal.returns-clause-ok
returns-clause-ok g c =
    (kept-pushed c.self.inside.cache c.put.new.self c.self.inside.weight c.args.item c.args.seen c.self.invariant (subst (λ q. seen_of c.args.item q ≡ None) (sym c.self.view_is) c.requires) c.in_ok-put.ensures.entries c.len.ensures.valid.0 (let few = c.len.ensures.fits in let len = c.len.ensures.len in omega arith) (omega arith)).is
    ∙ ap (λ q. (c.args.item, c.args.seen) ∷ q) c.self.view_is
