use Rattle.pcache_evict.proofs.Words.{◌≡◌, ◌∙◌, sym, subst, ap, arith, IfSome, weight_of, moved}
use Rattle.pcache_evict.proofs.Recency.{kept-promoted}
use Rattle.pcache_evict.proofs.eviction.recency.RecencyList.promote.Goals as goal

pub invariant_of-self : goal.invariant_of-self
invariant_of-self g c = (kept-promoted c.self.inside.cache c.promote-was.new.self c.self.inside.weight c.args.item.now c.self.invariant c.promote-was.ensures.entries (let few = c.len.ensures.fits in let len = c.len.ensures.len in omega arith)).kept

pub returns-clause-there : goal.returns-clause-there
returns-clause-there g c =
    subst (λ l. IfSome (weight_of c.args.item.now l) (λ w. c.promote-was.new.self.entries ≡ moved c.args.item.now w l)) c.self.view_is
    (kept-promoted c.self.inside.cache c.promote-was.new.self c.self.inside.weight c.args.item.now c.self.invariant c.promote-was.ensures.entries (let few = c.len.ensures.fits in let len = c.len.ensures.len in omega arith)).there

pub returns-clause-missing : goal.returns-clause-missing
returns-clause-missing g c = λ no.
    ap (λ c. c.entries) ((kept-promoted c.self.inside.cache c.promote-was.new.self c.self.inside.weight c.args.item.now c.self.invariant c.promote-was.ensures.entries (let few = c.len.ensures.fits in let len = c.len.ensures.len in omega arith)).missing (sym c.promote-was.ensures.value ∙ no))
    ∙ c.self.view_is
