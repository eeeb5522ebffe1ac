use Rattle.pcache_policies.proofs.Words.{◌∙◌, ap, refl, map_of, seen_of, entries_in}
use Rattle.pcache_policies.proofs.Managed.{map-accessed}
use Rattle.pcache_policies.proofs.Seens.{there-list}
use Rattle.pcache_policies.proofs.manager.ManagerEvictionManager.access.Goals as goal

pub returns-clause-was : goal.returns-clause-was
returns-clause-was g c = c.in_ok-was.ensures.was ∙ there-list c.args.item.now (g.Q.Discipline.way.whole c.args.self.now.order)

pub returns-clause-ok : goal.returns-clause-ok
returns-clause-ok g c = ap (λ s. map_of (entries_in g.Q.Discipline.way s.order)) c.in_ok-was.ensures.ok ∙ map-accessed g.Q.Discipline.way c.laws.ensures (seen_of c.args.item.now (g.Q.Discipline.way.whole c.args.self.now.order)) c.args.item.now c.args.size c.args.self.now.order refl c.access.ensures.once

pub returns-in_err-was-clause-there : goal.returns-in_err-was-clause-there
returns-in_err-was-clause-there g c = λ has.
    let given = c.in_err-was.ensures.there (there-list c.args.item.now (g.Q.Discipline.way.whole c.args.self.now.order) ∙ has) in
    cc

pub returns-clause-order : goal.returns-clause-order
returns-clause-order g c = (c.args.self.now.order, c.access.new.self.order, refl, refl, ap (λ s. s.order) c.in_ok-was.ensures.ok)
