use Rattle.pcache_store.proofs.Words.{sym, subst, ◌∙◌, ap, AreBefore}
use Rattle.pcache_store.proofs.Writes.{before_taken_back}
use Rattle.pcache_store.proofs.memory.drafts.Drafts.take_back.Goals as goal

pub invariant_of-self : goal.invariant_of-self
invariant_of-self c =
    subst (λ m. AreBefore m c.args.number) (sym c.remove.ensures)
    (before_taken_back c.self.inside.writes c.args.number (subst (AreBefore c.self.inside.writes) (ap (λ a. a.next) c.self.view_is ∙ c.requires) c.self.invariant))
