use Rattle.pcache_lock.proofs.Words.{◌∙◌, ap, subst, sym, IsIndex}
use Rattle.pcache_lock.proofs.Published.{cleared_alone, cleared_last}
use Rattle.pcache_lock.proofs.lock.publications.Publications.clear.Goals as goal
use Rattle.pcache_lock.proofs.lock.publications.Publications.clear.Goals.{then-readers-eq0, else-readers-eq0}

pub invariant_of-self : goal.invariant_of-self
invariant_of-self c = elim c.if-readers-eq0.branch [
  | then-readers-eq0 w ↦ cleared_alone _ c.if-readers-eq0.self-inside.kept.items c.push_reserved.new.self.items c.new.result.items _
      (ap (λ x. x.index.keys) w.self-inside-is ∙ w.clear-then-readers-eq0.ensures.empty) (ap (λ x. x.kept.items) w.self-inside-is ∙ w.clear.ensures.items)
      c.new.ensures.items c.push_reserved.ensures.items
  | else-readers-eq0 w ↦ cleared_last _ c.if-readers-eq0.self-inside.kept.items c.push_reserved.new.self.items c.new.result.items _
      (subst (λ x. IsIndex x.index x.kept.items) (sym w.self-inside-is) c.self.invariant.1)
      c.new.ensures.items c.push_reserved.ensures.items
]
