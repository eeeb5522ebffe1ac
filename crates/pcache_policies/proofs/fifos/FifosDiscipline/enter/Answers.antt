use Rattle.pcache_policies.specs.Fifos.{left_of}
use Rattle.pcache_policies.proofs.Words.{◌∷◌, ◌∙◌, ap, sym, unused, Ring, fifos}
use Rattle.pcache_policies.proofs.FifoLaws.{entered-ghost, entered-new}
use Rattle.pcache_policies.proofs.fifos.FifosDiscipline.enter.Goals as goal

pub returns-then-has-clause-ok : goal.returns-then-has-clause-ok
returns-then-has-clause-ok g c =
    ap (λ (r : Ring). fifos r.ahead r.passed c.forget.new.self) c.in_ok-add_passed.ensures.ok
    ∙ ap (λ g. fifos c.args.self.now.ring.ahead ((c.args.item, unused c.args.size) ∷ c.args.self.now.ring.passed) g) c.forget.ensures
    ∙ sym (entered-ghost c.args.item c.args.size (left_of c.args.self.now) (sym c.if-has.ensures))

pub returns-clause-ok : goal.returns-clause-ok
returns-clause-ok g c =
    ap (λ (r : Ring). fifos r.ahead r.passed c.args.self.now.ghosts) c.in_ok-add_ahead.ensures.ok
    ∙ sym (entered-new c.args.item c.args.size (left_of c.args.self.now) (sym c.if-has.ensures))
