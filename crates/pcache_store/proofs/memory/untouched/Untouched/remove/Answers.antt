use Rattle.pcache_table.proofs.TableMaps.{removed}
use Rattle.pcache_store.proofs.Words.{◌∙◌, ap, sym, numbers_in, with_one}
use Rattle.std.specs.FinMap as map
use Rattle.pcache_store.proofs.Untouched.{taken, left_in}
use Rattle.pcache_store.proofs.memory.untouched.Untouched.remove.Goals as goal

pub returns-then-is_one : goal.returns-then-is_one
returns-then-is_one c =
    let es = c.self.inside.more.entries in
    removed es c.remove.new.self.entries c.args.number c.remove.ensures.updates.0
    ∙ taken (numbers_in es) c.args.number c.self.inside.one (sym c.is_one.ensures ∙ c.if-is_one.true)
    ∙ ap (λ m. map.remove m c.args.number) c.self.view_is

pub returns-else-is_one : goal.returns-else-is_one
returns-else-is_one c =
    let es = c.self.inside.more.entries in
    ap (with_one c.self.inside.one) (removed es c.remove.new.self.entries c.args.number c.remove.ensures.updates.0)
    ∙ left_in (numbers_in es) c.args.number c.self.inside.one (sym c.is_one.ensures ∙ c.if-is_one.false)
    ∙ ap (λ m. map.remove m c.args.number) c.self.view_is
