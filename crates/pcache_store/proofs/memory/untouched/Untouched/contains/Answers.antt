use Rattle.std.proofs.Common.{is_some}
use Rattle.pcache_table.proofs.TableMaps.{got}
use Rattle.pcache_store.proofs.Words.{◌||◌, ◌∙◌, ap, sym, numbers_in}
use Rattle.std.specs.FinMap as map
use Rattle.pcache_store.proofs.Untouched.{contained}
use Rattle.pcache_store.proofs.memory.untouched.Untouched.contains.Goals as goal

pub returns-else-is_one : goal.returns-else-is_one
returns-else-is_one c =
    let es = c.self.inside.more.entries in
    c.contains_key.ensures ∙ ap is_some (sym (got es c.args.number))
    ∙ ap (λ b. b || map.contains_key (numbers_in es) c.args.number) (sym c.if-is_one.false ∙ c.is_one.ensures)
    ∙ sym (contained (numbers_in es) c.args.number c.self.inside.one)
    ∙ ap (λ m. map.contains_key m c.args.number) c.self.view_is
