use Rattle.pcache_table.proofs.Words.{◌≡◌, sym, ◌∙◌, ap, Some, None, Option, ℕ, least, first_key}
use Rattle.pcache_table.proofs.Least.{if_least, if_first, if_none}
use Rattle.pcache_table.proofs.TableMaps.{entries_of}
use Rattle.pcache_table.proofs.hashtable.table.Table.least.Goals as goal

pub returns-in-Some : goal.returns-in-Some
returns-in-Some g c =
    let es = c.self.inside.tree.entries in
    let value : ◌≡◌ {A = Option ℕ} (Some c.in-Some.number.now) (least c.args.self.now) = ap first_key (sym c.in-Some.ensures.steps ∙ c.iter.ensures.rest ∙ sym (entries_of es c.iter.ensures.ordered)) ∙ ap least c.self.view_is in
    record {
      value = value;
      there = if_least c.args.self.now _ value;
      first = if_first c.args.self.now _ value;
      none = if_none c.args.self.now _ value;
    }

pub returns-in-None : goal.returns-in-None
returns-in-None g c =
    let es = c.self.inside.tree.entries in
    let value : ◌≡◌ {A = Option ℕ} None (least c.args.self.now) = ap first_key (sym c.in-None.ensures.steps.0 ∙ c.iter.ensures.rest ∙ sym (entries_of es c.iter.ensures.ordered)) ∙ ap least c.self.view_is in
    record {
      value = value;
      there = if_least c.args.self.now _ value;
      first = if_first c.args.self.now _ value;
      none = if_none c.args.self.now _ value;
    }
