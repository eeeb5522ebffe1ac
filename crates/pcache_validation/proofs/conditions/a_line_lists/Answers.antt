use Rattle.pcache_validation.proofs.Words.{◌∙◌, codes, option_copied, lists_tag}
use Rattle.pcache_validation.proofs.Shown.{any_shown}
use Rattle.pcache_validation.proofs.conditions.a_line_lists.Goals as goal

pub returns : goal.returns
returns c = c.a_value_lists.ensures ∙ any_shown (lists_tag (option_copied c.args.selected)) c.args.request.now (codes "if-none-match")
