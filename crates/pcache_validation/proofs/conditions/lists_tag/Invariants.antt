use Rattle.pcache_validation.specs.EntityTags.{tag_in}
use Rattle.pcache_validation.specs.Conditions.{matches_weakly}
use Rattle.pcache_validation.proofs.Words.{◌≡◌, list_any, option_copied, lists_tag}
use Rattle.pcache_validation.proofs.conditions.lists_tag.Given as goal

abbrev pub invariant-loop-element : goal.invariant-loop-element
invariant-loop-element l =
    list_any (λ element. matches_weakly (tag_in element) (option_copied l.fn.selected)) l.element-iterator ≡ lists_tag (option_copied l.fn.selected) l.fn.line
