use Rattle.pcache_validation.proofs.Words.{◌≡◌, codes, list_any, option_copied, FieldValue, get_all, lists_tag}
use Rattle.pcache_validation.proofs.conditions.a_value_lists.Given as goal

abbrev pub invariant-loop-line : goal.invariant-loop-line
invariant-loop-line l =
    list_any (λ (v : FieldValue). lists_tag (option_copied l.fn.selected) v.bytes) l.line-iterator
    ≡ list_any (λ (v : FieldValue). lists_tag (option_copied l.fn.selected) v.bytes) (get_all l.fn.request (codes "if-none-match"))
