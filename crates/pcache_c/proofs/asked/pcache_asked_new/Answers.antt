use Rattle.pcache_c.proofs.Told.{asked_made, ok_err}
use Rattle.pcache_c.proofs.asked.pcache_asked_new.Goals as goal

pub returns : goal.returns
returns c =
    asked_made _ _ _ _ _ _ (λ none. ok_err _ _ (c.in-Ok.ensures.invalid.1 none))
    (record { method_is = c.in-Ok.ensures.ok; target_is = c.in-Ok-from_slice.ensures.items; fields = c.new-headers.ensures }) c.fill.ensures
