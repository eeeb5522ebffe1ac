use Rattle.pcache_c.proofs.Words.{◌≡◌, slice_get, pairs}
use Rattle.pcache_c.proofs.fields.field_in.Given as goal

abbrev pub invariant-fields : goal.invariant-fields
invariant-fields l = slice_get l.field-iterator l.left ≡ slice_get (pairs l.fn.fields) l.fn.index
