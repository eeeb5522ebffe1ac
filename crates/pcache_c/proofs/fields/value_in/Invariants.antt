use Rattle.pcache_c.proofs.Words.{◌≡◌, slice_get, get_all, lowercase}
use Rattle.pcache_c.proofs.fields.value_in.Given as goal

abbrev pub invariant-values : goal.invariant-values
invariant-values l = slice_get l.value-iterator l.left ≡ slice_get (get_all l.fn.fields (lowercase l.fn.name)) l.fn.index
