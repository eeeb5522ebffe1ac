use Rattle.pcache_table.proofs.Words.{FoldsTo, CalledAtEntry}
use Rattle.pcache_table.proofs.hashtable.concurrent.visit.Given as goal

-- the calls at the entries that are left complete the calls at all of them
abbrev pub invariant-loop-key : goal.invariant-loop-key
invariant-loop-key g l = goal.F-IsAlwaysCallable g l.f × ((last : _) → FoldsTo (CalledAtEntry g.F.FnMut) l.f l.key-iterator last → FoldsTo (CalledAtEntry g.F.FnMut) l.fn.f l.initial.key-iterator last)
