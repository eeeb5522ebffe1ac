use Rattle.pcache_table.proofs.Words.{◌≡◌, List, map, FoldsTo, range_with_len, Part, Visits}
use Rattle.pcache_table.proofs.hashtable.concurrent.ConcurrentHashTable.for_each.Given as goal

-- the shards below the place were visited
abbrev pub invariant-loop-place : goal.invariant-loop-place
invariant-loop-place g l =
    goal.F-IsAlwaysCallable g l.f
    × ((ps : List (Part g.row.V.Denot)) × (map (λ (p : Part g.row.V.Denot). p.place) ps ≡ range_with_len 0 l.place) × FoldsTo (Visits g.F.FnMut g.row.N) l.fn.f ps l.f)
