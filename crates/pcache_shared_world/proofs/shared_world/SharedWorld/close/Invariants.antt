use Rattle.pcache_shared_world.proofs.Words.{◌++◌, ◌≡◌, ◌+◌, ◌≤◌, map, length, vec_capacity, vec_len, All, IsKeeper, Rises, whole, receipt_of, joined, indices_of}
use Rattle.pcache_shared_world.proofs.shared_world.SharedWorld.close.Given as goal

abbrev pub invariant-loop-share : goal.invariant-loop-share
invariant-loop-share g l =
    (l.keeper.table_id ≡ g.K.Mark.opened.table)
    × IsKeeper l.keeper.me
    × (l.keeper.me.0.parts + length l.share-iterator.rest.items ≡ whole)
    × (l.keeper.me.0.all ≡ l.initial.keeper.me.0.all)
    × (vec_len l.all + length l.share-iterator.rest.items ≤ vec_capacity l.all)
    × (joined (map (λ v. v.items) l.all.items) ≡ map (receipt_of (length g.K.Mark.opened.log.history)) l.keeper.me.0.claims)
    × All (λ rs. Rises (indices_of rs)) (map (λ v. v.items) l.all.items)
    × (map (λ v. v.items) l.all.items ++ l.share-iterator.rest.items ≡ l.fn.shares.items)
