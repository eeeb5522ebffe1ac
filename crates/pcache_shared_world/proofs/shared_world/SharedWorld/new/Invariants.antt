use Rattle.pcache_shared_world.proofs.Words.{◌-◌, ◌≡◌, ◌+◌, ◌≤◌, [], length, vec_len, vec_capacity, All, keeper, whole}
use Rattle.pcache_shared_world.proofs.shared_world.SharedWorld.new.Given as goal

abbrev pub invariant-loop-made : goal.invariant-loop-made
invariant-loop-made g l =
    (l.made ≤ l.fn.opening.shares)
    × (l.keeper.table_id ≡ g.K.Mark.opened.table)
    × (l.keeper.me ≡ (keeper l.keeper.me.0.parts [] [], []))
    × (l.keeper.me.0.parts + l.made ≡ whole)
    × (vec_len l.shares ≡ l.made)
    × (length l.shares.items ≡ l.made)
    × (vec_capacity l.shares ≡ l.fn.opening.shares)
    × All (λ s. s ≡ []) l.shares.items

abbrev pub decreases-loop-made : goal.decreases-loop-made
decreases-loop-made g l = l.count - l.made
