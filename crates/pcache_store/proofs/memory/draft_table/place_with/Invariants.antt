use Rattle.pcache_store.proofs.Words.{◌≡◌, ◌<◌, ℕ, None, table_at}
use Rattle.std.specs.FinMap as map
use Rattle.pcache_store.proofs.memory.draft_table.place_with.Given as goal

-- no table below the place has the number
abbrev pub invariant-loop-place : goal.invariant-loop-place
invariant-loop-place l = (i : ℕ) → i < l.place → map.get (table_at l.fn.shards i) l.fn.number ≡ None
