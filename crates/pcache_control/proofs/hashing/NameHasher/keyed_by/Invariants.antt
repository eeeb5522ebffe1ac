use Rattle.pcache_base.specs.Hashing.{Holds}
use Rattle.pcache_control.specs.NameHashes.{joined}
use Rattle.pcache_control.proofs.Words.{◌≡◌, ◌++◌, ℕ, List}
use Rattle.pcache_control.proofs.hashing.NameHasher.keyed_by.Given as goal

-- the message so far, and the lines that are left, are all lines
abbrev pub invariant-lines : goal.invariant-lines
invariant-lines l = (done : List ℕ) × Holds l.message done × (done ++ joined l.line-iterator ≡ joined l.fn.lines)
