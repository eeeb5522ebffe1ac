use Rattle.std.proofs.Common.{drop}
use Rattle.pcache_lock.proofs.Words.{◌≡◌, ◌+◌, take, first_told}
use Rattle.pcache_lock.proofs.Published.{place_told}
use Rattle.pcache_lock.proofs.lock.publications.Publications.first_told.Given as goal

-- what the fills so far are told, and at which place
abbrev pub invariant-loop-fill : goal.invariant-loop-fill
invariant-loop-fill l = record {
  place : l.before ≡ l.from + place_told (take l.fill-index l.fill-items) (drop l.from l.self);
  told : l.told ≡ first_told (take l.fill-index l.fill-items) (drop l.from l.self);
}
