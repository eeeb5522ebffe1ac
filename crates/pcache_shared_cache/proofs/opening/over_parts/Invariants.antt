use Rattle.pcache_shared_cache.proofs.Words.{map, slice_get, unmade_name}
use Rattle.pcache_shared_cache.proofs.opening.over_parts.Given as goal

-- the mark names at each place the keeper that stands there
abbrev pub ghosts-named : goal.ghosts-named
ghosts-named g a = record { names = λ place. slice_get (map unmade_name a.parts.items) place }
