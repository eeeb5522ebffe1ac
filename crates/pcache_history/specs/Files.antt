-- Calls that save and load the files of an eviction manager (own). They name no request, and make no event: what the manager
-- tracks after the loads, before the first other call, is where the history starts.
use Rattle.std.specs.Prelude.{◌≡◌, Bool, true, false, ◌&&◌, Option, Some, None, List, [], ◌∷◌}
use Rattle.pcache_history.specs.declared.call.Act.{Act}
use Rattle.pcache_history.specs.declared.call.Act.TheVariants as C
use Rattle.pcache_history.specs.declared.call.FilesAct.{FilesAct}
use Rattle.pcache_history.specs.declared.call.FilesAct.TheVariants as F
use Rattle.pcache_history.specs.declared.entry.Entry.{Entry}
use Rattle.pcache_history.specs.Facts.{Facts}

-- the act on files, if an act is one
abbrev pub files_in : Act → Option FilesAct
files_in (C.Files a) = Some a
files_in _ = None

abbrev pub is_load : Act → Bool
is_load (C.Files F.Load) = true
is_load _ = false

-- all calls of a history were loads
abbrev pub only_loads : List Entry → Bool
only_loads [] = true
only_loads (e ∷ h) = is_load e.call.act && only_loads h

-- the fact `early` of a load is what the history says: whether only loads came before it
abbrev pub IsEarly : Act → Facts → List Entry → Type 0
IsEarly (C.Files F.Load) f h = f.early ≡ only_loads h
IsEarly _ f h = Unit {0}
