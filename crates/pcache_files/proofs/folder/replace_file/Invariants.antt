use Rattle.pcache_files.specs.Folder.{IsRefused}
use Rattle.pcache_files.proofs.Words.{ℕ, List, ◌<◌}
use Rattle.pcache_files.proofs.folder.replace_file.Given as goal

-- a name that was tried was refused
abbrev pub invariant-suffixes : goal.invariant-suffixes
invariant-suffixes g l = 0 < l.step → (path : List ℕ) × IsRefused (g.R.NamedFiles.refuses l.fn.files) path
