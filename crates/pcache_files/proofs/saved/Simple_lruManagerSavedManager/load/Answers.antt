use Rattle.pcache_evict.specs.Listed.{Listed}
use Rattle.pcache_files.specs.Folder.{list_name}
use Rattle.pcache_files.proofs.Words.{ap, ◌∙◌, map_of}
use Rattle.pcache_files.proofs.PutIn.{loads_one, map_loaded_all}
use Rattle.pcache_files.proofs.saved.Simple_lruManagerSavedManager.load.Goals as goal

pub returns-clause-ok : goal.returns-clause-ok
returns-clause-ok g c =
    let loaded = c.in_ok-load.ensures.ok in
    (loaded.0, loads_one (g.R.NamedFiles.opens c.args.files.now) g.R.File.TriedRead.remaining g.R.File.TriedRead.source (g.R.NamedFiles.refuses c.args.files.now) g.R.File.TriedRead.read_fails c.args.dir.now list_name loaded.0 loaded.1, ap (λ (m : Listed). map_of m.entries) loaded.2 ∙ map_loaded_all loaded.0 c.args.self.now.entries)
