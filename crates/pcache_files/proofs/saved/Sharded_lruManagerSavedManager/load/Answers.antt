use Rattle.pcache_evict.specs.Shards.{Sharded}
use Rattle.pcache_files.proofs.Words.{ap, ◌∙◌, map_of, all}
use Rattle.pcache_files.proofs.PutIn.{map_joined_all}
use Rattle.pcache_files.proofs.saved.Sharded_lruManagerSavedManager.load.Goals as goal

pub returns-clause-ok : goal.returns-clause-ok
returns-clause-ok g c =
    let loaded = c.in_ok-skipped.ensures.ok in
    (loaded.0, loaded.1, ap (λ (m : Sharded). map_of (all m.shards)) loaded.2 ∙ map_joined_all g.row.N loaded.0 c.args.self.now.shards c.in_ok-skipped.ensures.placed)
