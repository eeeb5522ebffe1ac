use Rattle.pcache_store.proofs.Words.{◌∙◌, ap}
use Rattle.std.specs.FinMap as map
use Rattle.pcache_store.proofs.Records.{here}
use Rattle.pcache_store.proofs.memory.draft_table.DraftTable.get.Goals as goal

pub returns : goal.returns
returns c = c.get.ensures ∙ here c.self.invariant c.place_of-place.result c.args.number c.place_of-place.ensures.within c.place_of-place.ensures.place c.index-shards-place.result ∙ ap (λ m. map.get m c.args.number) c.self.view_is
