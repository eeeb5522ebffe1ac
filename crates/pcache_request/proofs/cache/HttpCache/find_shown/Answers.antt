use Rattle.std.proofs.Common.{sym, ap, ◌∙◌, option_map}
use Rattle.pcache_request.proofs.cache.HttpCache.find_shown.Goals as goal

-- what the store has is found
pub found-requires : goal.found-requires
found-requires g c = (g.S.StoreMeaning.state c.args.storage.now, c.args.self.now.key, sym c.in_ok-meta.ensures.found ∙ ap (option_map (λ p. (p.0, g.S.Hit.HandleHit.reader p.1))) c.in-Some.is)
