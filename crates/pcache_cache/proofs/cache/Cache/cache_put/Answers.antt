use Rattle.pcache_cache.proofs.Pieces.{takes_in}
use Rattle.pcache_cache.proofs.cache.Cache.cache_put.Goals as goal

pub returns : goal.returns
returns g c =
    let read = c.read_piece-read in
    let stored = c.store_piece in
    record { takes = takes_in g.C.CachePut.says c.args.put.now.put read.new.self stored.new.put.put (record { bytes = c.args.piece.now; now = c.args.now }) read.result stored.result c.args.self.now stored.new.self read.ensures.read read.ensures.kind stored.ensures.takes }
