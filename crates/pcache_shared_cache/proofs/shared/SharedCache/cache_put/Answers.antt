use Rattle.pcache_cache.proofs.Pieces.{takes_in}
use Rattle.pcache_put.specs.Readings.{ReadsPiece}
use Rattle.pcache_shared_cache.proofs.Words.{ap, subst, sym, ◌∙◌, Piece, Put, SeatedPut}
use Rattle.pcache_shared_cache.proofs.Logs.{goes_by, lent}
use Rattle.pcache_shared_cache.proofs.Pushed.{piece_taken}
use Rattle.pcache_shared_cache.proofs.shared.SharedCache.cache_put.Goals as goal

pub adds-requires-clause-leads : goal.adds-requires-clause-leads
adds-requires-clause-leads g c =
    let x = c.args.put.now.put in
    let p = c.part-2.inside.cache in
    let read = c.read_piece-read in
    let stored = c.store_piece-result in
    let piece : Piece = record { bytes = c.args.piece.now; now = c.args.now } in
    let mid = ap (λ (s : SeatedPut g.row.C.Denot). s.put) (sym c.put.view_is) in
    let row = takes_in g.C.CachePut.says x c.put.inside.pending.put stored.new.put.put piece read.result stored.result p stored.new.self (subst (λ (m : Put g.row.C.Denot). ReadsPiece (g.C.CachePut.says x.policy) x m piece read.result) mid read.ensures.read) read.ensures.kind stored.ensures.takes in
    (p, c.part-2.invariant, piece_taken row)

pub returns-clause-goes : goal.returns-clause-goes
returns-clause-goes g c =
    let x = c.args.put.now.put in
    let p = c.part-2.inside.cache in
    let read = c.read_piece-read in
    let stored = c.store_piece-result in
    let q = stored.new.self in
    let piece : Piece = record { bytes = c.args.piece.now; now = c.args.now } in
    let mid = ap (λ (s : SeatedPut g.row.C.Denot). s.put) (sym c.put.view_is) in
    let row = takes_in g.C.CachePut.says x c.put.inside.pending.put stored.new.put.put piece read.result stored.result p q (subst (λ (m : Put g.row.C.Denot). ReadsPiece (g.C.CachePut.says x.policy) x m piece read.result) mid read.ensures.read) read.ensures.kind stored.ensures.takes in
    let here = lent c.args.self.now c.part.result.now c.part.ensures.limits c.part.ensures.place (c.place.ensures.place ∙ read.ensures.place) c.lock-guard.ensures.place c.lock-guard.ensures.limits (c.part-2.view_is ∙ c.deref_mut-part.ensures.value) in
    goes_by c.args.self.now g.K.Mark.names c.part-2.inside.log.place c.args.put.now.place c.put.inside.sight.log c.args.put.now.seen c.adds.new.sight.log p q here (ap (λ (s : SeatedPut g.row.C.Denot). s.seen) c.put.view_is ∙ read.ensures.seen)
    (c.adds.ensures.moves p c.part-2.invariant) row
