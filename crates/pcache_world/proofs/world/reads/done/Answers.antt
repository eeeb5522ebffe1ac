use Rattle.std.proofs.Common.{option_map}
use Rattle.pcache_request.specs.Requests.{Request}
use Rattle.pcache_store.specs.Store.{Reader}
use Rattle.pcache_world.proofs.Words.{[], Option, Some, refl, ap, subst, Meta, reader_of, Ongoing, MovesStore, held_with}
use Rattle.pcache_world.proofs.MovesOf.{reader-goes}
use Rattle.pcache_world.proofs.world.reads.done.Goals as goal

pub returns-clause-moves : goal.returns-clause-moves
returns-clause-moves c =
    let pair : Option (Meta × Reader) = option_map (λ p. (p.0, reader_of p.1)) c.request.inside.pair in
    let r : Request = c.request.inside.cache in
    let y : Ongoing = held_with c.request.inside.carried pair c.finish_hit_handler.new.self in
    let now = c.finish_hit_handler.ensures.ends.request in
    subst (λ (x : Ongoing). MovesStore (Some x) c.args.store.now.state [] (Some y) c.finish_hit_handler.new.storage.state) c.request.view_is
    (reader-goes (held_with c.request.inside.carried pair r) y c.args.store.now.state c.finish_hit_handler.new.storage.state [] refl refl (ap (λ (z : Request). z.reader) now) (ap (λ (z : Request). z.write) now) c.finish_hit_handler.ensures.ends.store)
