use Rattle.std.proofs.Common.{option_map}
use Rattle.pcache_request.specs.Requests.{Request}
use Rattle.pcache_store.specs.Store.{Reader}
use Rattle.pcache_world.proofs.Words.{[], Option, Some, refl, ap, subst, Meta, reader_of, Ongoing, MovesStore, held_with}
use Rattle.pcache_world.proofs.MovesOf.{let-go}
use Rattle.pcache_world.proofs.world.turn.miss.Goals as goal

pub returns-clause-moves : goal.returns-clause-moves
returns-clause-moves c =
    let pair : Option (Meta × Reader) = option_map (λ p. (p.0, reader_of p.1)) c.request.inside.pair in
    let now : Option (Meta × Reader) = option_map (λ p. (p.0, reader_of p.1)) c.hold.new.place in
    let y : Ongoing = held_with c.request.inside.carried now c.cache_miss.new.self in
    subst (λ (x : Ongoing). MovesStore (Some x) c.args.store.now.state [] (Some y) c.hold.new.store.state) c.request.view_is
    (let-go (held_with c.request.inside.carried pair c.request.inside.cache) y c.args.store.now.state c.hold.new.store.state [] refl (ap (option_map (λ p. (p.0, reader_of p.1))) c.hold.ensures.place)
    (ap (λ (r : Request). r.reader) c.cache_miss.ensures.request) (ap (λ (r : Request). r.write) c.cache_miss.ensures.request) c.hold.ensures.store)
