use Rattle.std.proofs.Common.{option_map}
use Rattle.pcache_request.specs.Requests.{Request}
use Rattle.pcache_store.specs.Store.{Reader}
use Rattle.pcache_world.proofs.Words.{rules, ◌≡◌, Option, Some, subst, refl, Meta, reader_of, Store, wrote, Ongoing, MovesStore, held_with}
use Rattle.pcache_world.proofs.MovesOf.{writes}
use Rattle.pcache_world.proofs.world.fill.write.Goals as goal

pub returns-clause-moves : goal.returns-clause-moves
returns-clause-moves c =
    let s : Store = c.args.store.now.state in
    let r : Request = c.request.inside.cache in
    let pair : Option (Meta × Reader) = option_map (λ p. (p.0, reader_of p.1)) c.request.inside.pair in
    let y : Ongoing = held_with c.request.inside.carried pair (record r { write = Some c.write_body.new.self.number; entry = Some c.write_body.new.self.number }) in
    let due : r.write ≡ Some c.number-write.result = search rules in
    let made : y.request.write ≡ r.write = search rules in
    let to : c.write_body.new.store.state ≡ wrote s c.number-write.result c.in-Ok-clone.noted c.args.eof = search rules in
    subst (λ (x : Ongoing). MovesStore (Some x) s c.push_reserved.new.self.items (Some y) c.write_body.new.store.state) c.request.view_is
    (writes (held_with c.request.inside.carried pair r) y s c.write_body.new.store.state c.number-write.result c.in-Ok-clone.noted c.args.eof c.args.events.now.items c.push_reserved.new.self.items c.requires.none c.push_reserved.ensures.items due (λ w. refl) made to)
